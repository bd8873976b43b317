-- Many equal units: only the first of them may choose a mark, so that a state has one successor by each later one at most.
use Rattle.std.proofs.Common.{◌≡◌, ℕ, ◌+◌, ◌-◌, Bool, true, false, cond, List, [], ◌∷◌, ◌++◌, refl, sym, ◌∙◌, ap, subst, arith, append-nil, ◌⊎◌, inl, inr, zero, suc}
use Rattle.std.specs.Prelude.{Option, None, Some, map, replicate, nat_eq, ◌&&◌, if◌then◌else◌}
use Rattle.std.specs.Option.{option_to_list}
use Rattle.std.proofs.lemmas.Bool.Decides.{nat_tests}
use Rattle.duty_core.specs.declared.activity.Activity.{Activity}
use Rattle.duty_core.specs.declared.mark.Mark.{Mark}
use Rattle.duty_core.specs.Activity.{drives}
use Rattle.rule_core.specs.declared.nexts.Next.{Next}
use Rattle.rule_core.specs.Reach.{IsOneOf}
use Rattle.rule_core.specs.Laws.OneOf.{one_of-flat_map, one_of_flat_map}
use Rattle.sleeper_split.specs.declared.rule.TheConstants.SplitRule.{US}
use Rattle.sleeper_split.specs.Machine.{after_rest, after_duty, run_of}
use Rattle.sleeper_split.specs.Choices.{Choice, choice, choices, sleeps, at_duty, run_choices}
use Rattle.us_rules.specs.declared.state.UsState.{UsState}
use Rattle.us_rules.specs.Machine.{us_fits, break_after, break_ok, week_after, week_ok, mark_of, us_next, us_nexts, first_of, goes_on, marked_next, us_advances}
use Rattle.us_rules.specs.Laws.Paths.{UsReaches, next_means, us_choice}
use Rattle.us_rules.specs.Advance.{IsSteady}

-- one choice at most, that declares nothing
abbrev pub IsOnly : List Choice → Type 0
IsOnly cs = (cs ≡ []) ⊎ ((c : Choice) × (cs ≡ c ∷ []) × (c.split ≡ false))

only_test : (b : Bool) (c : Choice) → c.split ≡ false → IsOnly (cond b (c ∷ []) [])
only_test true c e = inr (c, refl, e)
only_test false c e = inl refl

no_run : (n : ℕ) → n ≡ 0 → nat_eq n 0 ≡ true
no_run n e = grind (arith, nat_tests)

steady_choices : (berth : Bool) (s : UsState) (x : Activity) → IsSteady s x → IsOnly (choices US berth us_fits s.split x)
steady_choices berth s x h = elim h [
  | inl r ↦ inr (choice (after_rest (sleeps x) s.split) false, ap (λ b. cond b (choice (after_rest (sleeps x) s.split) false ∷ []) (cond (nat_eq (run_of s.split) 0) (at_duty us_fits x false s.split) (run_choices US berth us_fits s.split x))) r, refl)
  | inr d ↦
      let e : choices US berth us_fits s.split x ≡ at_duty us_fits x false s.split =
      ap (λ b. cond b (choice (after_rest (sleeps x) s.split) false ∷ []) (cond (nat_eq (run_of s.split) 0) (at_duty us_fits x false s.split) (run_choices US berth us_fits s.split x))) d.0
      ∙ ap (λ b. cond b (at_duty us_fits x false s.split) (run_choices US berth us_fits s.split x)) (no_run (run_of s.split) d.1) in
      subst IsOnly (sym e) (only_test (cond (drives x) (us_fits (after_duty (drives x) s.split)) true) (choice (after_duty (drives x) s.split) false) refl)
]

-- one successor at most, with no mark
abbrev pub IsOnlyNext : List (Next UsState) → Type 0
IsOnlyNext ns = (ns ≡ []) ⊎ ((t : UsState) × (ns ≡ record { state = t; mark = None } ∷ []))

only_next : (b : Bool) (f : Choice → Next UsState) (cs : List Choice) → ((c : Choice) → c.split ≡ false → (f c).mark ≡ None) → IsOnly cs → IsOnlyNext (if b then map f cs else [])
only_next false f cs bare h = inl refl
only_next true f cs bare h = elim h [
  | inl e ↦ inl (ap (map f) e)
  | inr k ↦ inr ((f k.0).state, ap (map f) k.1 ∙ ap (λ m. record { state = (f k.0).state; mark = m } ∷ []) (bare k.0 k.2))
]

pub steady_nexts : (berth : Bool) (days day_start : ℕ) (s : UsState) (at : ℕ) (x : Activity) → IsSteady s x → IsOnlyNext (us_nexts berth days day_start s at x)
steady_nexts berth days day_start s at x h =
    only_next (break_ok s.rest_break at x && week_ok days day_start s.week at x) (us_next (break_after s.rest_break at x) (week_after day_start s.week at x) (at - run_of s.split)) (choices US berth us_fits s.split x)
    (λ c e. ap (λ b. mark_of b (at - run_of s.split)) e) (steady_choices berth s x h)

-- after a unit the state goes on so
pub next_steady : (berth : Bool) (days day_start : ℕ) (s : UsState) (at : ℕ) (x : Activity) (n : Next UsState) → IsOneOf (us_nexts berth days day_start s at x) n → IsSteady n.state x
next_steady berth days day_start s at x n o =
    let k = next_means berth days day_start s at x n o in
    let e : run_of k.by.count ≡ run_of n.state.split = ap (λ m. run_of m.state.split) k.is in
    elim (us_choice berth s.split x k.by k.chosen) [
      | inl r ↦ inl r.rest
      | inr l ↦ elim l [
        | inl r ↦ inr (r.work, sym e ∙ sym (ap (λ (c : Choice). run_of c.count) r.is))
        | inr m ↦ elim m [
          | inl r ↦ inr (r.work, sym e ∙ sym (ap (λ (c : Choice). run_of c.count) r.is))
          | inr r ↦ inr (r.work, sym e ∙ sym (ap (λ (c : Choice). run_of c.count) r.is))
        ]
      ]
    ]

-- a path of a state that goes on
path_steady : (berth : Bool) (days day_start : ℕ) (n : ℕ) (s : UsState) (at : ℕ) (x : Activity) (u : UsState) → IsSteady s x → goes_on berth days day_start (Some s) at x n ≡ Some u → UsReaches berth days day_start s at (replicate n x) [] u
path_steady berth days day_start zero s at x u h e = (let q : s ≡ u = cc in q, refl)
path_steady berth days day_start (suc n) s at x u h e = elim (steady_nexts berth days day_start s at x h) [
  | inl none ↦ absurd (let z : None ≡ Some u = sym (ap (λ ns. goes_on berth days day_start (first_of ns) (at + 1) x n) none) ∙ e in cc)
  | inr k ↦
      let m : Next UsState = record { state = k.0; mark = None } in
      let o : IsOneOf (us_nexts berth days day_start s at x) m = subst (λ ns. IsOneOf ns m) (sym k.1) (inl refl) in
      (m, o, [], refl, path_steady berth days day_start n k.0 (at + 1) x u (next_steady berth days day_start s at x m o) (sym (ap (λ ns. goes_on berth days day_start (first_of ns) (at + 1) x n) k.1) ∙ e))
]

steady_path : (berth : Bool) (days day_start : ℕ) (n : ℕ) (s : UsState) (at : ℕ) (x : Activity) (marks : List Mark) (u : UsState) → IsSteady s x → UsReaches berth days day_start s at (replicate n x) marks u →
    (goes_on berth days day_start (Some s) at x n ≡ Some u) × (marks ≡ [])
steady_path berth days day_start zero s at x marks u h r = (ap (λ v. Some v) r.0, r.1)
steady_path berth days day_start (suc n) s at x marks u h r = elim (steady_nexts berth days day_start s at x h) [
  | inl none ↦ absurd (subst (λ ns. IsOneOf ns r.0) none r.1)
  | inr k ↦
      let m : Next UsState = record { state = k.0; mark = None } in
      let one : m ≡ r.0 = (let o : IsOneOf (m ∷ []) r.0 = subst (λ ns. IsOneOf ns r.0) k.1 r.1 in elim o [ inl e ↦ e | inr z ↦ absurd z ]) in
      let q = steady_path berth days day_start n r.0.state (at + 1) x r.2 u (next_steady berth days day_start s at x r.0 r.1) r.4 in (
        ap (λ ns. goes_on berth days day_start (first_of ns) (at + 1) x n) k.1 ∙ (ap (λ v. goes_on berth days day_start (Some v) (at + 1) x n) (ap (λ p. p.state) one) ∙ q.0),
        r.3 ∙ (ap (λ p. option_to_list p ++ r.2) (sym (ap (λ p. p.mark) one)) ∙ q.1),
      )
]

pub marked_means : (mark : Option Mark) (o : Option UsState) (t : Next UsState) → IsOneOf (marked_next mark o) t → (o ≡ Some t.state) × (mark ≡ t.mark)
marked_means mark None t h = absurd h
marked_means mark (Some s) t h = elim h [ inl e ↦ (ap (λ n. Some n.state) e, ap (λ n. n.mark) e) | inr z ↦ absurd z ]

marked_from : (mark : Option Mark) (o : Option UsState) (u : UsState) → o ≡ Some u → IsOneOf (marked_next mark o) (record { state = u; mark = mark })
marked_from mark o u e = subst (λ p. IsOneOf (marked_next mark p) (record { state = u; mark = mark })) (sym e) (inl refl)

pub us_advances_reach : (berth : Bool) (days day_start : ℕ) (n : ℕ) (s : UsState) (at : ℕ) (x : Activity) (t : Next UsState) → IsOneOf (us_advances berth days day_start s at x n) t →
    UsReaches berth days day_start s at (replicate n x) (option_to_list t.mark) t.state
us_advances_reach berth days day_start zero s at x t o = elim o [
  | inl e ↦ (ap (λ m. m.state) e, ap (λ m. option_to_list m.mark) (sym e))
  | inr z ↦ absurd z
]
us_advances_reach berth days day_start (suc n) s at x t o =
    let q = one_of-flat_map (λ r. marked_next r.mark (goes_on berth days day_start (Some r.state) (at + 1) x n)) (us_nexts berth days day_start s at x) t o in
    let m = marked_means q.0.mark (goes_on berth days day_start (Some q.0.state) (at + 1) x n) t q.2 in (
      q.0,
      q.1,
      [],
      ap option_to_list (sym m.1) ∙ sym (append-nil (option_to_list q.0.mark)),
      path_steady berth days day_start n q.0.state (at + 1) x t.state (next_steady berth days day_start s at x q.0 q.1) m.0,
    )

pub us_advances_all : (berth : Bool) (days day_start : ℕ) (n : ℕ) (s : UsState) (at : ℕ) (x : Activity) (marks : List Mark) (u : UsState) → UsReaches berth days day_start s at (replicate n x) marks u →
    (t : Next UsState) × IsOneOf (us_advances berth days day_start s at x n) t × (t.state ≡ u) × (marks ≡ option_to_list t.mark)
us_advances_all berth days day_start zero s at x marks u r = (record { state = s; mark = None }, inl refl, r.0, r.1)
us_advances_all berth days day_start (suc n) s at x marks u r =
    let q = steady_path berth days day_start n r.0.state (at + 1) x r.2 u (next_steady berth days day_start s at x r.0 r.1) r.4 in
    let t : Next UsState = record { state = u; mark = r.0.mark } in (
      t,
      one_of_flat_map (λ p. marked_next p.mark (goes_on berth days day_start (Some p.state) (at + 1) x n)) (us_nexts berth days day_start s at x) r.0 t r.1
          (marked_from r.0.mark (goes_on berth days day_start (Some r.0.state) (at + 1) x n) u q.0),
      refl,
      r.3 ∙ (ap (λ l. option_to_list r.0.mark ++ l) q.1 ∙ append-nil (option_to_list r.0.mark)),
    )
