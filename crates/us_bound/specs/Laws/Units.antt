-- What a step of an activity makes of a state's counts of split rests and of breaks. Of its units only the first may end a run of rest.
use Rattle.std.proofs.Common.{◌≡◌, ℕ, ◌+◌, ◌<◌, ◌≤◌, Bool, true, false, cond, refl, sym, ◌∙◌, ap, subst, arith, ◌⊎◌, inl, inr, zero, suc}
use Rattle.std.specs.Prelude.{None, Some, nat_lt, nat_le, ◌&&◌}
use Rattle.std.proofs.lemmas.Bool.{and_parts}
use Rattle.std.proofs.lemmas.Bool.Decides.{nat_tests}
use Rattle.duty_core.specs.declared.activity.Activity.{Activity}
use Rattle.duty_core.specs.declared.limits.TheConstants.{US_FULL_REST, US_SPLIT_LEAST, US_WINDOW_LIMIT, US_DRIVING_LIMIT, US_UNBROKEN_LIMIT}
use Rattle.duty_core.specs.Activity.{rests, drives}
use Rattle.rule_core.specs.declared.nexts.Next.{Next}
use Rattle.rule_core.specs.Reach.{IsOneOf}
use Rattle.rule_core.specs.Laws.OneOf.{one_of-flat_map}
use Rattle.sleeper_split.specs.declared.rule.TheConstants.SplitRule.{US}
use Rattle.sleeper_split.specs.declared.count.SplitCount.{SplitCount}
use Rattle.sleeper_split.specs.Machine.{after_rest, after_duty, may_split, has_split_berth, may_pair, split_count, rested_count, run_of}
use Rattle.sleeper_split.specs.Choices.{Choice, sleeps}
use Rattle.sleeper_split.specs.Runs.{repeated}
use Rattle.sleeper_split.specs.Laws.ChoiceLaws.{fits}
use Rattle.us_rules.specs.declared.state.BreakCount.{BreakCount}
use Rattle.us_rules.specs.declared.state.UsState.{UsState}
use Rattle.us_rules.specs.Machine.{us_fits, break_made, paused, break_after, break_ok, us_nexts, first_of, goes_on, marked_next, us_advances}
use Rattle.us_rules.specs.Laws.Paths.{IsUsNext, next_means, us_choice}
use Rattle.us_rules.specs.Laws.Advance.{steady_nexts, marked_means}

-- after a unit of driving
pub record KeepsLimits (s : UsState) : Type 0 where
  pub elapsed : s.split.base.elapsed ≤ US_WINDOW_LIMIT
  pub driving : s.split.base.driving ≤ US_DRIVING_LIMIT
  pub driven : s.rest_break.driven ≤ US_UNBROKEN_LIMIT

-- what a run leaves that ends undeclared, as a split rest, or as a full rest
abbrev pub IsStart : Bool → SplitCount → SplitCount → Type 0
IsStart berth s start =
    ((s.run.long < US_FULL_REST) × (start ≡ s))
    ⊎ (((berth ≡ true) × (may_split US s ≡ true) × (start ≡ split_count s)) ⊎ ((US_FULL_REST ≤ s.run.long) × (start ≡ rested_count)))

-- n units of duty lead from s to t
pub record IsDuty (berth : Bool) (x : Activity) (n : ℕ) (s t : UsState) : Type 0 where
  pub start : SplitCount
  pub starts : IsStart berth s.split start
  pub count : t.split ≡ repeated (after_duty (drives x)) n start
  pub driven : drives x ≡ true → t.rest_break.driven ≡ s.rest_break.driven + n
  pub still : drives x ≡ true → t.rest_break.still ≡ 0
  pub keeps : drives x ≡ true → KeepsLimits t

-- # One unit

below : (a b : ℕ) → nat_lt a b ≡ true → a < b
below a b h = grind (arith, nat_tests)

upto : (a b : ℕ) → nat_le a b ≡ true → a ≤ b
upto a b h = grind (arith, nat_tests)

drive_break : (x : Activity) (c : BreakCount) (at : ℕ) → drives x ≡ true → break_after c at x ≡ break_made 0 (c.driven + 1)
drive_break x c at d = ap (λ b. cond b (break_made 0 (c.driven + 1)) (paused c)) d

drive_spare : (x : Activity) (c : BreakCount) (at : ℕ) → drives x ≡ true → break_ok c at x ≡ true → c.driven < US_UNBROKEN_LIMIT
drive_spare x c at d h = below c.driven US_UNBROKEN_LIMIT (sym (ap (λ b. cond b (nat_lt c.driven US_UNBROKEN_LIMIT) true) d) ∙ h)

drive_fits : (x : Activity) (s : SplitCount) → drives x ≡ true → fits us_fits x s ≡ true → us_fits (after_duty (drives x) s) ≡ true
drive_fits x s d h = sym (ap (λ b. cond b (us_fits (after_duty (drives x) s)) true) d) ∙ h

keeps_of : (t : UsState) (c : SplitCount) → c ≡ t.split → us_fits c ≡ true → t.rest_break.driven ≤ US_UNBROKEN_LIMIT → KeepsLimits t
keeps_of t c e f b =
    let q = and_parts (nat_le t.split.base.elapsed US_WINDOW_LIMIT) (nat_le t.split.base.driving US_DRIVING_LIMIT) (subst (λ m. us_fits m ≡ true) e f) in
    record { elapsed = upto t.split.base.elapsed US_WINDOW_LIMIT q.0; driving = upto t.split.base.driving US_DRIVING_LIMIT q.1; driven = b }

-- from what the run in progress leaves
duty_from : (berth : Bool) (days day_start : ℕ) (s : UsState) (at : ℕ) (x : Activity) (n : Next UsState) (k : IsUsNext berth days day_start s at x n) (start : SplitCount) → IsStart berth s.split start → fits us_fits x start ≡ true →
    after_duty (drives x) start ≡ k.by.count → IsDuty berth x 1 s n.state
duty_from berth days day_start s at x n k start starts f is =
    let es : k.by.count ≡ n.state.split = ap (λ m. m.state.split) k.is in
    let eb : break_after s.rest_break at x ≡ n.state.rest_break = ap (λ m. m.state.rest_break) k.is in
    record {
      start = start;
      starts = starts;
      count = sym (is ∙ es);
      driven = λ d. ap (λ b. b.driven) (sym eb ∙ drive_break x s.rest_break at d);
      still = λ d. ap (λ b. b.still) (sym eb ∙ drive_break x s.rest_break at d);
      keeps = λ d. (
          let b : n.state.rest_break.driven ≡ s.rest_break.driven + 1 = ap (λ c. c.driven) (sym eb ∙ drive_break x s.rest_break at d) in
          let l = drive_spare x s.rest_break at d k.unbroken in
          keeps_of n.state (after_duty (drives x) start) (is ∙ es) (drive_fits x start d f) (omega arith));
    }

unit_duty : (berth : Bool) (days day_start : ℕ) (s : UsState) (at : ℕ) (x : Activity) (n : Next UsState) → rests x ≡ false → IsOneOf (us_nexts berth days day_start s at x) n → IsDuty berth x 1 s n.state
unit_duty berth days day_start s at x n w o =
    let k = next_means berth days day_start s at x n o in
    elim (us_choice berth s.split x k.by k.chosen) [
      | inl r ↦ absurd (let z : false ≡ true = sym w ∙ r.rest in cc)
      | inr l ↦ elim l [
        | inl r ↦ duty_from berth days day_start s at x n k s.split (inl (r.short, refl)) r.fit (ap (λ (c : Choice). c.count) r.is)
        | inr m ↦ elim m [
          | inl r ↦ duty_from berth days day_start s at x n k (split_count s.split) (inr (inl (r.allowed, r.passes, refl))) r.fit (ap (λ (c : Choice). c.count) r.is)
          | inr r ↦ duty_from berth days day_start s at x n k rested_count (inr (inr (r.long, refl))) r.fit (ap (λ (c : Choice). c.count) r.is)
        ]
      ]
    ]

unit_rest : (berth : Bool) (days day_start : ℕ) (s : UsState) (at : ℕ) (x : Activity) (n : Next UsState) → rests x ≡ true → IsOneOf (us_nexts berth days day_start s at x) n → n.state.split ≡ after_rest (sleeps x) s.split
unit_rest berth days day_start s at x n w o =
    let k = next_means berth days day_start s at x n o in
    let es : k.by.count ≡ n.state.split = ap (λ m. m.state.split) k.is in
    elim (us_choice berth s.split x k.by k.chosen) [
      | inl r ↦ sym (ap (λ (c : Choice). c.count) r.is ∙ es)
      | inr l ↦ absurd (elim l [
        | inl r ↦ (let z : false ≡ true = sym r.work ∙ w in cc)
        | inr m ↦ elim m [ inl r ↦ (let z : false ≡ true = sym r.work ∙ w in cc) | inr r ↦ (let z : false ≡ true = sym r.work ∙ w in cc) ]
      ])
    ]

-- # More units

-- n more units of duty lead from s to u
record GoesOn (x : Activity) (n : ℕ) (s u : UsState) : Type 0 where
  count : u.split ≡ repeated (after_duty (drives x)) n s.split
  driven : drives x ≡ true → u.rest_break.driven ≡ s.rest_break.driven + n
  still : drives x ≡ true → s.rest_break.still ≡ 0 → u.rest_break.still ≡ 0
  keeps : drives x ≡ true → KeepsLimits s → KeepsLimits u

-- a run that may be a split rest is long enough
pub split_least : (s : SplitCount) → may_split US s ≡ true → US_SPLIT_LEAST ≤ s.run.long
split_least s h = upto US_SPLIT_LEAST s.run.long (and_parts (nat_le US_SPLIT_LEAST s.run.long) (nat_lt s.run.long US_FULL_REST && (has_split_berth US.berth s.run && may_pair US s.waiting s.run)) h).0

-- the count goes on where no run is in progress
start_is : (berth : Bool) (s start : SplitCount) → run_of s ≡ 0 → IsStart berth s start → start ≡ s
start_is berth s start none (inl h) = h.1
start_is berth s start none (inr (inl h)) = absurd (let l = split_least s h.1 in omega arith)
start_is berth s start none (inr (inr h)) = absurd (let l = h.0 in omega arith)

goes_duty : (berth : Bool) (days day_start n : ℕ) (s : UsState) (at : ℕ) (x : Activity) (u : UsState) → rests x ≡ false → run_of s.split ≡ 0 → goes_on berth days day_start (Some s) at x n ≡ Some u → GoesOn x n s u
goes_duty berth days day_start zero s at x u w none e =
    let q : s ≡ u = cc in
    record { count = ap (λ v. v.split) (sym q); driven = λ d. (let z : u.rest_break.driven ≡ s.rest_break.driven = ap (λ v. v.rest_break.driven) (sym q) in omega arith); still = λ d z. ap (λ v. v.rest_break.still) (sym q) ∙ z; keeps = λ d z. subst KeepsLimits q z }
goes_duty berth days day_start (suc n) s at x u w none e = elim (steady_nexts berth days day_start s at x (inr (w, none))) [
  | inl empty ↦ absurd (let z : None ≡ Some u = sym (ap (λ ns. goes_on berth days day_start (first_of ns) (at + 1) x n) empty) ∙ e in cc)
  | inr k ↦
      let m : Next UsState = record { state = k.0; mark = None } in
      let o : IsOneOf (us_nexts berth days day_start s at x) m = subst (λ ns. IsOneOf ns m) (sym k.1) (inl refl) in
      let d = unit_duty berth days day_start s at x m w o in
      let c : k.0.split ≡ after_duty (drives x) s.split = d.count ∙ ap (after_duty (drives x)) (start_is berth s.split d.start none d.starts) in
      let g = goes_duty berth days day_start n k.0 (at + 1) x u w (ap run_of c) (sym (ap (λ ns. goes_on berth days day_start (first_of ns) (at + 1) x n) k.1) ∙ e) in
      record {
        count = g.count ∙ ap (repeated (after_duty (drives x)) n) c;
        driven = λ v. (let a = g.driven v in let b = d.driven v in omega arith);
        still = λ v z. g.still v (d.still v);
        keeps = λ v z. g.keeps v (d.keeps v);
      }
]

goes_rest : (berth : Bool) (days day_start n : ℕ) (s : UsState) (at : ℕ) (x : Activity) (u : UsState) → rests x ≡ true → goes_on berth days day_start (Some s) at x n ≡ Some u → u.split ≡ repeated (after_rest (sleeps x)) n s.split
goes_rest berth days day_start zero s at x u w e = let q : s ≡ u = cc in ap (λ v. v.split) (sym q)
goes_rest berth days day_start (suc n) s at x u w e = elim (steady_nexts berth days day_start s at x (inl w)) [
  | inl empty ↦ absurd (let z : None ≡ Some u = sym (ap (λ ns. goes_on berth days day_start (first_of ns) (at + 1) x n) empty) ∙ e in cc)
  | inr k ↦
      let m : Next UsState = record { state = k.0; mark = None } in
      let o : IsOneOf (us_nexts berth days day_start s at x) m = subst (λ ns. IsOneOf ns m) (sym k.1) (inl refl) in
      let c : k.0.split ≡ after_rest (sleeps x) s.split = unit_rest berth days day_start s at x m w o in
      goes_rest berth days day_start n k.0 (at + 1) x u w (sym (ap (λ ns. goes_on berth days day_start (first_of ns) (at + 1) x n) k.1) ∙ e) ∙ ap (repeated (after_rest (sleeps x)) n) c
]

-- # A step

-- just after duty no run is in progress
pub no_run_after : (d : Bool) (n : ℕ) (s c : SplitCount) → c ≡ repeated (after_duty d) (suc n) s → run_of c ≡ 0
no_run_after d zero s c e = ap run_of e
no_run_after d (suc n) s c e = no_run_after d n (after_duty d s) c e

-- What a step of duty leads to.
pub step_duty : (berth : Bool) (days day_start n : ℕ) (s : UsState) (at : ℕ) (x : Activity) (t : Next UsState) → rests x ≡ false → IsOneOf (us_advances berth days day_start s at x (suc n)) t → IsDuty berth x (suc n) s t.state
step_duty berth days day_start n s at x t w o =
    let q = one_of-flat_map (λ r. marked_next r.mark (goes_on berth days day_start (Some r.state) (at + 1) x n)) (us_nexts berth days day_start s at x) t o in
    let m = marked_means q.0.mark (goes_on berth days day_start (Some q.0.state) (at + 1) x n) t q.2 in
    let d = unit_duty berth days day_start s at x q.0 w q.1 in
    let g = goes_duty berth days day_start n q.0.state (at + 1) x t.state w (no_run_after (drives x) 0 d.start q.0.state.split d.count) m.0 in
    record {
      start = d.start;
      starts = d.starts;
      count = g.count ∙ ap (repeated (after_duty (drives x)) n) d.count;
      driven = λ v. (let a = g.driven v in let b = d.driven v in omega arith);
      still = λ v. g.still v (d.still v);
      keeps = λ v. g.keeps v (d.keeps v);
    }

-- What a step of rest leads to.
pub step_rest : (berth : Bool) (days day_start n : ℕ) (s : UsState) (at : ℕ) (x : Activity) (t : Next UsState) → rests x ≡ true → IsOneOf (us_advances berth days day_start s at x (suc n)) t → t.state.split ≡ repeated (after_rest (sleeps x)) (suc n) s.split
step_rest berth days day_start n s at x t w o =
    let q = one_of-flat_map (λ r. marked_next r.mark (goes_on berth days day_start (Some r.state) (at + 1) x n)) (us_nexts berth days day_start s at x) t o in
    let m = marked_means q.0.mark (goes_on berth days day_start (Some q.0.state) (at + 1) x n) t q.2 in
    goes_rest berth days day_start n q.0.state (at + 1) x t.state w m.0 ∙ ap (repeated (after_rest (sleeps x)) n) (unit_rest berth days day_start s at x q.0 w q.1)
