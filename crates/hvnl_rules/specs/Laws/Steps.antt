-- States, and many equal units.
use Rattle.std.proofs.Common.{◌≡◌, ℕ, zero, suc, ◌+◌, ◌*◌, ◌≤◌, true, false, cond, List, [], ◌∷◌, ◌++◌, length, refl, sym, ◌∙◌, ap, subst, arith, ◌⊎◌, inl, inr}
use Rattle.std.specs.Prelude.{Option, None, Some, All, replicate}
use Rattle.std.specs.Option.{option_to_list}
use Rattle.std.specs.List.{list_any}
use Rattle.std.proofs.lemmas.Bool.{and_parts}
use Rattle.std.proofs.lemmas.List.Elements.{All-nil, All-push, All-map, All-filter}
use Rattle.duty_core.specs.declared.activity.Activity.{Activity}
use Rattle.duty_core.specs.declared.mark.Mark.{Mark}
use Rattle.duty_core.specs.declared.params.Params.TheVariants.{Hvnl}
use Rattle.duty_core.specs.declared.limits.TheConstants.{DAY_MINUTES, AU_7D_REST}
use Rattle.duty_core.specs.Params.{unit_minutes}
use Rattle.duty_core.specs.Activity.{works}
use Rattle.allowance.specs.Allow.{may_spend, spent, passed, passed_need}
use Rattle.allowance.specs.Laws.AllowLaws.{held_spent, held_passed, held_settled}
use Rattle.rule_core.specs.declared.nexts.Next.{Next}
use Rattle.rule_core.specs.Reach.{IsOneOf}
use Rattle.hvnl_rules.specs.declared.state.HvnlState.{HvnlState}
use Rattle.hvnl_rules.specs.Counted.{begun}
use Rattle.hvnl_rules.specs.Laws.CountedLaws.{begun_held, begun_needs, needs_held, needs_run, needs_short, passed_short}
use Rattle.hvnl_rules.specs.Nights.{Nights, minutes, is_running, lies_in, nights_ok, today, dated, pushed, running, still_open}
use Rattle.hvnl_rules.specs.Laws.NightLaws.{push_cases, push_dates, dated_cases, dated_starts}
use Rattle.hvnl_rules.specs.Few.{AreFewNights}
use Rattle.hvnl_rules.specs.Laws.FewLaws.{few_duty, few_rest, few_start}
use Rattle.hvnl_rules.specs.Laws.FewNights.{nights_duty, nights_rest, nights_start}
use Rattle.hvnl_rules.specs.Machine.{root_state, duty_ok, duty_state, rest_state, plain, hvnl_nexts, hvnl_step, goes_on, listed_state, hvnl_advances, IsHvnlState}
use Rattle.hvnl_rules.specs.Laws.Exact.{HvnlReaches}

-- # One successor at most

pub nexts_step : (s : HvnlState) (at : ℕ) (x : Activity) → hvnl_nexts s at x ≡ listed_state (hvnl_step s at x)
nexts_step s at x = elim (works x) as (λ b. cond b (cond (duty_ok s at) (plain (duty_state s at) ∷ []) []) (plain (rest_state s at) ∷ []) ≡ listed_state (cond b (cond (duty_ok s at) (Some (duty_state s at)) None) (Some (rest_state s at)))) [
  | true ↦ elim (duty_ok s at) as (λ b. cond b (plain (duty_state s at) ∷ []) [] ≡ listed_state (cond b (Some (duty_state s at)) None)) [ true ↦ refl | false ↦ refl ]
  | false ↦ refl
]

listed_means : (o : Option HvnlState) (n : Next HvnlState) → IsOneOf (listed_state o) n → (o ≡ Some n.state) × (n.mark ≡ None)
listed_means None n i = absurd i
listed_means (Some s) n i = elim i [ inl e ↦ (ap (λ m. Some m.state) e, sym (ap (λ m. m.mark) e)) | inr z ↦ absurd z ]

listed_one : (o : Option HvnlState) → length (listed_state o) ≤ 1
listed_one None = omega arith
listed_one (Some s) = omega arith

pub nexts_one : (s : HvnlState) (at : ℕ) (x : Activity) → length (hvnl_nexts s at x) ≤ 1
nexts_one s at x = subst (λ ns. length ns ≤ 1) (sym (nexts_step s at x)) (listed_one (hvnl_step s at x))

pub advances_one : (s : HvnlState) (at : ℕ) (x : Activity) (n : ℕ) → length (hvnl_advances s at x n) ≤ 1
advances_one s at x n = listed_one (goes_on (Some s) at x n)

pub next_means : (s : HvnlState) (at : ℕ) (x : Activity) (n : Next HvnlState) → IsOneOf (hvnl_nexts s at x) n → (hvnl_step s at x ≡ Some n.state) × (n.mark ≡ None)
next_means s at x n i = listed_means (hvnl_step s at x) n (subst (λ ns. IsOneOf ns n) (nexts_step s at x) i)

pub next_from : (s : HvnlState) (at : ℕ) (x : Activity) (t : HvnlState) → hvnl_step s at x ≡ Some t → IsOneOf {X = Next HvnlState} (hvnl_nexts s at x) (plain t)
next_from s at x t e = subst (λ ns. IsOneOf {X = Next HvnlState} ns (plain t)) (sym (nexts_step s at x)) (subst (λ o. IsOneOf {X = Next HvnlState} (listed_state o) (plain t)) (sym e) (inl refl))

-- a path of equal units
path_on : (n : ℕ) (s : HvnlState) (at : ℕ) (x : Activity) (marks : List Mark) (u : HvnlState) → HvnlReaches s at (replicate n x) marks u → (goes_on (Some s) at x n ≡ Some u) × (marks ≡ [])
path_on zero s at x marks u r = (ap (λ v. Some v) r.0, r.1)
path_on (suc n) s at x marks u r =
    let m = next_means s at x r.0 r.1 in
    let q = path_on n r.0.state (at + minutes 1) x r.2 u r.4 in
    (ap (λ o. goes_on o (at + minutes 1) x n) m.0 ∙ q.0, r.3 ∙ (ap (λ k. option_to_list k ++ r.2) m.1 ∙ q.1))

-- where goes_on leads, a path leads
on_path : (n : ℕ) (s : HvnlState) (at : ℕ) (x : Activity) (u : HvnlState) → goes_on (Some s) at x n ≡ Some u → HvnlReaches s at (replicate n x) [] u
on_path zero s at x u e = (let q : s ≡ u = cc in q, refl)
on_path (suc n) s at x u e = elim (hvnl_step s at x) as (λ o. hvnl_step s at x ≡ o → goes_on o (at + minutes 1) x n ≡ Some u → HvnlReaches s at (x ∷ replicate n x) [] u) [
  | None ↦ λ f g. absurd (let z : None ≡ Some u = g in cc)
  | Some t ↦ λ f g. (plain t, next_from s at x t f, [], refl, on_path n t (at + minutes 1) x u g)
] refl e

pub hvnl_advances_reach : (n : ℕ) (s : HvnlState) (at : ℕ) (x : Activity) (t : Next HvnlState) → IsOneOf (hvnl_advances s at x n) t → HvnlReaches s at (replicate n x) (option_to_list t.mark) t.state
hvnl_advances_reach n s at x t i =
    let m = listed_means (goes_on (Some s) at x n) t i in
    subst (λ k. HvnlReaches s at (replicate n x) (option_to_list k) t.state) (sym m.1) (on_path n s at x t.state m.0)

pub hvnl_advances_all : (n : ℕ) (s : HvnlState) (at : ℕ) (x : Activity) (marks : List Mark) (u : HvnlState) → HvnlReaches s at (replicate n x) marks u →
    (t : Next HvnlState) × IsOneOf (hvnl_advances s at x n) t × (t.state ≡ u) × (marks ≡ option_to_list t.mark)
hvnl_advances_all n s at x marks u r =
    let q = path_on n s at x marks u r in
    (plain u, subst (λ o. IsOneOf {X = Next HvnlState} (listed_state o) (plain u)) (sym q.0) (inl refl), refl, q.1)

-- # States

pub root_is_state : (first : ℕ) → IsHvnlState root_state first
root_is_state first = record { held = record { limits = All-nil _; needs = All-nil _ }; run = omega arith; short = All-nil _; starts = All-nil _; dates = All-nil _; few = few_start; few_nights = nights_start AU_7D_REST first }

below_later : (at later : ℕ) (xs : List ℕ) → at ≤ later → All (λ t. t ≤ at) xs → All (λ t. t ≤ later) xs
below_later at later xs l a = λ k d b. let c = a k d b in omega arith

dates_later : (at later : ℕ) (ds : List ℕ) → at ≤ later → All (λ d. DAY_MINUTES * d ≤ at) ds → All (λ d. DAY_MINUTES * d ≤ later) ds
dates_later at later ds l a = λ k d b. let c = a k d b in omega arith

pub pushed_starts : (at run : ℕ) (n : Nights) → All (λ t. t ≤ at) n.starts → All (λ t. t ≤ at) (pushed at run n).starts
pushed_starts at run n a = elim (push_cases at run n) [
  | inl c ↦ subst (λ k. All (λ t. t ≤ at) k.starts) (sym c.1) (All-push (λ t. t ≤ at) n.starts at a (omega arith))
  | inr c ↦ subst (λ k. All (λ t. t ≤ at) k.starts) (sym c.1) a
]

pub dated_dates : (at run : ℕ) (n : Nights) → All (λ d. DAY_MINUTES * d ≤ at) n.dates → All (λ d. DAY_MINUTES * d ≤ at) (dated at run n).dates
dated_dates at run n a = elim (dated_cases at run n) [
  | inl c ↦ subst (λ k. All (λ d. DAY_MINUTES * d ≤ at) k.dates) (sym c.2) (All-push (λ d. DAY_MINUTES * d ≤ at) n.dates (today at) a (omega arith))
  | inr c ↦ subst (λ k. All (λ d. DAY_MINUTES * d ≤ at) k.dates) (sym c.0) a
]

still_starts : (at : ℕ) (n : Nights) (P : ℕ → Type 0) → All P n.starts → All P (still_open at n).starts
still_starts at n P a = All-filter (is_running at) P n.starts a

still_dates : (at : ℕ) (n : Nights) (P : ℕ → Type 0) → All P n.dates → All P (still_open at n).dates
still_dates at n P a = All-filter (λ date. list_any (lies_in date) (running at n.starts)) P n.dates a

pub duty_is_state : (s : HvnlState) (at : ℕ) → duty_ok s at ≡ true → IsHvnlState s at → IsHvnlState (duty_state s at) (at + minutes 1)
duty_is_state s at ok i =
    let parts = and_parts (may_spend (begun s.held)) (nights_ok (at + minutes 1) (pushed at s.held.run s.nights)) ok in
    let e = parts.0 in
    record {
      held = needs_held s.held.run (spent (begun s.held)) refl (held_spent (begun s.held) (begun_held s.held i.held) e);
      run = let z = needs_run s.held.run (spent (begun s.held)) in omega arith;
      short = needs_short s.held.run (spent (begun s.held)) (All-map (λ n. n.rest ≤ AU_7D_REST) passed_need (begun s.held).needs (subst (All (λ n. n.rest ≤ AU_7D_REST)) (sym (begun_needs s.held)) i.short));
      starts = still_starts (at + minutes 1) (pushed at s.held.run s.nights) (λ t. t ≤ at + minutes 1) (below_later at (at + minutes 1) (pushed at s.held.run s.nights).starts (omega arith) (pushed_starts at s.held.run s.nights i.starts));
      dates = still_dates (at + minutes 1) (pushed at s.held.run s.nights) (λ d. DAY_MINUTES * d ≤ at + minutes 1)
          (subst (λ ds. All (λ d. DAY_MINUTES * d ≤ at + minutes 1) ds) (sym (push_dates at s.held.run s.nights)) (dates_later at (at + minutes 1) s.nights.dates (omega arith) i.dates));
      few = few_duty s.held e i.few;
      few_nights = subst (λ run. AreFewNights (duty_state s at).nights run (at + minutes 1)) (sym (needs_run s.held.run (spent (begun s.held)))) (nights_duty s.nights s.held.run at parts.1 i.few_nights);
    }

pub rest_is_state : (s : HvnlState) (at : ℕ) → IsHvnlState s at → IsHvnlState (rest_state s at) (at + minutes 1)
rest_is_state s at i =
    let h = passed_short s.held i.short in
    let run : ℕ = (rest_state s at).held.run in
    record {
      held = held_settled (passed s.held) AU_7D_REST (held_passed s.held i.held) h;
      run = omega arith;
      short = h;
      starts = still_starts (at + minutes 1) (dated at run s.nights) (λ t. t ≤ at + minutes 1) (below_later at (at + minutes 1) (dated at run s.nights).starts (omega arith) (subst (λ ss. All (λ t. t ≤ at) ss) (sym (dated_starts at run s.nights)) i.starts));
      dates = still_dates (at + minutes 1) (dated at run s.nights) (λ d. DAY_MINUTES * d ≤ at + minutes 1) (dates_later at (at + minutes 1) (dated at run s.nights).dates (omega arith) (dated_dates at run s.nights i.dates));
      few = few_rest s.held i.run i.few;
      few_nights = nights_rest s.nights s.held.run run at (omega arith) (omega arith) i.dates i.few_nights;
    }

pub some_same : (s t : HvnlState) → Some s ≡ Some t → s ≡ t
some_same s t e = cc

-- a unit leads to a state
pub step_cases : (s : HvnlState) (at : ℕ) (x : Activity) (t : HvnlState) → hvnl_step s at x ≡ Some t → ((works x ≡ true) × (duty_ok s at ≡ true) × (duty_state s at ≡ t)) ⊎ ((works x ≡ false) × (rest_state s at ≡ t))
step_cases s at x t e = elim (works x) as (λ b. works x ≡ b → cond b (cond (duty_ok s at) (Some (duty_state s at)) None) (Some (rest_state s at)) ≡ Some t → ((works x ≡ true) × (duty_ok s at ≡ true) × (duty_state s at ≡ t)) ⊎ ((works x ≡ false) × (rest_state s at ≡ t))) [
  | true ↦ λ w. elim (duty_ok s at) as (λ b. duty_ok s at ≡ b → cond b (Some (duty_state s at)) None ≡ Some t → ((works x ≡ true) × (duty_ok s at ≡ true) × (duty_state s at ≡ t)) ⊎ ((works x ≡ false) × (rest_state s at ≡ t))) [
    | true ↦ λ ok f. inl (w, ok, some_same (duty_state s at) t f)
    | false ↦ λ no f. absurd (cc)
  ] refl
  | false ↦ λ w f. inr (w, some_same (rest_state s at) t f)
] refl e

pub step_is_state : (s : HvnlState) (at : ℕ) (x : Activity) (t : HvnlState) → IsHvnlState s at → hvnl_step s at x ≡ Some t → IsHvnlState t (at + minutes 1)
step_is_state s at x t i e = elim (step_cases s at x t e) [
  | inl c ↦ subst (λ u. IsHvnlState u (at + minutes 1)) c.2 (duty_is_state s at c.1 i)
  | inr c ↦ subst (λ u. IsHvnlState u (at + minutes 1)) c.1 (rest_is_state s at i)
]

pub next_is_state : (s : HvnlState) (at : ℕ) (x : Activity) (n : Next HvnlState) → IsHvnlState s at → IsOneOf (hvnl_nexts s at x) n → IsHvnlState n.state (at + unit_minutes Hvnl)
next_is_state s at x n i o = step_is_state s at x n.state i (next_means s at x n o).0
