-- Each unit keeps the open periods apart, and the nights of them in order.
use Rattle.std.proofs.Common.{◌≡◌, ℕ, ◌+◌, ◌*◌, ◌<◌, ◌≤◌, Bool, true, false, ◌||◌, List, [], ◌∷◌, refl, sym, ◌∙◌, ap, subst, arith, inl, inr}
use Rattle.std.specs.Prelude.{All, filter, min, nat_eq}
use Rattle.std.specs.List.{list_all, list_any}
use Rattle.std.proofs.lemmas.Bool.{cases_Bool, cases_lt, and_parts}
use Rattle.std.proofs.lemmas.Bool.Decides.{nat_tests}
use Rattle.std.proofs.lemmas.List.Elements.{All-nil, All-cons, All-head, All-tail, All-push, All-filter, All-weaker}
use Rattle.duty_core.specs.declared.limits.TheConstants.{DAY_MINUTES, AU_14D_PERIOD, AU_NIGHT_BEFORE, AU_NIGHT_REST}
use Rattle.rule_core.specs.Reach.{IsOneOf}
use Rattle.hvnl_rules.specs.Nights.{Nights, no_nights, minutes, is_running, begins_in, ends_in, lies_in, is_dated, has_nights, nights_ok, next_break, today, dated, pushed, running, still_open}
use Rattle.hvnl_rules.specs.Laws.Dates.{any_one, all_one, one_all, filter_one}
use Rattle.hvnl_rules.specs.Laws.NightLaws.{push_cases, push_dates, dated_cases, dated_starts}
use Rattle.hvnl_rules.specs.Laws.KeptNights.{kept_rest, kept_open}
use Rattle.hvnl_rules.specs.Few.{is_spaced, start_distance, is_recent, AreFewNights}
use Rattle.hvnl_rules.specs.Laws.FewLaws.{all_tested, filter_spaced, push_spaced}

passing_all : {X : Type 0} (t : X → Bool) (xs : List X) → All (λ x. t x ≡ true) (filter t xs)
passing_all t xs = all_tested t (filter t xs) (one_all t (filter t xs) (λ x o. (filter_one t xs x o).1))

recent_one : (at d : ℕ) (starts : List ℕ) → list_any (lies_in d) (running at starts) ≡ true → is_recent at d ≡ true
recent_one at d starts e =
    let g = any_one (lies_in d) (running at starts) e in
    let f = (filter_one (is_running at) starts g.0 g.1).1 in
    let b = (and_parts (begins_in d g.0) (ends_in d g.0) g.2).0 in
    let l : at < g.0 + minutes AU_14D_PERIOD = grind (arith, nat_tests) in
    let m : g.0 + minutes AU_NIGHT_BEFORE ≤ DAY_MINUTES * d = grind (arith, nat_tests) in
    let n : at < DAY_MINUTES * d + minutes AU_14D_PERIOD = omega arith in
    grind (arith, nat_tests)

recent_open : (at : ℕ) (n : Nights) → All (λ d. is_recent at d ≡ true) (still_open at n).dates
recent_open at n = All-weaker (λ d. list_any (lies_in d) (running at n.starts) ≡ true) (λ d. is_recent at d ≡ true) (λ d e. recent_one at d n.starts e) (still_open at n).dates (passing_all (λ d. list_any (lies_in d) (running at n.starts)) n.dates)

-- what is over leaves
few_open : (at run : ℕ) (n : Nights) → is_spaced start_distance 0 n.starts ≡ true → All (λ t. t + minutes (1 + run) ≤ at) n.starts → is_spaced 1 0 n.dates ≡ true → list_all (has_nights (next_break at run) n.dates) n.starts ≡ true →
    AreFewNights (still_open at n) run at
few_open at run n s b d k = record {
  spaced = filter_spaced (is_running at) start_distance 0 n.starts s;
  begun = All-filter (is_running at) (λ t. t + minutes (1 + run) ≤ at) n.starts b;
  unfinished = passing_all (is_running at) n.starts;
  ordered = filter_spaced (λ d. list_any (lies_in d) (running at n.starts)) 1 0 n.dates d;
  recent = recent_open at n;
  kept = one_all (has_nights (next_break at run) (still_open at n).dates) (running at n.starts) (λ t o. (let f = filter_one (is_running at) n.starts t o in kept_open at (next_break at run) n t f.1 f.0 (all_one (has_nights (next_break at run) n.dates) n.starts k t f.0)));
}

pub nights_duty : (n : Nights) (run at : ℕ) → nights_ok (at + minutes 1) (pushed at run n) ≡ true → AreFewNights n run at → AreFewNights (still_open (at + minutes 1) (pushed at run n)) 0 (at + minutes 1)
nights_duty n run at ok f =
    let later : All (λ t. t + minutes (1 + 0) ≤ at + minutes 1) n.starts = All-weaker (λ t. t + minutes (1 + run) ≤ at) (λ t. t + minutes (1 + 0) ≤ at + minutes 1) (λ t l. omega arith) n.starts f.begun in
    elim (push_cases at run n) [
      | inl c ↦
          let l = c.0 in
          let apart : All (λ t. t + start_distance ≤ at) n.starts = All-weaker (λ t. t + minutes (1 + run) ≤ at) (λ t. t + start_distance ≤ at) (λ t m. omega arith) n.starts f.begun in
          few_open (at + minutes 1) 0 (pushed at run n)
          (subst (λ k. is_spaced start_distance 0 k.starts ≡ true) (sym c.1) (push_spaced start_distance 0 at n.starts (omega arith) apart f.spaced))
          (subst (λ k. All (λ t. t + minutes (1 + 0) ≤ at + minutes 1) k.starts) (sym c.1) (All-push (λ t. t + minutes (1 + 0) ≤ at + minutes 1) n.starts at later (omega arith)))
          (subst (λ ds. is_spaced 1 0 ds ≡ true) (sym (push_dates at run n)) f.ordered) ok
      | inr c ↦
          few_open (at + minutes 1) 0 (pushed at run n)
          (subst (λ k. is_spaced start_distance 0 k.starts ≡ true) (sym c.1) f.spaced)
          (subst (λ k. All (λ t. t + minutes (1 + 0) ≤ at + minutes 1) k.starts) (sym c.1) later)
          (subst (λ ds. is_spaced 1 0 ds ≡ true) (sym (push_dates at run n)) f.ordered) ok
    ]

before_today : (at : ℕ) (ds : List ℕ) → All (λ d. DAY_MINUTES * d ≤ at) ds → is_dated ds (today at) ≡ false → All (λ d. d + 1 ≤ today at) ds
before_today at [] a e = All-nil (λ d. d + 1 ≤ today at)
before_today at (d ∷ ds) a e =
    let l = All-head (λ d. DAY_MINUTES * d ≤ at) d ds a in
    let m : d ≤ today at = omega arith in
    elim (cases_Bool (nat_eq (today at) d)) [
      | inl q ↦ absurd (let z : true ≡ false = sym (ap (λ b. b || is_dated ds (today at)) q) ∙ e in cc)
      | inr q ↦
          All-cons (λ d. d + 1 ≤ today at) d ds
          (elim (cases_lt d (today at)) [ inl k ↦ omega arith | inr k ↦ absurd (let y : nat_eq (today at) d ≡ true = (let s : today at ≡ d = omega arith in grind (arith, nat_tests)) in let z : true ≡ false = sym y ∙ q in cc) ])
          (before_today at ds (All-tail (λ d. DAY_MINUTES * d ≤ at) d ds a) (sym (ap (λ b. b || is_dated ds (today at)) q) ∙ e))
    ]

pub nights_rest : (n : Nights) (run more at : ℕ) → more ≤ run + 1 → min (run + 1) AU_NIGHT_REST ≤ more → All (λ d. DAY_MINUTES * d ≤ at) n.dates → AreFewNights n run at → AreFewNights (still_open (at + minutes 1) (dated at more n)) more (at + minutes 1)
nights_rest n run more at l m a f =
    few_open (at + minutes 1) more (dated at more n)
    (subst (λ ts. is_spaced start_distance 0 ts ≡ true) (sym (dated_starts at more n)) f.spaced)
    (subst (λ ts. All (λ t. t + minutes (1 + more) ≤ at + minutes 1) ts) (sym (dated_starts at more n)) (All-weaker (λ t. t + minutes (1 + run) ≤ at) (λ t. t + minutes (1 + more) ≤ at + minutes 1) (λ t k. omega arith) n.starts f.begun))
    (elim (dated_cases at more n) [
      | inl c ↦ subst (λ k. is_spaced 1 0 k.dates ≡ true) (sym c.2) (push_spaced 1 0 (today at) n.dates (omega arith) (before_today at n.dates a c.1) f.ordered)
      | inr c ↦ subst (λ k. is_spaced 1 0 k.dates ≡ true) (sym c.0) f.ordered
    ])
    (one_all (has_nights (next_break (at + minutes 1) more) (dated at more n).dates) (dated at more n).starts
    (λ t o. kept_rest at run more n t m (all_one (has_nights (next_break at run) n.dates) n.starts f.kept t (subst (λ ts. IsOneOf ts t) (dated_starts at more n) o))))

pub nights_start : (run at : ℕ) → AreFewNights no_nights run at
nights_start run at = record { spaced = refl; begun = All-nil _; unfinished = All-nil _; ordered = refl; recent = All-nil _; kept = refl }
