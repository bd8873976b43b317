-- When one state may stand for another: it asks nothing that the other does not ask.
use Rattle.std.proofs.Common.{◌≡◌, ◌↔◌, ℕ, ◌+◌, ◌-◌, ◌*◌, ◌<◌, ◌≤◌, Bool, true, false, not, ◌&&◌, ◌||◌, cond, List, [], ◌∷◌, ◌++◌, min, refl, sym, ◌∙◌, ap, subst, arith, ◌⊎◌, inl, inr}
use Rattle.std.specs.Prelude.{None, Some, All, map, filter, max, nat_eq, nat_le, nat_lt}
use Rattle.std.specs.List.{list_all, list_any}
use Rattle.std.proofs.lemmas.Bool.{cases_Bool, cases_lt, and_parts, and_from, or_cases, or_left, or_right}
use Rattle.std.proofs.lemmas.Bool.Decides.{nat_tests}
use Rattle.std.proofs.lemmas.List.Elements.{All-head, All-tail}
use Rattle.duty_core.specs.declared.activity.Activity.{Activity}
use Rattle.duty_core.specs.declared.activity.Activity.TheVariants.{Drive, Serve, Wait, Off, Berth}
use Rattle.duty_core.specs.declared.params.Params.TheVariants.{Hvnl}
use Rattle.duty_core.specs.declared.limits.TheConstants.{DAY_MINUTES, AU_SHORT_START, AU_LONG_START, AU_7D_REST, AU_14D_PERIOD, AU_NIGHT_BEFORE, AU_NIGHT_AFTER, AU_NIGHT_REST, AU_NIGHT_LONG_REST}
use Rattle.duty_core.specs.Params.{unit_minutes, allows}
use Rattle.duty_core.specs.Activity.{idles}
use Rattle.allowance.specs.declared.limit.Limit.{Limit}
use Rattle.allowance.specs.declared.limit.Need.{Need}
use Rattle.allowance.specs.Allow.{Held, IsHeld, IsOpenLimit, spent_limit, passed_limit, passed_need, is_open, waits, may_spend, spent, one_more, implies, added_limits, added, gives, needed_needs, needed}
use Rattle.rule_core.specs.declared.nexts.Next.{Next}
use Rattle.rule_core.specs.Reach.{idle_list, IsOneOf, IsAnswered}
use Rattle.rule_core.specs.Laws.OneOf.{one_of-append, one_of-append_left, one_of-append_right, one_of-map, one_of_map}
use Rattle.hvnl_rules.specs.declared.state.HvnlState.{HvnlState}
use Rattle.hvnl_rules.specs.Counted.{short_limits, long_limits, day_need, week_need, added_all, begun, with_needs, after_duty, after_rest}
use Rattle.hvnl_rules.specs.Laws.CountedLaws.{begun_held, begun_needs}
use Rattle.hvnl_rules.specs.Nights.{Nights, minutes, is_running, begins_in, ends_in, lies_in, first_date, end_date, is_dated, is_safe, has_nights, nights_ok, next_break, past_period, today, is_rested, dated, pushed, running, still_open}
use Rattle.hvnl_rules.specs.Laws.Dates.{dated_one, one_dated, any_one, one_any, all_one, one_all, one_filter, filter_one}
use Rattle.hvnl_rules.specs.Laws.NightLaws.{dated_starts}
use Rattle.hvnl_rules.specs.Few.{is_kind}
use Rattle.hvnl_rules.specs.Laws.FewLaws.{kind_cases}
use Rattle.hvnl_rules.specs.Laws.KeptNights.{night_in, in_night, nights_moved, nights_carried, nights_for_good, one_of_dated, dated_keeps, dated_new, kept_rest, date_open, kept_open}
use Rattle.hvnl_rules.specs.Machine.{duty_ok, duty_state, rest_state, plain, hvnl_nexts, hvnl_step, hvnl_advances, hvnl_idles, IsHvnlState}
use Rattle.hvnl_rules.specs.Laws.Steps.{next_means, step_cases, next_from}
use Rattle.hvnl_rules.specs.Covers.{is_tight, meets, covers_run, covers_held, covers_start, covers_period, covers_nights, covers_state}

-- # What it says

abbrev pub IsRunCovered : ℕ → ℕ → Type 0
IsRunCovered a b = (a ≡ b) ⊎ ((AU_LONG_START ≤ b) × (b ≤ a))

pub record IsHeldCovered (a b : Held) : Type 0 where
  pub run : IsRunCovered a.run b.run
  pub limits : (q : Limit) → IsOneOf a.limits q → (k : Limit) × IsOneOf b.limits k × (implies k q ≡ true)
  pub needs : (n : Need) → IsOneOf a.needs n → (k : Need) × IsOneOf b.needs k × (gives k n ≡ true)

-- a need that no duty unit may come before
abbrev pub IsForced : List Need → Type 0
IsForced ns = (k : Need) × IsOneOf ns k × (k.units ≤ k.rest)

-- What the test says: as soon as a unit may be duty, it is as above.
pub record IsHeldMet (a b : Held) : Type 0 where
  pub run : IsRunCovered a.run b.run ⊎ ((b.run ≤ a.run) × IsForced b.needs)
  pub limits : (q : Limit) → IsOneOf a.limits q → (k : Limit) × IsOneOf b.limits k × (implies k q ≡ true)
  pub needs : (n : Need) → IsOneOf a.needs n → (k : Need) × IsOneOf b.needs k × ((gives k n ≡ true) ⊎ ((k.units ≤ k.rest) × (n.rest ≤ k.rest)))

pub record IsStartCovered (at : ℕ) (dates others : List ℕ) (start other : ℕ) : Type 0 where
  pub last : end_date other ≤ end_date start
  pub first : first_date start ≤ max (first_date other) (today at)
  pub nights : (d : ℕ) → IsOneOf others d → lies_in d other ≡ true → (lies_in d start ≡ true) × IsOneOf dates d

abbrev pub AreNightsCovered : ℕ → Nights → Nights → Type 0
AreNightsCovered at a b = (s : ℕ) → IsOneOf a.starts s → (has_nights (past_period s) a.dates s ≡ true) ⊎ ((t : ℕ) × IsOneOf b.starts t × IsStartCovered at a.dates b.dates s t)

pub record IsCovered (a b : HvnlState) (at : ℕ) : Type 0 where
  pub held : IsHeldMet a.held b.held
  pub nights : AreNightsCovered at a.nights b.nights

abbrev RunMet : Held → Held → Type 0
RunMet a b = IsRunCovered a.run b.run ⊎ ((b.run ≤ a.run) × IsForced b.needs)

run_means : (a b : Held) → covers_run a b ≡ true → RunMet a b
run_means a b e = elim (or_cases (nat_eq a.run b.run) ((nat_le AU_LONG_START b.run || list_any is_tight b.needs) && nat_le b.run a.run) e) [
  | inl y ↦ inl (inl (grind (arith, nat_tests)))
  | inr y ↦
      let c = and_parts (nat_le AU_LONG_START b.run || list_any is_tight b.needs) (nat_le b.run a.run) y in
      let m = c.1 in
      elim (or_cases (nat_le AU_LONG_START b.run) (list_any is_tight b.needs) c.0) [
        | inl z ↦ inl (inr (grind (arith, nat_tests), grind (arith, nat_tests)))
        | inr z ↦ (let g = any_one is_tight b.needs z in let t = g.2 in inr (grind (arith, nat_tests), (g.0, g.1, grind (arith, nat_tests))))
      ]
]

means_run : (a b : Held) → RunMet a b → covers_run a b ≡ true
means_run a b h =
    let E = nat_eq a.run b.run in
    let L = nat_le AU_LONG_START b.run in
    let T = list_any is_tight b.needs in
    let M = nat_le b.run a.run in
    elim h [
      | inl c ↦ elim c [
        | inl e ↦ or_left E ((L || T) && M) (grind (arith, nat_tests))
        | inr r ↦ (let l = r.0 in let m = r.1 in or_right E ((L || T) && M) (and_from (L || T) M (or_left L T (grind (arith, nat_tests))) (grind (arith, nat_tests))))
      ]
      | inr f ↦
          let m = f.0 in
          let t = f.1.2 in
          or_right E ((L || T) && M) (and_from (L || T) M (or_right L T (one_any is_tight b.needs f.1.0 f.1.1 (grind (arith, nat_tests)))) (grind (arith, nat_tests)))
    ]

meets_means : (k n : Need) → meets k n ≡ true → (gives k n ≡ true) ⊎ ((k.units ≤ k.rest) × (n.rest ≤ k.rest))
meets_means k n e = elim (or_cases (gives k n) (is_tight k && nat_le n.rest k.rest) e) [
  | inl y ↦ inl y
  | inr y ↦ (let c = and_parts (is_tight k) (nat_le n.rest k.rest) y in let t = c.0 in let l = c.1 in inr (grind (arith, nat_tests), grind (arith, nat_tests)))
]

means_meets : (k n : Need) → (gives k n ≡ true) ⊎ ((k.units ≤ k.rest) × (n.rest ≤ k.rest)) → meets k n ≡ true
means_meets k n h = elim h [
  | inl y ↦ or_left (gives k n) (is_tight k && nat_le n.rest k.rest) y
  | inr y ↦ (let t = y.0 in let l = y.1 in or_right (gives k n) (is_tight k && nat_le n.rest k.rest) (and_from (is_tight k) (nat_le n.rest k.rest) (grind (arith, nat_tests)) (grind (arith, nat_tests))))
]

held_means : (a b : Held) → covers_held a b ≡ true → IsHeldMet a b
held_means a b h =
    let L = list_all (λ q. list_any (λ k. implies k q) b.limits) a.limits in
    let N = list_all (λ n. list_any (λ k. meets k n) b.needs) a.needs in
    let c = and_parts (covers_run a b) (L && N) h in
    let d = and_parts L N c.1 in
    record {
      run = run_means a b c.0;
      limits = λ q o. any_one (λ k. implies k q) b.limits (all_one (λ q. list_any (λ k. implies k q) b.limits) a.limits d.0 q o);
      needs = λ n o. (let g = any_one (λ k. meets k n) b.needs (all_one (λ n. list_any (λ k. meets k n) b.needs) a.needs d.1 n o) in (g.0, g.1, meets_means g.0 n g.2));
    }

means_held : (a b : Held) → IsHeldMet a b → covers_held a b ≡ true
means_held a b h =
    let L = list_all (λ q. list_any (λ k. implies k q) b.limits) a.limits in
    let N = list_all (λ n. list_any (λ k. meets k n) b.needs) a.needs in
    and_from (covers_run a b) (L && N) (means_run a b h.run)
    (and_from L N
    (one_all (λ q. list_any (λ k. implies k q) b.limits) a.limits (λ q o. let g = h.limits q o in one_any (λ k. implies k q) b.limits g.0 g.1 g.2))
    (one_all (λ n. list_any (λ k. meets k n) b.needs) a.needs (λ n o. let g = h.needs n o in one_any (λ k. meets k n) b.needs g.0 g.1 (means_meets g.0 n g.2))))

start_means : (at : ℕ) (dates others : List ℕ) (s t : ℕ) → covers_start at dates others s t ≡ true → IsStartCovered at dates others s t
start_means at dates others s t h =
    let E = nat_le (end_date t) (end_date s) in
    let F = nat_le (first_date s) (max (first_date t) (today at)) in
    let D = list_all (λ d. not (lies_in d t) || (lies_in d s && is_dated dates d)) others in
    let c = and_parts (E && F) D h in
    let e = and_parts E F c.0 in
    let e0 = e.0 in
    let e1 = e.1 in
    record {
      last = grind (arith, nat_tests);
      first = grind (arith, nat_tests);
      nights = λ d o y. elim (or_cases (not (lies_in d t)) (lies_in d s && is_dated dates d) (all_one (λ d. not (lies_in d t) || (lies_in d s && is_dated dates d)) others c.1 d o)) [
        | inl z ↦ absurd (let w : false ≡ true = sym (ap not y) ∙ z in cc)
        | inr z ↦ (let p = and_parts (lies_in d s) (is_dated dates d) z in (p.0, dated_one dates d p.1))
      ];
    }

means_start : (at : ℕ) (dates others : List ℕ) (s t : ℕ) → IsStartCovered at dates others s t → covers_start at dates others s t ≡ true
means_start at dates others s t h =
    let E = nat_le (end_date t) (end_date s) in
    let F = nat_le (first_date s) (max (first_date t) (today at)) in
    let D = list_all (λ d. not (lies_in d t) || (lies_in d s && is_dated dates d)) others in
    let l = h.last in
    let f = h.first in
    and_from (E && F) D (and_from E F (grind (arith, nat_tests)) (grind (arith, nat_tests)))
    (one_all (λ d. not (lies_in d t) || (lies_in d s && is_dated dates d)) others (λ d o. elim (cases_Bool (lies_in d t)) [
      | inl y ↦ (let q = h.nights d o y in or_right (not (lies_in d t)) (lies_in d s && is_dated dates d) (and_from (lies_in d s) (is_dated dates d) q.0 (one_dated dates d q.1)))
      | inr z ↦ or_left (not (lies_in d t)) (lies_in d s && is_dated dates d) (ap not z)
    ]))

nights_means : (at : ℕ) (a b : Nights) → covers_nights at a b ≡ true → AreNightsCovered at a b
nights_means at a b h s o =
    elim (or_cases (list_any (covers_start at a.dates b.dates s) b.starts) (has_nights (past_period s) a.dates s)
    (all_one (covers_period at a.dates b) a.starts h s o)) [
      | inl y ↦ (let g = any_one (covers_start at a.dates b.dates s) b.starts y in inr (g.0, g.1, start_means at a.dates b.dates s g.0 g.2))
      | inr y ↦ inl y
    ]

means_nights : (at : ℕ) (a b : Nights) → AreNightsCovered at a b → covers_nights at a b ≡ true
means_nights at a b h = one_all (covers_period at a.dates b) a.starts (λ s o. elim (h s o) [
  | inl y ↦ or_right (list_any (covers_start at a.dates b.dates s) b.starts) (has_nights (past_period s) a.dates s) y
  | inr y ↦ or_left (list_any (covers_start at a.dates b.dates s) b.starts) (has_nights (past_period s) a.dates s) (one_any (covers_start at a.dates b.dates s) b.starts y.0 y.1 (means_start at a.dates b.dates s y.0 y.2))
])

pub covers_means : (a b : HvnlState) (at : ℕ) → (covers_state a b at ≡ true) ↔ IsCovered a b at
covers_means a b at = (
  (λ h. let c = and_parts (covers_held a.held b.held) (covers_nights at a.nights b.nights) h in record { held = held_means a.held b.held c.0; nights = nights_means at a.nights b.nights c.1 }),
  (λ h. and_from (covers_held a.held b.held) (covers_nights at a.nights b.nights) (means_held a.held b.held h.held) (means_nights at a.nights b.nights h.nights)),
)

-- # Reflexive and transitive

pub implies_means : (a b : Limit) → implies a b ≡ true → a.duty + (b.units - a.units) ≤ b.duty
implies_means a b e = grind (arith, nat_tests)

pub implies_from : (a b : Limit) → a.duty + (b.units - a.units) ≤ b.duty → implies a b ≡ true
implies_from a b l = grind (arith, nat_tests)

pub implies_itself : (a : Limit) → implies a a ≡ true
implies_itself a = implies_from a a (omega arith)

pub implies_on : (a b c : Limit) → implies a b ≡ true → implies b c ≡ true → implies a c ≡ true
implies_on a b c e f = let l = implies_means a b e in let m = implies_means b c f in implies_from a c (omega arith)

pub gives_means : (m n : Need) → gives m n ≡ true → (m.rest ≡ n.rest) × (m.units ≤ n.units)
gives_means m n e = let b = and_parts (nat_eq m.rest n.rest) (nat_le m.units n.units) e in let x = b.0 in let y = b.1 in (grind (arith, nat_tests), grind (arith, nat_tests))

pub gives_from : (m n : Need) → m.rest ≡ n.rest → m.units ≤ n.units → gives m n ≡ true
gives_from m n a b = and_from (nat_eq m.rest n.rest) (nat_le m.units n.units) (grind (arith, nat_tests)) (grind (arith, nat_tests))

pub gives_itself : (n : Need) → gives n n ≡ true
gives_itself n = gives_from n n refl (omega arith)

gives_on : (a b c : Need) → gives a b ≡ true → gives b c ≡ true → gives a c ≡ true
gives_on a b c e f = let l = gives_means a b e in let m = gives_means b c f in let p = l.1 in let q = m.1 in gives_from a c (l.0 ∙ m.0) (omega arith)

-- rest in progress that stands for other rest is no less, and the same periods begin after it
run_less : (a b : ℕ) → IsRunCovered a b → b ≤ a
run_less a b h = elim h [ inl e ↦ omega arith | inr r ↦ r.1 ]

same_start : (n a b : ℕ) → n ≤ AU_LONG_START → IsRunCovered a b → nat_le n b ≡ nat_le n a
same_start n a b l h = elim h [
  | inl e ↦ ap (nat_le n) (sym e)
  | inr r ↦
      let c = r.0 in
      let d = r.1 in
      let x : nat_le n b ≡ true = (let m : n ≤ b = omega arith in grind (arith, nat_tests)) in
      let y : nat_le n a ≡ true = (let m : n ≤ a = omega arith in grind (arith, nat_tests)) in
      x ∙ sym y
]

met_less : (a b : Held) → IsHeldMet a b → b.run ≤ a.run
met_less a b h = elim h.run [ inl c ↦ run_less a.run b.run c | inr f ↦ f.0 ]

-- what forces rest there forces it where that is covered
forced_on : (b c : Held) → IsHeldMet b c → IsForced b.needs → IsForced c.needs
forced_on b c g f =
    let l = g.needs f.0 f.1 in
    let t = f.2 in
    elim l.2 [
      | inl y ↦ (let m = gives_means l.0 f.0 y in let r = m.0 in let u = m.1 in (l.0, l.1, omega arith))
      | inr y ↦ (l.0, l.1, y.0)
    ]

run_on : (a b c : Held) → IsHeldMet a b → IsHeldMet b c → RunMet a c
run_on a b c h g =
    let l = met_less a b h in
    let m = met_less b c g in
    elim g.run [
      | inl d ↦ elim d [
        | inl e ↦ elim h.run [ inl y ↦ inl (subst (IsRunCovered a.run) e y) | inr f ↦ inr (omega arith, forced_on b c g f.1) ]
        | inr r ↦ inl (inr (r.0, omega arith))
      ]
      | inr f ↦ inr (omega arith, f.1)
    ]

met_on : (l k n : Need) → (gives l k ≡ true) ⊎ ((l.units ≤ l.rest) × (k.rest ≤ l.rest)) → (gives k n ≡ true) ⊎ ((k.units ≤ k.rest) × (n.rest ≤ k.rest)) → (gives l n ≡ true) ⊎ ((l.units ≤ l.rest) × (n.rest ≤ l.rest))
met_on l k n h g = elim h [
  | inl y ↦ elim g [
    | inl z ↦ inl (gives_on l k n y z)
    | inr z ↦ (let m = gives_means l k y in let r = m.0 in let u = m.1 in let t = z.0 in let w = z.1 in inr (omega arith, omega arith))
  ]
  | inr y ↦
      let w = y.1 in
      elim g [
        | inl z ↦ (let m = gives_means k n z in let r = m.0 in inr (y.0, omega arith))
        | inr z ↦ (let v = z.1 in inr (y.0, omega arith))
      ]
]

run_more : (a b : ℕ) → IsRunCovered a b → IsRunCovered (min (one_more a) AU_7D_REST) (min (one_more b) AU_7D_REST)
run_more a b h = elim h [ inl e ↦ inl (ap (λ r. min (one_more r) AU_7D_REST) e) | inr r ↦ (let l = r.0 in let m = r.1 in inr (omega arith, omega arith)) ]

start_itself : (at : ℕ) (dates : List ℕ) (s : ℕ) → IsStartCovered at dates dates s s
start_itself at dates s = record { last = omega arith; first = omega arith; nights = λ d o e. (e, o) }

start_on : (at : ℕ) (ds es fs : List ℕ) (s t u : ℕ) → IsStartCovered at ds es s t → IsStartCovered at es fs t u → IsStartCovered at ds fs s u
start_on at ds es fs s t u h g =
    let hl = h.last in
    let gl = g.last in
    let hf = h.first in
    let gf = g.first in
    record {
      last = omega arith;
      first = omega arith;
      nights = λ d o e. (let q = g.nights d o e in h.nights d q.1 q.0);
    }

nights_on : (at : ℕ) (a b c : Nights) → AreNightsCovered at a b → AreNightsCovered at b c → AreNightsCovered at a c
nights_on at a b c h g s o = elim (h s o) [
  | inl y ↦ inl y
  | inr y ↦ elim (g y.0 y.1) [
    | inl z ↦ inl (nights_carried (past_period y.0) b.dates a.dates y.0 s (omega arith) y.2.nights z)
    | inr z ↦ inr (z.0, z.1, start_on at a.dates b.dates c.dates s y.0 z.0 y.2 z.2)
  ]
]

covered_itself : (s : HvnlState) (at : ℕ) → IsCovered s s at
covered_itself s at = record {
  held = record { run = inl (inl refl); limits = λ q o. (q, o, implies_itself q); needs = λ n o. (n, o, inl (gives_itself n)) };
  nights = λ t o. inr (t, o, start_itself at s.nights.dates t);
}

covered_on : (a b c : HvnlState) (at : ℕ) → IsCovered a b at → IsCovered b c at → IsCovered a c at
covered_on a b c at h g = record {
  held = record {
    run = run_on a.held b.held c.held h.held g.held;
    limits = λ q o. (let k = h.held.limits q o in let l = g.held.limits k.0 k.1 in (l.0, l.1, implies_on l.0 k.0 q l.2 k.2));
    needs = λ n o. (let k = h.held.needs n o in let l = g.held.needs k.0 k.1 in (l.0, l.1, met_on l.0 k.0 n l.2 k.2));
  };
  nights = nights_on at a.nights b.nights c.nights h.nights g.nights;
}

pub hvnl_covers_itself : (s : HvnlState) (at : ℕ) → covers_state s s at ≡ true
hvnl_covers_itself s at = (covers_means s s at).1 (covered_itself s at)

pub hvnl_covers_on : (a b c : HvnlState) (at : ℕ) → covers_state a b at ≡ true → covers_state b c at ≡ true → covers_state a c at ≡ true
hvnl_covers_on a b c at h g = (covers_means a c at).1 (covered_on a b c at ((covers_means a b at).0 h) ((covers_means b c at).0 g))

-- # Limits and needs that are added

added_cases : (ps : List Limit) (p : Limit) → ((added_limits ps p ≡ ps) × ((is_open p ≡ false) ⊎ (list_any (λ q. implies q p) ps ≡ true)))
    ⊎ ((added_limits ps p ≡ filter (λ q. not (implies p q)) ps ++ p ∷ []) × (is_open p ≡ true))
added_cases ps p = elim (is_open p) as (λ b. ((cond b (cond (list_any (λ q. implies q p) ps) ps (filter (λ q. not (implies p q)) ps ++ p ∷ [])) ps ≡ ps) × ((b ≡ false) ⊎ (list_any (λ q. implies q p) ps ≡ true)))
    ⊎ ((cond b (cond (list_any (λ q. implies q p) ps) ps (filter (λ q. not (implies p q)) ps ++ p ∷ [])) ps ≡ filter (λ q. not (implies p q)) ps ++ p ∷ []) × (b ≡ true))) [
      | false ↦ inl (refl, inl refl)
      | true ↦ elim (list_any (λ q. implies q p) ps) as (λ c. ((cond c ps (filter (λ q. not (implies p q)) ps ++ p ∷ []) ≡ ps) × ((true ≡ false) ⊎ (c ≡ true)))
          ⊎ ((cond c ps (filter (λ q. not (implies p q)) ps ++ p ∷ []) ≡ filter (λ q. not (implies p q)) ps ++ p ∷ []) × (true ≡ true))) [
            | true ↦ inl (refl, inr refl)
            | false ↦ inr (refl, refl)
          ]
    ]

-- some limit of the list implies this one
abbrev pub IsGiven : List Limit → Limit → Type 0
IsGiven ps q = (k : Limit) × IsOneOf ps k × (implies k q ≡ true)

-- a limit of the longer list is one of the list, or the new one
pub one_added : (ps : List Limit) (p q : Limit) → IsOneOf (added_limits ps p) q → IsOneOf ps q ⊎ ((p ≡ q) × (is_open p ≡ true))
one_added ps p q o = elim (added_cases ps p) [
  | inl c ↦ inl (subst (λ l. IsOneOf l q) c.0 o)
  | inr c ↦ elim (one_of-append (filter (λ r. not (implies p r)) ps) (p ∷ []) q (subst (λ l. IsOneOf l q) c.0 o)) [
    | inl a ↦ inl ((filter_one (λ r. not (implies p r)) ps q a).0)
    | inr a ↦ elim a [ inl e ↦ inr (e, c.1) | inr z ↦ absurd z ]
  ]
]

-- what the list implies, the longer one implies
pub added_gives : (ps : List Limit) (p q : Limit) → IsGiven ps q → IsGiven (added_limits ps p) q
added_gives ps p q g = elim (added_cases ps p) [
  | inl c ↦ subst (λ l. IsGiven l q) (sym c.0) g
  | inr c ↦ subst (λ l. IsGiven l q) (sym c.0) (elim (cases_Bool (implies p g.0)) [
    | inl y ↦ (p, one_of-append_right (filter (λ r. not (implies p r)) ps) (p ∷ []) p (inl refl), implies_on p g.0 q y g.2)
    | inr n ↦ (g.0, one_of-append_left (filter (λ r. not (implies p r)) ps) (p ∷ []) g.0 (one_filter (λ r. not (implies p r)) ps g.0 (ap not n) g.1), g.2)
  ])
]

-- and it implies the new one
pub added_new : (ps : List Limit) (p : Limit) → is_open p ≡ true → IsGiven (added_limits ps p) p
added_new ps p e = elim (added_cases ps p) [
  | inl c ↦ subst (λ l. IsGiven l p) (sym c.0) (elim c.1 [ inl n ↦ absurd (let z : false ≡ true = sym n ∙ e in cc) | inr y ↦ any_one (λ q. implies q p) ps y ])
  | inr c ↦ subst (λ l. IsGiven l p) (sym c.0) (p, one_of-append_right (filter (λ r. not (implies p r)) ps) (p ∷ []) p (inl refl), implies_itself p)
]

covered_added : (a b : Held) (p : Limit) → IsHeldCovered a b → IsHeldCovered (added a p) (added b p)
covered_added a b p h = record {
  run = h.run;
  limits = λ q o. elim (one_added a.limits p q o) [
    | inl y ↦ added_gives b.limits p q (h.limits q y)
    | inr y ↦ subst (IsGiven (added_limits b.limits p)) y.0 (added_new b.limits p y.1)
  ];
  needs = h.needs;
}

covered_all : (ps : List Limit) (a b : Held) → IsHeldCovered a b → IsHeldCovered (added_all a ps) (added_all b ps)
covered_all [] a b h = h
covered_all (p ∷ ps) a b h = covered_all ps (added a p) (added b p) (covered_added a b p h)

covered_when : (t : Bool) (ps : List Limit) (a b : Held) → IsHeldCovered a b → IsHeldCovered (cond t (added_all a ps) a) (cond t (added_all b ps) b)
covered_when true ps a b h = covered_all ps a b h
covered_when false ps a b h = h

-- the limits of the periods that begin
abbrev begun_by : Bool → Bool → Held → Held
begun_by long short h = cond long (added_all (cond short (added_all h short_limits) h) long_limits) (cond short (added_all h short_limits) h)

covered_begun : (a b : Held) → IsHeldCovered a b → IsHeldCovered (begun a) (begun b)
covered_begun a b h =
    subst (λ t. IsHeldCovered (begun_by t (nat_le AU_SHORT_START a.run) a) (begun b)) (same_start AU_LONG_START a.run b.run (omega arith) h.run)
    (subst (λ t. IsHeldCovered (begun_by (nat_le AU_LONG_START b.run) t a) (begun b)) (same_start AU_SHORT_START a.run b.run (omega arith) h.run)
    (covered_when (nat_le AU_LONG_START b.run) long_limits (cond (nat_le AU_SHORT_START b.run) (added_all a short_limits) a) (cond (nat_le AU_SHORT_START b.run) (added_all b short_limits) b)
    (covered_when (nat_le AU_SHORT_START b.run) short_limits a b h)))

-- some need of the list gives this one
abbrev pub IsNeeded : List Need → Need → Type 0
IsNeeded ns n = (k : Need) × IsOneOf ns k × (gives k n ≡ true)

pub needed_cases : (ns : List Need) (n : Need) → ((needed_needs ns n ≡ ns) × (list_any (λ m. gives m n) ns ≡ true)) ⊎ (needed_needs ns n ≡ ns ++ n ∷ [])
needed_cases ns n = elim (list_any (λ m. gives m n) ns) as (λ b. ((cond b ns (ns ++ n ∷ []) ≡ ns) × (b ≡ true)) ⊎ (cond b ns (ns ++ n ∷ []) ≡ ns ++ n ∷ [])) [ true ↦ inl (refl, refl) | false ↦ inr refl ]

covered_needed : (a b : Held) (n : Need) → IsHeldCovered a b → IsHeldCovered (needed a n) (needed b n)
covered_needed a b n h =
    let old : (m : Need) → IsNeeded b.needs m → IsNeeded (needed_needs b.needs n) m = (λ m g. elim (needed_cases b.needs n) [
      | inl c ↦ subst (λ l. IsNeeded l m) (sym c.0) g
      | inr c ↦ subst (λ l. IsNeeded l m) (sym c) (g.0, one_of-append_left b.needs (n ∷ []) g.0 g.1, g.2)
    ]) in
    let new : IsNeeded (needed_needs b.needs n) n = (elim (needed_cases b.needs n) [
      | inl c ↦ subst (λ l. IsNeeded l n) (sym c.0) (any_one (λ m. gives m n) b.needs c.1)
      | inr c ↦ subst (λ l. IsNeeded l n) (sym c) (n, one_of-append_right b.needs (n ∷ []) n (inl refl), gives_itself n)
    ]) in
    record {
      run = h.run;
      limits = h.limits;
      needs = λ m o. elim (needed_cases a.needs n) [
        | inl c ↦ old m (h.needs m (subst (λ l. IsOneOf l m) c.0 o))
        | inr c ↦ elim (one_of-append a.needs (n ∷ []) m (subst (λ l. IsOneOf l m) c o)) [
          | inl y ↦ old m (h.needs m y)
          | inr y ↦ elim y [ inl e ↦ subst (IsNeeded (needed_needs b.needs n)) e new | inr z ↦ absurd z ]
        ]
      ];
    }

covered_needs : (run : ℕ) (a b : Held) → IsHeldCovered a b → IsHeldCovered (with_needs run a) (with_needs run b)
covered_needs run a b h = elim (nat_le AU_LONG_START run) as (λ t. IsHeldCovered (cond t (needed (needed a day_need) week_need) a) (cond t (needed (needed b day_need) week_need) b)) [
  | true ↦ covered_needed (needed a day_need) (needed b day_need) week_need (covered_needed a b day_need h)
  | false ↦ h
]

-- # One more unit of what is held

one_open : (ps : List Limit) (q : Limit) → All IsOpenLimit ps → IsOneOf ps q → q.duty < q.units
one_open [] q a o = absurd o
one_open (p ∷ ps) q a o = elim o [ inl e ↦ subst (λ r. r.duty < r.units) e (All-head IsOpenLimit p ps a) | inr r ↦ one_open ps q (All-tail IsOpenLimit p ps a) r ]

-- where the other may be at work, so may this one
covered_may : (a b : Held) → IsHeldCovered a b → may_spend b ≡ true → may_spend a ≡ true
covered_may a b h e =
    let c = and_parts (list_all (λ p. nat_lt 0 p.duty) b.limits) (list_all (λ n. nat_lt n.rest n.units) b.needs) e in
    and_from (list_all (λ p. nat_lt 0 p.duty) a.limits) (list_all (λ n. nat_lt n.rest n.units) a.needs)
    (one_all (λ p. nat_lt 0 p.duty) a.limits (λ q o.
    let k = h.limits q o in
    let l = implies_means k.0 q k.2 in
    let d = all_one (λ p. nat_lt 0 p.duty) b.limits c.0 k.0 k.1 in
    let m : 0 < k.0.duty = grind (arith, nat_tests) in
    let r : 0 < q.duty = omega arith in
    grind (arith, nat_tests)))
    (one_all (λ n. nat_lt n.rest n.units) a.needs (λ n o.
    let k = h.needs n o in
    let l = gives_means k.0 n k.2 in
    let d = all_one (λ n. nat_lt n.rest n.units) b.needs c.1 k.0 k.1 in
    let m : k.0.rest < k.0.units = grind (arith, nat_tests) in
    let u = l.0 in
    let v = l.1 in
    let r : n.rest < n.units = omega arith in
    grind (arith, nat_tests)))

covered_spent : (a b : Held) → IsHeld b → may_spend b ≡ true → IsHeldCovered a b → IsHeldCovered (spent a) (spent b)
covered_spent a b i e h =
    let c = and_parts (list_all (λ p. nat_lt 0 p.duty) b.limits) (list_all (λ n. nat_lt n.rest n.units) b.needs) e in
    record {
      run = inl refl;
      limits = λ r o.
          let q = one_of-map spent_limit a.limits r o in
          let k = h.limits q.0 q.1 in
          let l = implies_means k.0 q.0 k.2 in
          let u = one_open b.limits k.0 i.limits k.1 in
          let d = all_one (λ p. nat_lt 0 p.duty) b.limits c.0 k.0 k.1 in
          let m : 0 < k.0.duty = grind (arith, nat_tests) in
          (spent_limit k.0, one_of_map spent_limit b.limits k.0 k.1, subst (λ r. implies (spent_limit k.0) r ≡ true) q.2 (implies_from (spent_limit k.0) (spent_limit q.0) (omega arith)));
      needs = λ r o.
          let q = one_of-map passed_need a.needs r o in
          let k = h.needs q.0 q.1 in
          let l = gives_means k.0 q.0 k.2 in
          let v = l.1 in
          (passed_need k.0, one_of_map passed_need b.needs k.0 k.1, subst (λ r. gives (passed_need k.0) r ≡ true) q.2 (gives_from (passed_need k.0) (passed_need q.0) l.0 (omega arith)));
    }

one_kind : (ns : List Need) (k : Need) → All (λ n. is_kind n ≡ true) ns → IsOneOf ns k → AU_LONG_START ≤ k.rest
one_kind [] k a o = absurd o
one_kind (n ∷ ns) k a o = elim o [
  | inl e ↦ (let r = ap (λ m. m.rest) e in elim (kind_cases n (All-head (λ n. is_kind n ≡ true) n ns a)) [ inl c ↦ (let q = c.0 in omega arith) | inr c ↦ (let q = c.0 in omega arith) ])
  | inr r ↦ one_kind ns k (All-tail (λ n. is_kind n ≡ true) n ns a) r
]

-- a need that is not met with one more rest unit
passed_one : (run : ℕ) (ns : List Need) (k : Need) → one_more run < k.rest → IsOneOf ns k → IsOneOf (filter (waits (one_more run)) (map passed_need ns)) (passed_need k)
passed_one run ns k l o = one_filter (waits (one_more run)) (map passed_need ns) (passed_need k) (grind (arith, nat_tests)) (one_of_map passed_need ns k o)

passed_run : (a b : Held) → All (λ n. is_kind n ≡ true) b.needs → IsHeldMet a b → RunMet (after_rest a) (after_rest b)
passed_run a b kinds h = elim h.run [
  | inl c ↦ inl (run_more a.run b.run c)
  | inr f ↦
      let less = f.0 in
      let t = f.1.2 in
      let long = one_kind b.needs f.1.0 kinds f.1.1 in
      elim (cases_lt (one_more b.run) f.1.0.rest) [
        | inl l ↦ inr (omega arith, (passed_need f.1.0, passed_one b.run b.needs f.1.0 l f.1.1, omega arith))
        | inr l ↦ inl (inr (omega arith, omega arith))
      ]
]

covered_passed : (a b : Held) → IsHeld b → All (λ n. is_kind n ≡ true) b.needs → IsHeldMet a b → IsHeldMet (after_rest a) (after_rest b)
covered_passed a b i kinds h = record {
  run = passed_run a b kinds h;
  limits = λ r o.
      let f = filter_one is_open (map passed_limit a.limits) r o in
      let q = one_of-map passed_limit a.limits r f.0 in
      let k = h.limits q.0 q.1 in
      let l = implies_means k.0 q.0 k.2 in
      let u = one_open b.limits k.0 i.limits k.1 in
      let open_q : is_open (passed_limit q.0) ≡ true = ap is_open q.2 ∙ f.1 in
      let m : q.0.duty < q.0.units - 1 = grind (arith, nat_tests) in
      let n : k.0.duty < k.0.units - 1 = omega arith in (
        passed_limit k.0,
        one_filter is_open (map passed_limit b.limits) (passed_limit k.0) (grind (arith, nat_tests)) (one_of_map passed_limit b.limits k.0 k.1),
        subst (λ r. implies (passed_limit k.0) r ≡ true) q.2 (implies_from (passed_limit k.0) (passed_limit q.0) (omega arith)),
      );
  needs = λ r o.
      let f = filter_one (waits (one_more a.run)) (map passed_need a.needs) r o in
      let q = one_of-map passed_need a.needs r f.0 in
      let k = h.needs q.0 q.1 in
      let less = met_less a b h in
      let waits_here : nat_lt (one_more a.run) q.0.rest ≡ true = ap (waits (one_more a.run)) q.2 ∙ f.1 in
      let m : one_more a.run < q.0.rest = grind (arith, nat_tests) in
      elim k.2 [
        | inl y ↦
            let l = gives_means k.0 q.0 y in
            let same = l.0 in
            let v = l.1 in
            (passed_need k.0, passed_one b.run b.needs k.0 (omega arith) k.1, inl (subst (λ r. gives (passed_need k.0) r ≡ true) q.2 (gives_from (passed_need k.0) (passed_need q.0) l.0 (omega arith))))
        | inr y ↦
            let t = y.0 in
            let v = y.1 in
            let same : q.0.rest ≡ r.rest = ap (λ n. n.rest) q.2 in
            (passed_need k.0, passed_one b.run b.needs k.0 (omega arith) k.1, inr (omega arith, omega arith))
      ];
}

-- where a unit may be duty, no need forces rest
held_strict : (a b : Held) → may_spend (begun b) ≡ true → IsHeldMet a b → IsHeldCovered a b
held_strict a b e h =
    let c = and_parts (list_all (λ p. nat_lt 0 p.duty) (begun b).limits) (list_all (λ n. nat_lt n.rest n.units) (begun b).needs) e in
    let may : list_all (λ n. nat_lt n.rest n.units) b.needs ≡ true = subst (λ ns. list_all (λ n. nat_lt n.rest n.units) ns ≡ true) (begun_needs b) c.1 in
    let free : (k : Need) → IsOneOf b.needs k → k.rest < k.units = (λ k o. (let y = all_one (λ n. nat_lt n.rest n.units) b.needs may k o in grind (arith, nat_tests))) in
    record {
      run = elim h.run [ inl y ↦ y | inr f ↦ absurd (let t = f.1.2 in let u = free f.1.0 f.1.1 in omega arith) ];
      limits = h.limits;
      needs = λ n o. (let k = h.needs n o in (k.0, k.1, elim k.2 [ inl y ↦ y | inr y ↦ absurd (let t = y.0 in let u = free k.0 k.1 in omega arith) ]));
    }

strict_held : (a b : Held) → IsHeldCovered a b → IsHeldMet a b
strict_held a b h = record { run = inl h.run; limits = h.limits; needs = λ n o. (let k = h.needs n o in (k.0, k.1, inl k.2)) }

covered_duty : (a b : Held) → IsHeld b → may_spend (begun b) ≡ true → IsHeldCovered a b → IsHeldCovered (after_duty a) (after_duty b)
covered_duty a b i e h =
    subst (λ t. IsHeldCovered (cond t (needed (needed (spent (begun a)) day_need) week_need) (spent (begun a))) (after_duty b)) (same_start AU_LONG_START a.run b.run (omega arith) h.run)
    (covered_needs b.run (spent (begun a)) (spent (begun b)) (covered_spent (begun a) (begun b) (begun_held b i) e (covered_begun a b h)))

-- # Nights

-- a night of the other's period that is safe there is one of this, and is safe here
safe_covered : (at : ℕ) (a b : Nights) (s t d : ℕ) → IsStartCovered at a.dates b.dates s t → first_date t ≤ d → d < end_date t → is_safe (at + minutes AU_NIGHT_REST) b.dates d ≡ true →
    (first_date s ≤ d) × (d < end_date s) × (is_safe (at + minutes AU_NIGHT_REST) a.dates d ≡ true)
safe_covered at a b s t d h l r e =
    let S = nat_le (at + minutes AU_NIGHT_REST) (DAY_MINUTES * d + minutes AU_NIGHT_AFTER) in
    elim (or_cases (is_dated b.dates d) S e) [
      | inl y ↦
          let q = h.nights d (dated_one b.dates d y) (in_night d t l r) in
          let i = night_in d s q.0 in
          (i.0, i.1, or_left (is_dated a.dates d) S (one_dated a.dates d q.1))
      | inr y ↦
          let m : at + minutes AU_NIGHT_REST ≤ DAY_MINUTES * d + minutes AU_NIGHT_AFTER = grind (arith, nat_tests) in
          let last = h.last in
          let first = h.first in
          let come : today at ≤ d = omega arith in
          (omega arith, omega arith, or_right (is_dated a.dates d) S y)
    ]

ok_covered : (at : ℕ) (a b : Nights) → AreNightsCovered at a b → nights_ok at b ≡ true → nights_ok at a ≡ true
ok_covered at a b h e = one_all (has_nights (at + minutes AU_NIGHT_REST) a.dates) a.starts (λ s o. elim (h s o) [
  | inl y ↦ nights_for_good (at + minutes AU_NIGHT_REST) a.dates s y
  | inr y ↦
      nights_moved (at + minutes AU_NIGHT_REST) (at + minutes AU_NIGHT_REST) b.dates a.dates y.0 s (λ d l r z. safe_covered at a b s y.0 d y.2 l r z)
      (all_one (has_nights (at + minutes AU_NIGHT_REST) b.dates) b.starts e y.0 y.1)
])

-- at a later minute fewer nights may get a break yet
covered_later : (at later : ℕ) (a b : Nights) → at ≤ later → AreNightsCovered at a b → AreNightsCovered later a b
covered_later at later a b l h s o = elim (h s o) [
  | inl y ↦ inl y
  | inr y ↦ (let f = y.2.first in inr (y.0, y.1, record { last = y.2.last; first = omega arith; nights = y.2.nights }))
]

one_below : (at : ℕ) (ds : List ℕ) (d : ℕ) → All (λ d. DAY_MINUTES * d ≤ at) ds → IsOneOf ds d → DAY_MINUTES * d ≤ at
one_below at [] d a o = absurd o
one_below at (k ∷ ds) d a o = elim o [ inl e ↦ subst (λ d. DAY_MINUTES * d ≤ at) e (All-head (λ d. DAY_MINUTES * d ≤ at) k ds a) | inr r ↦ one_below at ds d (All-tail (λ d. DAY_MINUTES * d ≤ at) k ds a) r ]

covered_pushed : (at run : ℕ) (a b : Nights) → All (λ d. DAY_MINUTES * d ≤ at) b.dates → AreNightsCovered at a b → AreNightsCovered at (pushed at run a) (pushed at run b)
covered_pushed at run a b below h = elim (nat_le AU_LONG_START run) as (λ t. AreNightsCovered at (cond t (record a { starts = a.starts ++ at ∷ [] }) a) (cond t (record b { starts = b.starts ++ at ∷ [] }) b)) [
  | true ↦ λ s o. elim (one_of-append a.starts (at ∷ []) s o) [
    | inl y ↦ elim (h s y) [ inl z ↦ inl z | inr z ↦ inr (z.0, one_of-append_left b.starts (at ∷ []) z.0 z.1, z.2) ]
    | inr y ↦ inr (
      s,
      one_of-append_right b.starts (at ∷ []) s y,
      record {
        last = omega arith;
        first = omega arith;
        nights = λ d i e. absurd (elim y [
          | inl f ↦ (let l = one_below at b.dates d below i in let k = (and_parts (begins_in d s) (ends_in d s) e).0 in let begins : s + minutes AU_NIGHT_BEFORE ≤ DAY_MINUTES * d = grind (arith, nat_tests) in omega arith)
          | inr z ↦ absurd z
        ]);
      },
    )
  ]
  | false ↦ h
]

-- the longer rest passes each test of its length
longer_passes : (least run more : ℕ) (rest : Bool) → run ≤ more → (nat_le least run && rest) ≡ true → (nat_le least more && rest) ≡ true
longer_passes least run more rest l y =
    let c = and_parts (nat_le least run) rest y in
    let r = c.0 in
    let m : least ≤ run = grind (arith, nat_tests) in
    let n : least ≤ more = omega arith in
    and_from (nat_le least more) rest (grind (arith, nat_tests)) c.1

-- the longer rest gives each night its break
rested_longer : (at more run date : ℕ) → run ≤ more → is_rested at run date ≡ true → is_rested at more date ≡ true
rested_longer at more run date l e =
    let P = nat_le (DAY_MINUTES * date + minutes AU_NIGHT_REST) (at + minutes (1 + AU_NIGHT_BEFORE)) && nat_le (at + minutes 1) (DAY_MINUTES * date + minutes AU_NIGHT_AFTER) in
    let Q = nat_lt (at + minutes 1) (DAY_MINUTES * date + minutes AU_NIGHT_LONG_REST) in
    elim (or_cases (nat_le AU_NIGHT_REST run && P) (nat_le AU_NIGHT_LONG_REST run && Q) e) [
      | inl y ↦ or_left (nat_le AU_NIGHT_REST more && P) (nat_le AU_NIGHT_LONG_REST more && Q) (longer_passes AU_NIGHT_REST run more P l y)
      | inr y ↦ or_right (nat_le AU_NIGHT_REST more && P) (nat_le AU_NIGHT_LONG_REST more && Q) (longer_passes AU_NIGHT_LONG_REST run more Q l y)
    ]

covered_dated : (at more run : ℕ) (a b : Nights) → run ≤ more → AreNightsCovered at a b → AreNightsCovered at (dated at more a) (dated at run b)
covered_dated at more run a b l h s o = elim (h s (subst (λ k. IsOneOf k s) (dated_starts at more a) o)) [
  | inl y ↦ inl (nights_carried (past_period s) a.dates (dated at more a).dates s s (omega arith) (λ d i e. (e, dated_keeps at more a d i)) y)
  | inr y ↦ inr (
    y.0,
    subst (λ k. IsOneOf k y.0) (sym (dated_starts at run b)) y.1,
    record {
      last = y.2.last;
      first = y.2.first;
      nights = λ d i e. elim (one_of_dated at run b d i) [
        | inl z ↦ (let q = y.2.nights d z e in (q.0, dated_keeps at more a d q.1))
        | inr z ↦
            let in_other = night_in d y.0 e in
            let lo = in_other.0 in
            let hi = in_other.1 in
            let last = y.2.last in
            let first = y.2.first in
            let now = z.0 in
            (in_night d s (omega arith) (omega arith), subst (IsOneOf (dated at more a).dates) z.0 (dated_new at more a (rested_longer at more run (today at) l z.1)))
      ];
    },
  )
]

-- A period that is over has its nights for good.
covered_open : (at : ℕ) (a b : Nights) → ((t : ℕ) → IsOneOf b.starts t → is_running at t ≡ false → has_nights (past_period t) b.dates t ≡ true) → AreNightsCovered at a b → AreNightsCovered at (still_open at a) (still_open at b)
covered_open at a b over h s o =
    let f = filter_one (is_running at) a.starts s o in
    elim (h s f.0) [
      | inl y ↦ inl (kept_open at (past_period s) a s f.1 f.0 y)
      | inr y ↦ elim (cases_Bool (is_running at y.0)) [
        | inl r ↦ inr (
          y.0,
          one_filter (is_running at) b.starts y.0 r y.1,
          record {
            last = y.2.last;
            first = y.2.first;
            nights = λ d i e. (let g = filter_one (λ date. list_any (lies_in date) (running at b.starts)) b.dates d i in let q = y.2.nights d g.0 e in (q.0, date_open at a d s f.1 f.0 q.0 q.1));
          },
        )
        | inr r ↦ inl (nights_carried (past_period y.0) b.dates (still_open at a).dates y.0 s (omega arith) (λ d i e. (let q = y.2.nights d i e in (q.0, date_open at a d s f.1 f.0 q.0 q.1))) (over y.0 y.1 r))
      ]
    ]

-- the other's periods that are over had their nights
over_by : (at so : ℕ) (n : Nights) (t : ℕ) → at < so → is_running at t ≡ false → has_nights so n.dates t ≡ true → has_nights (past_period t) n.dates t ≡ true
over_by at so n t l r e =
    let m : t + minutes AU_14D_PERIOD ≤ at = grind (arith, nat_tests) in
    nights_carried so n.dates n.dates t t (omega arith) (λ d i y. (y, i)) e

-- # Simulation

covered_duty_state : (a b : HvnlState) (at : ℕ) → IsHvnlState b at → duty_ok b at ≡ true → IsCovered a b at → (duty_ok a at ≡ true) × IsCovered (duty_state a at) (duty_state b at) (at + minutes 1)
covered_duty_state a b at i e h =
    let c = and_parts (may_spend (begun b.held)) (nights_ok (at + minutes 1) (pushed at b.held.run b.nights)) e in
    let g = held_strict a.held b.held c.0 h.held in
    let m : AreNightsCovered at (pushed at a.held.run a.nights) (pushed at b.held.run b.nights) =
    subst (λ t. AreNightsCovered at (cond t (record a.nights { starts = a.nights.starts ++ at ∷ [] }) a.nights) (pushed at b.held.run b.nights)) (same_start AU_LONG_START a.held.run b.held.run (omega arith) g.run)
    (covered_pushed at b.held.run a.nights b.nights i.dates h.nights) in
    let n = covered_later at (at + minutes 1) (pushed at a.held.run a.nights) (pushed at b.held.run b.nights) (omega arith) m in (
      and_from (may_spend (begun a.held)) (nights_ok (at + minutes 1) (pushed at a.held.run a.nights)) (covered_may (begun a.held) (begun b.held) (covered_begun a.held b.held g) c.0)
          (ok_covered (at + minutes 1) (pushed at a.held.run a.nights) (pushed at b.held.run b.nights) n c.1),
      record {
        held = strict_held (after_duty a.held) (after_duty b.held) (covered_duty a.held b.held i.held c.0 g);
        nights = covered_open (at + minutes 1) (pushed at a.held.run a.nights) (pushed at b.held.run b.nights)
            (λ t o r. over_by (at + minutes 1) (at + minutes 1 + minutes AU_NIGHT_REST) (pushed at b.held.run b.nights) t (omega arith) r
            (all_one (has_nights (at + minutes 1 + minutes AU_NIGHT_REST) (pushed at b.held.run b.nights).dates) (pushed at b.held.run b.nights).starts c.1 t o)) n;
      },
    )

covered_rest_state : (a b : HvnlState) (at : ℕ) → IsHvnlState b at → IsCovered a b at → IsCovered (rest_state a at) (rest_state b at) (at + minutes 1)
covered_rest_state a b at i h =
    let c = covered_passed a.held b.held i.held i.few.kinds h.held in
    let more : ℕ = (after_rest a.held).run in
    let run : ℕ = (after_rest b.held).run in
    let few = i.run in
    let n = covered_later at (at + minutes 1) (dated at more a.nights) (dated at run b.nights) (omega arith) (covered_dated at more run a.nights b.nights (met_less (after_rest a.held) (after_rest b.held) c) h.nights) in
    record {
      held = c;
      nights = covered_open (at + minutes 1) (dated at more a.nights) (dated at run b.nights)
          (λ t o r. over_by (at + minutes 1) (next_break (at + minutes 1) run) (dated at run b.nights) t (omega arith) r
          (kept_rest at b.held.run run b.nights t (omega arith)
          (all_one (has_nights (next_break at b.held.run) b.nights.dates) b.nights.starts i.few_nights.kept t (subst (λ k. IsOneOf k t) (dated_starts at run b.nights) o)))) n;
    }

step_covered : (a b : HvnlState) (at : ℕ) (x : Activity) (t : HvnlState) → IsHvnlState b at → IsCovered a b at → hvnl_step b at x ≡ Some t → (u : HvnlState) × (hvnl_step a at x ≡ Some u) × IsCovered u t (at + minutes 1)
step_covered a b at x t i h e = elim (step_cases b at x t e) [
  | inl c ↦
      let d = covered_duty_state a b at i c.1 h in
      (duty_state a at, ap (λ w. cond w (cond (duty_ok a at) (Some (duty_state a at)) None) (Some (rest_state a at))) c.0 ∙ ap (λ w. cond w (Some (duty_state a at)) None) d.0, subst (λ k. IsCovered (duty_state a at) k (at + minutes 1)) c.2 d.1)
  | inr c ↦
      (rest_state a at, ap (λ w. cond w (cond (duty_ok a at) (Some (duty_state a at)) None) (Some (rest_state a at))) c.0, subst (λ k. IsCovered (rest_state a at) k (at + minutes 1)) c.1 (covered_rest_state a b at i h))
]

pub hvnl_simulation : (a b : HvnlState) (at : ℕ) (x : Activity) (n : Next HvnlState) → IsHvnlState b at → covers_state a b at ≡ true → IsOneOf (hvnl_nexts b at x) n → IsAnswered (hvnl_nexts a at x) (λ t. covers_state t n.state (at + unit_minutes Hvnl))
hvnl_simulation a b at x n i h o =
    let m = next_means b at x n o in
    let q = step_covered a b at x n.state i ((covers_means a b at).0 h) m.0 in
    (plain q.0, next_from a at x q.0 q.1, (covers_means q.0 n.state (at + minutes 1)).1 q.2)

-- # Idle activities

pub hvnl_idles_allowed : (y : Activity) → IsOneOf (idle_list hvnl_idles) y → (idles y ≡ true) × (allows Hvnl y ≡ true)
hvnl_idles_allowed y o = elim o [
  | inl e ↦ subst (λ y. (idles y ≡ true) × (allows Hvnl y ≡ true)) e (refl, refl)
  | inr r ↦ elim r [ inl e ↦ subst (λ y. (idles y ≡ true) × (allows Hvnl y ≡ true)) e (refl, refl) | inr z ↦ absurd z ]
]

-- an idle activity that a schedule may hold is one of them
idle_is : (x : Activity) → idles x ≡ true → allows Hvnl x ≡ true → IsOneOf (idle_list hvnl_idles) x
idle_is Drive e a = absurd (cc)
idle_is Serve e a = absurd (cc)
idle_is Wait e a = inr (inl refl)
idle_is Off e a = inl refl
idle_is Berth e a = absurd (cc)

pub hvnl_idles_cover : (s : HvnlState) (at : ℕ) (x : Activity) (n : ℕ) (t : Next HvnlState) → idles x ≡ true → allows Hvnl x ≡ true → IsOneOf (hvnl_advances s at x n) t →
    (y : Activity) × IsOneOf (idle_list hvnl_idles) y × IsAnswered (hvnl_advances s at y n) (λ u. covers_state u t.state (at + unit_minutes Hvnl * n))
hvnl_idles_cover s at x n t e a o = (x, idle_is x e a, (t, o, hvnl_covers_itself t.state (at + unit_minutes Hvnl * n)))
