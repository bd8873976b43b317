-- A state is written as its numbers, and read back from just these.
use Rattle.std.proofs.Common.{get_or, ◌≡◌, ℕ, zero, suc, ◌+◌, ◌-◌, ◌*◌, ◌<◌, ◌≤◌, Bool, true, false, ◌&&◌, cond, List, [], ◌∷◌, ◌++◌, length, take, drop, min, refl, sym, ◌∙◌, ap, subst, arith, inl, inr, length-append, append_assoc}
use Rattle.std.specs.Prelude.{None, Some, All, map, nat_eq, nat_lt, nat_le}
use Rattle.std.specs.List.{list_all, list_any}
use Rattle.std.specs.Str.{bytes_eq}
use Rattle.std.proofs.lemmas.Slice.Eq.{bytes_eq-Decides}
use Rattle.std.proofs.lemmas.Bool.{cases_Bool, cases_lt, and_parts, and_from, or_parts}
use Rattle.std.proofs.lemmas.Bool.Decides.{nat_tests}
use Rattle.std.proofs.lemmas.List.{length-map, take_more}
use Rattle.std.proofs.lemmas.List.Elements.{All-nil, All-cons, All-head, All-tail, All-append, All-weaker, All-map}
use Rattle.duty_core.specs.declared.activity.Activity.{Activity}
use Rattle.duty_core.specs.declared.mark.Mark.{Mark}
use Rattle.duty_core.specs.declared.params.Params.TheVariants.{Hvnl}
use Rattle.duty_core.specs.declared.limits.TheConstants.{DAY_MINUTES, AU_LONG_START, AU_24H_REST, AU_7D_REST, AU_14D_PERIOD}
use Rattle.duty_core.specs.History.{IsTimed}
use Rattle.duty_core.specs.PlainlyBetter.{IsPlainlyBetter}
use Rattle.allowance.specs.declared.limit.Limit.{Limit}
use Rattle.allowance.specs.declared.limit.Need.{Need}
use Rattle.allowance.specs.Allow.{Held, IsOpenLimit, is_open, is_open_need, is_held}
use Rattle.allowance.specs.Laws.AllowLaws.{held_test, held_from}
use Rattle.allowance.specs.Few.{slack}
use Rattle.rule_core.specs.declared.numbers.TheConstants.{MOST_NUMBERS, NUMBER_LIMIT}
use Rattle.hvnl_rules.specs.declared.state.HvnlState.{HvnlState}
use Rattle.hvnl_rules.specs.Counted.{at_most, at_least}
use Rattle.hvnl_rules.specs.Nights.{Nights, minutes, is_running, has_nights, next_break, today}
use Rattle.hvnl_rules.specs.Laws.Dates.{any_one, all_one, one_all}
use Rattle.hvnl_rules.specs.Few.{wide, most_wide, is_kind, asking, is_spaced, start_distance, is_recent, IsFewHeld, AreFewNights}
use Rattle.hvnl_rules.specs.Laws.FewLaws.{one_count, all_tested, kind_cases, most_less, raise_spaced, few_spaced}
use Rattle.hvnl_rules.specs.Machine.{IsHvnlState}
use Rattle.hvnl_rules.specs.Numbers.{limit_numbers, need_numbers, hvnl_numbers, item, limits_in, needs_in, needs_part, starts_part, dates_part, held_by, nights_by, state_by, fits, has_room, are_few_limits, are_few_needs, is_few_held, are_few_starts, are_few_dates, are_few_nights, is_hvnl_state, hvnl_state_of}

pub never : {X : Type 0} → false ≡ true → X
never e = absurd (cc)

-- a history of the same length is timed with another
pub better_timed : (first : ℕ) (h : List Activity) (marks : List Mark) (k : List Activity) (others : List Mark) → IsTimed Hvnl first h → IsPlainlyBetter Hvnl first h marks k others → IsTimed Hvnl first k
better_timed first h marks k others t g = let e = g.same_length in record { begins = t.begins; long = let l = t.long in omega arith; ends = let l = t.ends in omega arith }

-- # The test

tested : {X : Type 0} (P : X → Type 0) (test : X → Bool) → ((x : X) → P x → test x ≡ true) → (xs : List X) → All P xs → list_all test xs ≡ true
tested P test h [] a = refl
tested P test h (x ∷ xs) a = and_from (test x) (list_all test xs) (h x (All-head P x xs a)) (tested P test h xs (All-tail P x xs a))

-- no limit is wider than the longest period
none_wide : (v : ℕ) (ps : List Limit) → AU_14D_PERIOD ≤ v → All (λ p. p.units ≤ AU_14D_PERIOD) ps → wide v ps ≡ 0
none_wide v [] l a = refl
none_wide v (p ∷ ps) l a =
    let h = All-head (λ p. p.units ≤ AU_14D_PERIOD) p ps a in
    let s : slack p ≤ v = omega arith in
    let q : nat_lt v (slack p) ≡ false = grind (arith, nat_tests) in
    let c : cond {A = ℕ} (nat_lt v (slack p)) 1 0 ≡ 0 = ap (λ b. cond {A = ℕ} b 1 0) q in
    let o = one_count (λ p. nat_lt v (slack p)) p ps in
    let r = none_wide v ps l (All-tail (λ p. p.units ≤ AU_14D_PERIOD) p ps a) in
    omega arith

more_wide : (v : ℕ) (p : Limit) → nat_eq (slack p) (v + 1) ≡ false → cond {A = ℕ} (nat_lt v (slack p)) 1 0 ≤ cond {A = ℕ} (nat_lt (v + 1) (slack p)) 1 0
more_wide v p e =
    elim (cases_lt v (slack p)) [
      | inl l ↦
          let m : v + 1 < slack p = elim (cases_lt (v + 1) (slack p)) [ inl k ↦ k | inr k ↦ (let s : slack p ≡ v + 1 = omega arith in let y : nat_eq (slack p) (v + 1) ≡ true = grind (arith, nat_tests) in never (sym e ∙ y)) ] in
          let a : nat_lt (v + 1) (slack p) ≡ true = grind (arith, nat_tests) in
          let b : cond {A = ℕ} (nat_lt (v + 1) (slack p)) 1 0 ≡ 1 = ap (λ b. cond {A = ℕ} b 1 0) a in
          let c : nat_lt v (slack p) ≡ true = grind (arith, nat_tests) in
          let d : cond {A = ℕ} (nat_lt v (slack p)) 1 0 ≡ 1 = ap (λ b. cond {A = ℕ} b 1 0) c in
          omega arith
      | inr l ↦
          let c : nat_lt v (slack p) ≡ false = grind (arith, nat_tests) in
          let d : cond {A = ℕ} (nat_lt v (slack p)) 1 0 ≡ 0 = ap (λ b. cond {A = ℕ} b 1 0) c in
          omega arith
    ]

-- where none has just so many rest units to come, one rest unit takes none away
level_wide : (v : ℕ) (ps : List Limit) → list_any (λ p. nat_eq (slack p) (v + 1)) ps ≡ false → wide v ps ≤ wide (v + 1) ps
level_wide v [] e = omega arith
level_wide v (p ∷ ps) e =
    let c = or_parts (nat_eq (slack p) (v + 1)) (list_any (λ p. nat_eq (slack p) (v + 1)) ps) e in
    let a = one_count (λ p. nat_lt v (slack p)) p ps in
    let b = one_count (λ p. nat_lt (v + 1) (slack p)) p ps in
    let m = more_wide v p c.0 in
    let i = level_wide v ps c.1 in
    omega arith

-- so it is enough to look at the limits themselves
room_means : (ps : List Limit) (run k v : ℕ) → AU_14D_PERIOD ≤ v + k → All (λ p. p.units ≤ AU_14D_PERIOD) ps → list_all (has_room ps run) ps ≡ true → wide v ps ≤ most_wide (v + min run AU_LONG_START)
room_means ps run zero v l a e = let z = none_wide v ps (omega arith) a in omega arith
room_means ps run (suc k) v l a e = elim (cases_Bool (list_any (λ p. nat_eq (slack p) (v + 1)) ps)) [
  | inl y ↦
      let q = any_one (λ p. nat_eq (slack p) (v + 1)) ps y in
      let s : slack q.0 ≡ v + 1 = (let w = q.2 in grind (arith, nat_tests)) in
      let d : slack q.0 - 1 ≡ v = omega arith in
      let t : nat_le (wide v ps) (most_wide (v + min run AU_LONG_START)) ≡ true = subst (λ w. nat_le (wide w ps) (most_wide (w + min run AU_LONG_START)) ≡ true) d (all_one (has_room ps run) ps e q.0 q.1) in
      grind (arith, nat_tests)
  | inr y ↦
      let i = room_means ps run k (v + 1) (omega arith) a e in
      let f = level_wide v ps y in
      let m = most_less (v + min run AU_LONG_START) (v + 1 + min run AU_LONG_START) (omega arith) in
      omega arith
]

few_held_from : (h : Held) → is_few_held h ≡ true → IsFewHeld h
few_held_from h e =
    let ab = and_parts (are_few_limits h.limits h.run) (are_few_needs h.needs) e in
    let a = and_parts (list_all (λ p. nat_le p.units AU_14D_PERIOD) h.limits) (list_all (has_room h.limits h.run) h.limits) ab.0 in
    let c = and_parts (list_all is_kind h.needs) (nat_le (asking AU_24H_REST h.needs) 1 && nat_le (asking AU_7D_REST h.needs) 1) ab.1 in
    let d = and_parts (nat_le (asking AU_24H_REST h.needs) 1) (nat_le (asking AU_7D_REST h.needs) 1) c.1 in
    let d0 = d.0 in
    let d1 = d.1 in
    let tops : All (λ p. p.units ≤ AU_14D_PERIOD) h.limits = All-weaker (λ p. nat_le p.units AU_14D_PERIOD ≡ true) (λ p. p.units ≤ AU_14D_PERIOD) (λ p t. grind (arith, nat_tests)) h.limits (all_tested (λ p. nat_le p.units AU_14D_PERIOD) h.limits a.0) in
    record {
      tops = tops;
      limits = λ v. room_means h.limits h.run AU_14D_PERIOD v (omega arith) tops a.1;
      kinds = all_tested is_kind h.needs c.0;
      day_needs = grind (arith, nat_tests);
      week_needs = grind (arith, nat_tests);
    }

few_held_test : (h : Held) → IsFewHeld h → is_few_held h ≡ true
few_held_test h f =
    let x = f.day_needs in
    let y = f.week_needs in
    and_from (are_few_limits h.limits h.run) (are_few_needs h.needs)
    (and_from (list_all (λ p. nat_le p.units AU_14D_PERIOD) h.limits) (list_all (has_room h.limits h.run) h.limits) (tested (λ p. p.units ≤ AU_14D_PERIOD) (λ p. nat_le p.units AU_14D_PERIOD) (λ p l. grind (arith, nat_tests)) h.limits f.tops)
    (one_all (has_room h.limits h.run) h.limits (λ p o. (let l = f.limits (slack p - 1) in grind (arith, nat_tests)))))
    (and_from (list_all is_kind h.needs) (nat_le (asking AU_24H_REST h.needs) 1 && nat_le (asking AU_7D_REST h.needs) 1) (tested (λ n. is_kind n ≡ true) is_kind (λ n t. t) h.needs f.kinds)
    (and_from (nat_le (asking AU_24H_REST h.needs) 1) (nat_le (asking AU_7D_REST h.needs) 1) (grind (arith, nat_tests)) (grind (arith, nat_tests))))

-- the dates are of midnights that have come
record AreNightsAt (n : Nights) (run at : ℕ) : Type 0 where
  few : AreFewNights n run at
  dates : All (λ d. DAY_MINUTES * d ≤ at) n.dates

nights_from : (n : Nights) (run at : ℕ) → are_few_nights n run at ≡ true → AreNightsAt n run at
nights_from n run at e =
    let B = list_all (λ t. nat_le (t + minutes (1 + run)) at) n.starts in
    let C = list_all (is_running at) n.starts in
    let E = list_all (is_recent at) n.dates in
    let F = list_all (λ d. nat_le (DAY_MINUTES * d) at) n.dates in
    let K = list_all (has_nights (next_break at run) n.dates) n.starts in
    let ab = and_parts (are_few_starts n.starts run at) (are_few_dates n.dates at && K) e in
    let dk = and_parts (are_few_dates n.dates at) K ab.1 in
    let a = and_parts (is_spaced start_distance 0 n.starts) (B && C) ab.0 in
    let b = and_parts B C a.1 in
    let d = and_parts (is_spaced 1 0 n.dates) (E && F) dk.0 in
    let f = and_parts E F d.1 in
    record {
      few = record {
        spaced = a.0;
        begun = All-weaker (λ t. nat_le (t + minutes (1 + run)) at ≡ true) (λ t. t + minutes (1 + run) ≤ at) (λ t y. grind (arith, nat_tests)) n.starts (all_tested (λ t. nat_le (t + minutes (1 + run)) at) n.starts b.0);
        unfinished = all_tested (is_running at) n.starts b.1;
        ordered = d.0;
        recent = all_tested (is_recent at) n.dates f.0;
        kept = dk.1;
      };
      dates = All-weaker (λ d. nat_le (DAY_MINUTES * d) at ≡ true) (λ d. DAY_MINUTES * d ≤ at) (λ d y. grind (arith, nat_tests)) n.dates (all_tested (λ d. nat_le (DAY_MINUTES * d) at) n.dates f.1);
    }

nights_test : (n : Nights) (run at : ℕ) → AreNightsAt n run at → are_few_nights n run at ≡ true
nights_test n run at f =
    let B = list_all (λ t. nat_le (t + minutes (1 + run)) at) n.starts in
    let C = list_all (is_running at) n.starts in
    let E = list_all (is_recent at) n.dates in
    let F = list_all (λ d. nat_le (DAY_MINUTES * d) at) n.dates in
    let K = list_all (has_nights (next_break at run) n.dates) n.starts in
    and_from (are_few_starts n.starts run at) (are_few_dates n.dates at && K)
    (and_from (is_spaced start_distance 0 n.starts) (B && C) f.few.spaced
    (and_from B C (tested (λ t. t + minutes (1 + run) ≤ at) (λ t. nat_le (t + minutes (1 + run)) at) (λ t l. grind (arith, nat_tests)) n.starts f.few.begun)
    (tested (λ t. is_running at t ≡ true) (is_running at) (λ t y. y) n.starts f.few.unfinished)))
    (and_from (are_few_dates n.dates at) K
    (and_from (is_spaced 1 0 n.dates) (E && F) f.few.ordered
    (and_from E F (tested (λ d. is_recent at d ≡ true) (is_recent at) (λ t y. y) n.dates f.few.recent)
    (tested (λ d. DAY_MINUTES * d ≤ at) (λ d. nat_le (DAY_MINUTES * d) at) (λ d l. grind (arith, nat_tests)) n.dates f.dates)))
    f.few.kept)

pub state_from : (s : HvnlState) (at : ℕ) → is_hvnl_state s at ≡ true → IsHvnlState s at
state_from s at e =
    let A = is_held s.held in
    let B = nat_le s.held.run AU_7D_REST in
    let C = is_few_held s.held in
    let D = are_few_nights s.nights s.held.run at in
    let a = and_parts A (B && (C && D)) e in
    let b = and_parts B (C && D) a.1 in
    let c = and_parts C D b.1 in
    let h = and_parts (list_all is_open s.held.limits) (list_all (is_open_need s.held.run) s.held.needs) a.0 in
    let y = b.0 in
    let few = few_held_from s.held c.0 in
    let nights = nights_from s.nights s.held.run at c.1 in
    record {
      held = held_from s.held.limits s.held.needs s.held.run h.0 h.1;
      run = grind (arith, nat_tests);
      short = All-weaker (λ n. is_kind n ≡ true) (λ n. n.rest ≤ AU_7D_REST) (λ n k. elim (kind_cases n k) [ inl q ↦ (let z = q.0 in omega arith) | inr q ↦ (let z = q.0 in omega arith) ]) s.held.needs few.kinds;
      starts = All-weaker (λ t. t + minutes (1 + s.held.run) ≤ at) (λ t. t ≤ at) (λ t l. omega arith) s.nights.starts nights.few.begun;
      dates = nights.dates;
      few = few;
      few_nights = nights.few;
    }

pub state_test : (s : HvnlState) (at : ℕ) → IsHvnlState s at → is_hvnl_state s at ≡ true
state_test s at i =
    let A = is_held s.held in
    let B = nat_le s.held.run AU_7D_REST in
    let C = is_few_held s.held in
    let D = are_few_nights s.nights s.held.run at in
    let r = i.run in
    and_from A (B && (C && D)) (held_test s.held i.held)
    (and_from B (C && D) (grind (arith, nat_tests))
    (and_from C D (few_held_test s.held i.few) (nights_test s.nights s.held.run at (record { few = i.few_nights; dates = i.dates }))))

-- # Read back

limits_again : (ps : List Limit) (rest : List ℕ) → limits_in (length ps) (limit_numbers ps ++ rest) ≡ ps
limits_again [] rest = refl
limits_again (p ∷ ps) rest = ap (λ qs. p ∷ qs) (limits_again ps rest)

needs_again : (ns : List Need) (rest : List ℕ) → needs_in (length ns) (need_numbers ns ++ rest) ≡ ns
needs_again [] rest = refl
needs_again (n ∷ ns) rest = ap (λ ms. n ∷ ms) (needs_again ns rest)

past_limits : (ps : List Limit) (rest : List ℕ) → drop (2 * length ps) (limit_numbers ps ++ rest) ≡ rest
past_limits [] rest = refl
past_limits (p ∷ ps) rest = let e : 2 * suc (length ps) ≡ suc (suc (2 * length ps)) = omega arith in ap (λ k. drop k (limit_numbers (p ∷ ps) ++ rest)) e ∙ past_limits ps rest

past_needs : (ns : List Need) (rest : List ℕ) → drop (2 * length ns) (need_numbers ns ++ rest) ≡ rest
past_needs [] rest = refl
past_needs (n ∷ ns) rest = let e : 2 * suc (length ns) ≡ suc (suc (2 * length ns)) = omega arith in ap (λ k. drop k (need_numbers (n ∷ ns) ++ rest)) e ∙ past_needs ns rest

past_starts : (f : ℕ → ℕ) (ts : List ℕ) (rest : List ℕ) → drop (length ts) (map f ts ++ rest) ≡ rest
past_starts f [] rest = refl
past_starts f (t ∷ ts) rest = past_starts f ts rest

first_starts : (f : ℕ → ℕ) (ts : List ℕ) (rest : List ℕ) → take (length ts) (map f ts ++ rest) ≡ map f ts
first_starts f [] rest = refl
first_starts f (t ∷ ts) rest = ap (λ us. f t ∷ us) (first_starts f ts rest)

back_again : (now : ℕ) (ts : List ℕ) → All (λ t. t ≤ now) ts → map (λ n. now - n) (map (λ t. now - t) ts) ≡ ts
back_again now [] a = refl
back_again now (t ∷ ts) a =
    let l = All-head (λ t. t ≤ now) t ts a in
    let e : now - (now - t) ≡ t = omega arith in
    ap (λ n. n ∷ map (λ n. now - n) (map (λ t. now - t) ts)) e ∙ ap (λ us. t ∷ us) (back_again now ts (All-tail (λ t. t ≤ now) t ts a))

limits_long : (ps : List Limit) → length (limit_numbers ps) ≡ 2 * length ps
limits_long [] = refl
limits_long (p ∷ ps) = let i = limits_long ps in omega arith

needs_long : (ns : List Need) → length (need_numbers ns) ≡ 2 * length ns
needs_long [] = refl
needs_long (n ∷ ns) = let i = needs_long ns in omega arith

abbrev held_made : List Limit → List Need → ℕ → Held
held_made ps ns run = record { limits = ps; needs = ns; run = run }

abbrev nights_made : List ℕ → List ℕ → Nights
nights_made ts ds = record { starts = ts; dates = ds }

abbrev state_made : Held → Nights → HvnlState
state_made h n = record { held = h; nights = n }

module _ (s : HvnlState) (at : ℕ) where
  abbrev ago : List ℕ
  ago = map (λ t. at - t) s.nights.starts

  abbrev days_ago : List ℕ
  days_ago = map (λ d. today at - d) s.nights.dates

  needs_after : needs_part (hvnl_numbers s at) ≡ need_numbers s.held.needs ++ (ago ++ days_ago)
  needs_after = past_limits s.held.limits (need_numbers s.held.needs ++ (ago ++ days_ago))

  starts_after : starts_part (hvnl_numbers s at) ≡ ago ++ days_ago
  starts_after = ap (drop (2 * length s.held.needs)) needs_after ∙ past_needs s.held.needs (ago ++ days_ago)

  dates_after : dates_part (hvnl_numbers s at) ≡ days_ago
  dates_after = ap (drop (length s.nights.starts)) starts_after ∙ past_starts (λ t. at - t) s.nights.starts days_ago

  held_again : held_by (hvnl_numbers s at) ≡ s.held
  held_again =
      let made = λ (ps : List Limit) (ns : List Need). held_made ps ns s.held.run in
      ap (λ ps. made ps (needs_in (length s.held.needs) (needs_part (hvnl_numbers s at)))) (limits_again s.held.limits (need_numbers s.held.needs ++ (ago ++ days_ago)))
      ∙ ap (λ ns. made s.held.limits ns) (ap (needs_in (length s.held.needs)) needs_after ∙ needs_again s.held.needs (ago ++ days_ago))

  nights_again : All (λ t. t ≤ at) s.nights.starts → All (λ d. d ≤ today at) s.nights.dates → nights_by (hvnl_numbers s at) at ≡ s.nights
  nights_again a b =
      let made = λ (ts ds : List ℕ). nights_made ts ds in
      ap (λ ts. made ts (map (λ n. today at - n) (dates_part (hvnl_numbers s at))))
      (ap (λ ns. map (λ n. at - n) (take (length s.nights.starts) ns)) starts_after ∙ (ap (map (λ n. at - n)) (first_starts (λ t. at - t) s.nights.starts days_ago) ∙ back_again at s.nights.starts a))
      ∙ ap (λ ds. made s.nights.starts ds) (ap (map (λ n. today at - n)) dates_after ∙ back_again (today at) s.nights.dates b)

  state_again : IsHvnlState s at → state_by (hvnl_numbers s at) at ≡ s
  state_again i =
      let made = λ (h : Held) (n : Nights). state_made h n in
      ap (λ h. made h (nights_by (hvnl_numbers s at) at)) held_again
      ∙ ap (λ n. made s.held n) (nights_again i.starts (All-weaker (λ d. DAY_MINUTES * d ≤ at) (λ d. d ≤ today at) (λ d l. omega arith) s.nights.dates i.dates))

  numbers_long : length (hvnl_numbers s at) ≡ 4 + 2 * length s.held.limits + 2 * length s.held.needs + length s.nights.starts + length s.nights.dates
  numbers_long =
      let a = length-append (limit_numbers s.held.limits) (need_numbers s.held.needs ++ (ago ++ days_ago)) in
      let b = length-append (need_numbers s.held.needs) (ago ++ days_ago) in
      let c = length-append ago days_ago in
      let d = limits_long s.held.limits in
      let e = needs_long s.held.needs in
      let f = length-map s.nights.starts (λ t. at - t) in
      let g = length-map s.nights.dates (λ d. today at - d) in
      omega arith

  all_there : fits (hvnl_numbers s at) ≡ true
  all_there = let l = numbers_long in grind (arith, nat_tests)

when_read : (b : Bool) (s t : HvnlState) → cond b (Some s) None ≡ Some t → (b ≡ true) × (s ≡ t)
when_read true s t e = (refl, let z : s ≡ t = cc in z)
when_read false s t e = absurd (let z : None ≡ Some t = e in cc)

pub hvnl_numbers_read : (s : HvnlState) (at : ℕ) → IsHvnlState s at → hvnl_state_of (hvnl_numbers s at) at ≡ Some s
hvnl_numbers_read s at i =
    let ns = hvnl_numbers s at in
    let again = state_again s at i in
    let same : (is_hvnl_state (state_by ns at) at && bytes_eq (hvnl_numbers (state_by ns at) at) ns) ≡ true =
    subst (λ t. (is_hvnl_state t at && bytes_eq (hvnl_numbers t at) ns) ≡ true) (sym again) (and_from (is_hvnl_state s at) (bytes_eq ns ns) (state_test s at i) ((bytes_eq-Decides ns ns).1 refl)) in
    ap (λ b. cond b (Some (state_by ns at)) None) (and_from (fits ns) (is_hvnl_state (state_by ns at) at && bytes_eq (hvnl_numbers (state_by ns at) at) ns) (all_there s at) same) ∙ ap (λ t. Some t) again

pub hvnl_numbers_told : (ns : List ℕ) (s : HvnlState) (at : ℕ) → hvnl_state_of ns at ≡ Some s → IsHvnlState s at × (hvnl_numbers s at ≡ ns)
hvnl_numbers_told ns s at e =
    let S = is_hvnl_state (state_by ns at) at in
    let E = bytes_eq (hvnl_numbers (state_by ns at) at) ns in
    let r = when_read (fits ns && (S && E)) (state_by ns at) s e in
    let c = and_parts S E ((and_parts (fits ns) (S && E) r.0).1) in
    (subst (λ t. IsHvnlState t at) r.1 (state_from (state_by ns at) at c.0), subst (λ t. hvnl_numbers t at ≡ ns) r.1 ((bytes_eq-Decides (hvnl_numbers (state_by ns at) at) ns).0 c.1))

-- # Few

all_wide : (ps : List Limit) → All IsOpenLimit ps → length ps ≡ wide 0 ps
all_wide [] a = refl
all_wide (p ∷ ps) a =
    let o = All-head IsOpenLimit p ps a in
    let q : nat_lt 0 (slack p) ≡ true = (let l : 0 < slack p = omega arith in grind (arith, nat_tests)) in
    let c = one_count (λ p. nat_lt 0 (slack p)) p ps in
    let d : cond {A = ℕ} (nat_lt 0 (slack p)) 1 0 ≡ 1 = ap (λ b. cond {A = ℕ} b 1 0) q in
    let i = all_wide ps (All-tail IsOpenLimit p ps a) in
    omega arith

two_kinds : (ns : List Need) → All (λ n. is_kind n ≡ true) ns → length ns ≤ asking AU_24H_REST ns + asking AU_7D_REST ns
two_kinds [] a = omega arith
two_kinds (n ∷ ns) a =
    let i = two_kinds ns (All-tail (λ n. is_kind n ≡ true) n ns a) in
    let c = one_count (λ n. nat_eq n.rest AU_24H_REST) n ns in
    let d = one_count (λ n. nat_eq n.rest AU_7D_REST) n ns in
    elim (kind_cases n (All-head (λ n. is_kind n ≡ true) n ns a)) [
      | inl k ↦ (let r = k.0 in let q : nat_eq n.rest AU_24H_REST ≡ true = grind (arith, nat_tests) in let e : cond {A = ℕ} (nat_eq n.rest AU_24H_REST) 1 0 ≡ 1 = ap (λ b. cond {A = ℕ} b 1 0) q in omega arith)
      | inr k ↦ (let r = k.0 in let q : nat_eq n.rest AU_7D_REST ≡ true = grind (arith, nat_tests) in let e : cond {A = ℕ} (nat_eq n.rest AU_7D_REST) 1 0 ≡ 1 = ap (λ b. cond {A = ℕ} b 1 0) q in omega arith)
    ]

few_starts : (n : Nights) (run at : ℕ) → AreFewNights n run at → length n.starts ≤ 47
few_starts n run at f =
    let low : ℕ = at + 1 - minutes AU_14D_PERIOD in
    let lows : All (λ t. low ≤ t) n.starts = All-weaker (λ t. is_running at t ≡ true) (λ t. low ≤ t) (λ t e. (let l : at < t + minutes AU_14D_PERIOD = grind (arith, nat_tests) in omega arith)) n.starts f.unfinished in
    let tops : All (λ t. t ≤ at - 15) n.starts = All-weaker (λ t. t + minutes (1 + run) ≤ at) (λ t. t ≤ at - 15) (λ t l. omega arith) n.starts f.begun in
    elim (few_spaced start_distance low (at - 15) n.starts tops (raise_spaced start_distance 0 low n.starts lows f.spaced)) [ inl e ↦ omega arith | inr e ↦ omega arith ]

few_dates : (n : Nights) (run at : ℕ) → AreFewNights n run at → All (λ d. DAY_MINUTES * d ≤ at) n.dates → length n.dates ≤ 14
few_dates n run at f a =
    let low : ℕ = today at - 13 in
    let lows : All (λ d. low ≤ d) n.dates = All-weaker (λ d. is_recent at d ≡ true) (λ d. low ≤ d) (λ d e. (let l : at < DAY_MINUTES * d + minutes AU_14D_PERIOD = grind (arith, nat_tests) in omega arith)) n.dates f.recent in
    let tops : All (λ d. d ≤ today at) n.dates = All-weaker (λ d. DAY_MINUTES * d ≤ at) (λ d. d ≤ today at) (λ d l. omega arith) n.dates a in
    elim (few_spaced 1 low (today at) n.dates tops (raise_spaced 1 0 low n.dates lows f.ordered)) [ inl e ↦ omega arith | inr e ↦ omega arith ]

small_limits : (ps : List Limit) → All (λ p. p.units ≤ AU_14D_PERIOD) ps → All IsOpenLimit ps → All (λ n. n < NUMBER_LIMIT) (limit_numbers ps)
small_limits [] a b = All-nil (λ n. n < NUMBER_LIMIT)
small_limits (p ∷ ps) a b =
    let u = All-head (λ p. p.units ≤ AU_14D_PERIOD) p ps a in
    let o = All-head IsOpenLimit p ps b in
    All-cons (λ n. n < NUMBER_LIMIT) p.units (p.duty ∷ limit_numbers ps) (omega arith)
    (All-cons (λ n. n < NUMBER_LIMIT) p.duty (limit_numbers ps) (omega arith) (small_limits ps (All-tail (λ p. p.units ≤ AU_14D_PERIOD) p ps a) (All-tail IsOpenLimit p ps b)))

small_needs : (ns : List Need) → All (λ n. is_kind n ≡ true) ns → All (λ n. n < NUMBER_LIMIT) (need_numbers ns)
small_needs [] a = All-nil (λ n. n < NUMBER_LIMIT)
small_needs (m ∷ ns) a =
    let k = kind_cases m (All-head (λ n. is_kind n ≡ true) m ns a) in
    let u : m.units < NUMBER_LIMIT = elim k [ inl q ↦ (let y = q.1 in omega arith) | inr q ↦ (let y = q.1 in omega arith) ] in
    let r : m.rest < NUMBER_LIMIT = elim k [ inl q ↦ (let y = q.0 in omega arith) | inr q ↦ (let y = q.0 in omega arith) ] in
    All-cons (λ n. n < NUMBER_LIMIT) m.units (m.rest ∷ need_numbers ns) u (All-cons (λ n. n < NUMBER_LIMIT) m.rest (need_numbers ns) r (small_needs ns (All-tail (λ n. is_kind n ≡ true) m ns a)))

pub hvnl_numbers_few : (s : HvnlState) (at : ℕ) → IsHvnlState s at → (length (hvnl_numbers s at) ≤ MOST_NUMBERS) × All (λ n. n < NUMBER_LIMIT) (hvnl_numbers s at)
hvnl_numbers_few s at i =
    let P = λ (n : ℕ). n < NUMBER_LIMIT in
    let nl = all_wide s.held.limits i.held.limits in
    let most = i.few.limits 0 in
    let top = most_less 0 (0 + min s.held.run AU_LONG_START) (omega arith) in
    let limits : length s.held.limits ≤ 96 = omega arith in
    let nn = two_kinds s.held.needs i.few.kinds in
    let d = i.few.day_needs in
    let w = i.few.week_needs in
    let ts = few_starts s.nights s.held.run at i.few_nights in
    let ds = few_dates s.nights s.held.run at i.few_nights i.dates in
    let long = numbers_long s at in
    let run = i.run in
    let starts : All (λ n. n < NUMBER_LIMIT) (map (λ t. at - t) s.nights.starts) = All-map (λ n. n < NUMBER_LIMIT) (λ t. at - t) s.nights.starts (All-weaker (λ t. is_running at t ≡ true) (λ t. at - t < NUMBER_LIMIT) (λ t e. (let l : at < t + minutes AU_14D_PERIOD = grind (arith, nat_tests) in omega arith)) s.nights.starts i.few_nights.unfinished) in
    let dates : All (λ n. n < NUMBER_LIMIT) (map (λ d. today at - d) s.nights.dates) = All-map (λ n. n < NUMBER_LIMIT) (λ d. today at - d) s.nights.dates (All-weaker (λ d. is_recent at d ≡ true) (λ d. today at - d < NUMBER_LIMIT) (λ d e. (let l : at < DAY_MINUTES * d + minutes AU_14D_PERIOD = grind (arith, nat_tests) in omega arith)) s.nights.dates i.few_nights.recent) in
    let a = limit_numbers s.held.limits in
    let b = need_numbers s.held.needs in
    let tail = All-append P a (b ++ (ago s at ++ days_ago s at)) (small_limits s.held.limits i.few.tops i.held.limits)
    (All-append P b (ago s at ++ days_ago s at) (small_needs s.held.needs i.few.kinds) (All-append P (ago s at) (days_ago s at) starts dates)) in
    let r0 : List ℕ = a ++ (b ++ (ago s at ++ days_ago s at)) in (
      omega arith,
      All-cons P (length s.held.limits) (length s.held.needs ∷ length s.nights.starts ∷ s.held.run ∷ r0) (omega arith)
          (All-cons P (length s.held.needs) (length s.nights.starts ∷ s.held.run ∷ r0) (omega arith)
          (All-cons P (length s.nights.starts) (s.held.run ∷ r0) (omega arith)
          (All-cons P s.held.run r0 (omega arith) tail))),
    )

-- # Written

limits_last : (ps : List Limit) (p : Limit) → limit_numbers (ps ++ p ∷ []) ≡ limit_numbers ps ++ p.units ∷ p.duty ∷ []
limits_last [] p = refl
limits_last (q ∷ ps) p = ap (λ ns. q.units ∷ q.duty ∷ ns) (limits_last ps p)

needs_last : (ns : List Need) (n : Need) → need_numbers (ns ++ n ∷ []) ≡ need_numbers ns ++ n.units ∷ n.rest ∷ []
needs_last [] n = refl
needs_last (m ∷ ns) n = ap (λ ks. m.units ∷ m.rest ∷ ks) (needs_last ns n)

limits_more : (ps : List Limit) (i : ℕ) (p : Limit) → i < length ps → limit_numbers (take (i + 1) ps) ≡ limit_numbers (take i ps) ++ (get_or ps i p).units ∷ (get_or ps i p).duty ∷ []
limits_more ps i p l = ap limit_numbers (take_more ps i p l) ∙ limits_last (take i ps) (get_or ps i p)

needs_more : (ns : List Need) (i : ℕ) (n : Need) → i < length ns → need_numbers (take (i + 1) ns) ≡ need_numbers (take i ns) ++ (get_or ns i n).units ∷ (get_or ns i n).rest ∷ []
needs_more ns i n l = ap need_numbers (take_more ns i n l) ∙ needs_last (take i ns) (get_or ns i n)

pub limits_pushed : (ps : List Limit) (i : ℕ) (before out new : List ℕ) (p d : Limit) → i < length ps → p ≡ get_or ps i d → out ≡ before ++ limit_numbers (take i ps) → new ≡ out ++ p.units ∷ p.duty ∷ [] → new ≡ before ++ limit_numbers (take (i + 1) ps)
limits_pushed ps i before out new p d l e o n =
    n ∙ (ap (λ (ns : List ℕ). ns ++ p.units ∷ p.duty ∷ []) o
    ∙ (append_assoc before (limit_numbers (take i ps)) (p.units ∷ p.duty ∷ [])
    ∙ (ap (λ (r : Limit). before ++ (limit_numbers (take i ps) ++ r.units ∷ r.duty ∷ [])) e
    ∙ ap (λ (ns : List ℕ). before ++ ns) (sym (limits_more ps i d l)))))

pub needs_pushed : (ps : List Need) (i : ℕ) (before out new : List ℕ) (p d : Need) → i < length ps → p ≡ get_or ps i d → out ≡ before ++ need_numbers (take i ps) → new ≡ out ++ p.units ∷ p.rest ∷ [] → new ≡ before ++ need_numbers (take (i + 1) ps)
needs_pushed ps i before out new p d l e o n =
    n ∙ (ap (λ (ns : List ℕ). ns ++ p.units ∷ p.rest ∷ []) o
    ∙ (append_assoc before (need_numbers (take i ps)) (p.units ∷ p.rest ∷ [])
    ∙ (ap (λ (r : Need). before ++ (need_numbers (take i ps) ++ r.units ∷ r.rest ∷ [])) e
    ∙ ap (λ (ns : List ℕ). before ++ ns) (sym (needs_more ps i d l)))))

-- # Read

limit_next : (ns : List ℕ) (n a b : ℕ) → 2 * n + 1 < length ns → a ≡ item ns (2 * n) → b ≡ item ns (2 * n + 1) → limits_in (n + 1) ns ≡ limits_in n ns ++ at_most a b ∷ []
limit_next [] n a b l e f = absurd (omega arith)
limit_next (x ∷ []) n a b l e f = absurd (omega arith)
limit_next (x ∷ y ∷ ns) zero a b l e f = ap (λ (c : ℕ). at_most c y ∷ []) (sym e) ∙ ap (λ (d : ℕ). at_most a d ∷ []) (sym f)
limit_next (x ∷ y ∷ ns) (suc n) a b l e f =
    let g : 2 * suc n ≡ suc (suc (2 * n)) = omega arith in
    let h : 2 * suc n + 1 ≡ suc (suc (2 * n + 1)) = omega arith in
    let k : suc n + 1 ≡ suc (n + 1) = omega arith in
    ap (λ (j : ℕ). limits_in j (x ∷ y ∷ ns)) k ∙ ap (λ (ps : List Limit). at_most x y ∷ ps) (limit_next ns n a b (omega arith) (e ∙ ap (item (x ∷ y ∷ ns)) g) (f ∙ ap (item (x ∷ y ∷ ns)) h))

need_next : (ns : List ℕ) (n a b : ℕ) → 2 * n + 1 < length ns → a ≡ item ns (2 * n) → b ≡ item ns (2 * n + 1) → needs_in (n + 1) ns ≡ needs_in n ns ++ at_least a b ∷ []
need_next [] n a b l e f = absurd (omega arith)
need_next (x ∷ []) n a b l e f = absurd (omega arith)
need_next (x ∷ y ∷ ns) zero a b l e f = ap (λ (c : ℕ). at_least c y ∷ []) (sym e) ∙ ap (λ (d : ℕ). at_least a d ∷ []) (sym f)
need_next (x ∷ y ∷ ns) (suc n) a b l e f =
    let g : 2 * suc n ≡ suc (suc (2 * n)) = omega arith in
    let h : 2 * suc n + 1 ≡ suc (suc (2 * n + 1)) = omega arith in
    let k : suc n + 1 ≡ suc (n + 1) = omega arith in
    ap (λ (j : ℕ). needs_in j (x ∷ y ∷ ns)) k ∙ ap (λ (ps : List Need). at_least x y ∷ ps) (need_next ns n a b (omega arith) (e ∙ ap (item (x ∷ y ∷ ns)) g) (f ∙ ap (item (x ∷ y ∷ ns)) h))

pub limits_read : (ns : List ℕ) (n a b : ℕ) (old new : List Limit) → 2 * n + 1 < length ns → a ≡ item ns (2 * n) → b ≡ item ns (2 * n + 1) → old ≡ limits_in n ns → new ≡ old ++ at_most a b ∷ [] → new ≡ limits_in (n + 1) ns
limits_read ns n a b old new l e f o w = w ∙ (ap (λ (ps : List Limit). ps ++ at_most a b ∷ []) o ∙ sym (limit_next ns n a b l e f))

pub needs_read : (ns : List ℕ) (n a b : ℕ) (old new : List Need) → 2 * n + 1 < length ns → a ≡ item ns (2 * n) → b ≡ item ns (2 * n + 1) → old ≡ needs_in n ns → new ≡ old ++ at_least a b ∷ [] → new ≡ needs_in (n + 1) ns
needs_read ns n a b old new l e f o w = w ∙ (ap (λ (ps : List Need). ps ++ at_least a b ∷ []) o ∙ sym (need_next ns n a b l e f))

-- what the numbers tell is the state just where they are its own
pub told_means : (ns : List ℕ) (at : ℕ) (s : HvnlState) (told : Bool) → fits ns ≡ true → Some s ≡ cond (is_held (held_by ns)) (Some (state_by ns at)) None → told ≡ (is_hvnl_state s at && bytes_eq (hvnl_numbers s at) ns) → hvnl_state_of ns at ≡ cond told (Some s) None
told_means ns at s told f r t =
    let q = (when_read (is_held (held_by ns)) (state_by ns at) s (sym r)).1 in
    ap (λ (b : Bool). cond (b && (is_hvnl_state (state_by ns at) at && bytes_eq (hvnl_numbers (state_by ns at) at) ns)) (Some (state_by ns at)) None) f
    ∙ (ap (λ (u : HvnlState). cond (is_hvnl_state u at && bytes_eq (hvnl_numbers u at) ns) (Some u) None) q
    ∙ ap (λ (b : Bool). cond b (Some s) None) (sym t))

-- one number of those that are left to look at
pub spaced_next : (apart low : ℕ) (xs : List ℕ) (i x d : ℕ) → i < length xs → x ≡ get_or xs i d → is_spaced apart low (drop i xs) ≡ (nat_le low x && is_spaced apart (x + apart) (drop (i + 1) xs))
spaced_next apart low [] i x d l e = absurd (omega arith)
spaced_next apart low (y ∷ xs) zero x d l e = ap (λ (z : ℕ). nat_le low z && is_spaced apart (z + apart) xs) (sym e)
spaced_next apart low (y ∷ xs) (suc i) x d l e =
    let g : suc i + 1 ≡ suc (i + 1) = omega arith in
    spaced_next apart low xs i x d (omega arith) e ∙ ap (λ (k : ℕ). nat_le low x && is_spaced apart (x + apart) (drop k (y ∷ xs))) (sym g)
