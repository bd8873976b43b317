-- Many units of one day at once. The counts only grow while a driver is on duty, so the last unit decides whether a rule forbids one of them.
use Rattle.std.proofs.Common.{◌≡◌, ℕ, ◌+◌, ◌-◌, ◌%◌, ◌<◌, ◌≤◌, Bool, true, false, cond, List, [], ◌∷◌, ◌++◌, refl, sym, ◌∙◌, ap, subst, arith, append-nil, ◌⊎◌, inl, inr, zero, suc, min}
use Rattle.std.specs.Prelude.{Option, None, Some, map, flat_map, sum, nat_eq, nat_lt, nat_le, ◌&&◌, if◌then◌else◌}
use Rattle.std.proofs.lemmas.Bool.{and_parts, and_from, cases_lt, cases_Bool}
use Rattle.std.proofs.lemmas.Bool.Decides.{nat_tests}
use Rattle.std.proofs.lemmas.List.Sums.{sum_by-cons}
use Rattle.std.proofs.lemmas.List.Concat.{flat_map-append}
use Rattle.duty_core.specs.declared.activity.Activity.{Activity}
use Rattle.duty_core.specs.declared.activity.Activity.TheVariants.{Drive, Serve, Wait, Off, Berth}
use Rattle.duty_core.specs.declared.mark.Mark.{Mark}
use Rattle.duty_core.specs.declared.mark.Mark.TheVariants.{SplitRest}
use Rattle.duty_core.specs.declared.limits.TheConstants.{DAY_MINUTES, COUNT_LIMIT, US_BREAK, US_UNBROKEN_LIMIT, US_RESTART, US_WINDOW_LIMIT, US_DRIVING_LIMIT}
use Rattle.duty_core.specs.Activity.{rests, drives}
use Rattle.duty_core.specs.UsRules.{us_week_limit}
use Rattle.day_sums.specs.Sums.{added, cleared}
use Rattle.day_sums.specs.Laws.SumLaws.{cleared_twice}
use Rattle.day_sums.specs.Counted.{turned, after_rest}
use Rattle.rule_core.specs.declared.nexts.Next.{Next}
use Rattle.rule_core.specs.declared.nexts.Nexts.{Nexts}
use Rattle.rule_core.specs.Reach.{nexts_made, listed, IsOneOf}
use Rattle.rule_core.specs.Laws.OneOf.{one_of-flat_map}
use Rattle.sleeper_split.specs.declared.rule.TheConstants.SplitRule.{US}
use Rattle.sleeper_split.specs.declared.count.SplitCount.{SplitCount}
use Rattle.sleeper_split.specs.Machine.{after_rest as rested_more, after_duty, end_undeclared, end_split, end_full, run_of}
use Rattle.sleeper_split.specs.Runs.{repeated}
use Rattle.sleeper_split.specs.Laws.Runs.{works_at_once}
use Rattle.sleeper_split.specs.Choices.{Choice, choice, choices, sleeps, at_duty, run_choices}
use Rattle.sleeper_split.specs.declared.ends.Ends.{Ends}
use Rattle.us_rules.specs.declared.state.BreakCount.{BreakCount}
use Rattle.us_rules.specs.declared.state.WeekCount.{WeekCount}
use Rattle.us_rules.specs.declared.state.UsState.{UsState}
use Rattle.us_rules.specs.Machine.{us_fits, break_made, paused, break_after, break_ok, week_made, begins_day, week_rested, week_after, week_ok, us_made, IsUsState, us_next, us_nexts, first_of, goes_on, marked_next, us_advances}
use Rattle.us_rules.specs.Laws.BreakGuard.{paused_cases}
use Rattle.us_rules.specs.Laws.States.{first_in, first_is_us_state, next_is_us_state}
use Rattle.us_rules.specs.Advance.{IsSteady}
use Rattle.us_rules.specs.Laws.Advance.{steady_nexts, next_steady, marked_means}
use Rattle.sleeper_split.specs.Ends.{ends_made, duty_after, ends_of}
use Rattle.us_rules.specs.Laws.Ends.{nexts_by, nexts_of_ends, nexts_of_none, advances_are}
use Rattle.us_rules.specs.Ends.{next_with, with_mark, onward}
use Rattle.us_rules.specs.Spans.{left_of_day, paused_span, break_span, break_span_ok, week_span, duty_span, ends_span}

abbrev pub week_span_ok : ℕ → ℕ → WeekCount → ℕ → Activity → ℕ → Bool
week_span_ok days day_start c at x n = cond (drives x) (nat_le (sum (week_span day_start c at x n).sums) (us_week_limit days)) true

-- # Unit by unit

abbrev count_more : Activity → SplitCount → SplitCount
count_more x s = cond (rests x) (rested_more (sleeps x) s) (after_duty (drives x) s)

abbrev week_more : Activity → WeekCount → WeekCount
week_more x c = cond (rests x) (week_rested c.rest c.sums) (week_made 0 (added 1 c.sums))

-- the state after one more unit of the same day, where no choice is left, and whether the rules allow that unit
abbrev unit_more : Activity → UsState → UsState
unit_more x s = us_made (count_more x s.split) (break_after s.rest_break 0 x) (week_more x s.week)

abbrev allows_unit : ℕ → Activity → UsState → Bool
allows_unit days x s = cond (drives x) (nat_lt s.rest_break.driven US_UNBROKEN_LIMIT && (nat_le (sum (added 1 s.week.sums)) (us_week_limit days) && us_fits (after_duty true s.split))) true

units_more : Activity → ℕ → UsState → UsState
units_more x zero s = s
units_more x (suc n) s = units_more x n (unit_more x s)

allows_units : ℕ → Activity → ℕ → UsState → Bool
allows_units days x zero s = true
allows_units days x (suc n) s = allows_unit days x s && allows_units days x n (unit_more x s)

-- no day begins in so many units
abbrev pub IsOneDay : ℕ → ℕ → ℕ → Type 0
IsOneDay day_start at n = (k : ℕ) → k < n → begins_day day_start (at + k) ≡ false

first_if : (a b c : Bool) (f : Choice → Next UsState) (k : Choice) → first_of (if a && b then map f (cond c (k ∷ []) []) else []) ≡ cond (a && (b && c)) (Some (f k).state) None
first_if true true true f k = refl
first_if true true false f k = refl
first_if true false c f k = refl
first_if false b c f k = refl

no_run_test : (n : ℕ) → n ≡ 0 → nat_eq n 0 ≡ true
no_run_test n e = grind (arith, nat_tests)

-- in duty, where no run is in progress
duty_first : (berth : Bool) (days day_start : ℕ) (s : UsState) (at : ℕ) (x : Activity) → rests x ≡ false → run_of s.split ≡ 0 → begins_day day_start at ≡ false →
    first_of (us_nexts berth days day_start s at x)
    ≡ cond (break_ok s.rest_break at x && (week_ok days day_start s.week at x && cond (drives x) (us_fits (after_duty (drives x) s.split)) true))
    (Some (us_made (after_duty (drives x) s.split) (break_after s.rest_break at x) (week_after day_start s.week at x))) None
duty_first berth days day_start s at x r z e =
    let f = us_next (break_after s.rest_break at x) (week_after day_start s.week at x) (at - run_of s.split) in
    let q : choices US berth us_fits s.split x ≡ at_duty us_fits x false s.split =
    ap (λ b. cond b (choice (rested_more (sleeps x) s.split) false ∷ []) (cond (nat_eq (run_of s.split) 0) (at_duty us_fits x false s.split) (run_choices US berth us_fits s.split x))) r
    ∙ ap (λ b. cond b (at_duty us_fits x false s.split) (run_choices US berth us_fits s.split x)) (no_run_test (run_of s.split) z) in
    ap (λ l. first_of (if break_ok s.rest_break at x && week_ok days day_start s.week at x then map f l else [])) q
    ∙ first_if (break_ok s.rest_break at x) (week_ok days day_start s.week at x) (cond (drives x) (us_fits (after_duty (drives x) s.split)) true) f (choice (after_duty (drives x) s.split) false)

steady_first : (berth : Bool) (days day_start : ℕ) (s : UsState) (at : ℕ) (x : Activity) → IsSteady s x → begins_day day_start at ≡ false →
    first_of (us_nexts berth days day_start s at x) ≡ cond (allows_unit days x s) (Some (unit_more x s)) None
steady_first berth days day_start s at Drive h e = elim h [
  | inl r ↦ absurd (let z : false ≡ true = r in cc)
  | inr d ↦
      duty_first berth days day_start s at Drive d.0 d.1 e
      ∙ ap (λ b. cond (nat_lt s.rest_break.driven US_UNBROKEN_LIMIT && (nat_le (sum (added 1 (turned b s.week.sums))) (us_week_limit days) && us_fits (after_duty true s.split)))
      (Some (us_made (after_duty true s.split) (break_after s.rest_break 0 Drive) (week_made 0 (added 1 (turned b s.week.sums))))) None) e
]
steady_first berth days day_start s at Serve h e = elim h [
  | inl r ↦ absurd (let z : false ≡ true = r in cc)
  | inr d ↦
      duty_first berth days day_start s at Serve d.0 d.1 e
      ∙ ap (λ b. Some (us_made (after_duty false s.split) (paused s.rest_break) (week_made 0 (added 1 (turned b s.week.sums))))) e
]
steady_first berth days day_start s at Wait h e = elim h [
  | inl r ↦ absurd (let z : false ≡ true = r in cc)
  | inr d ↦
      duty_first berth days day_start s at Wait d.0 d.1 e
      ∙ ap (λ b. Some (us_made (after_duty false s.split) (paused s.rest_break) (week_made 0 (added 1 (turned b s.week.sums))))) e
]
steady_first berth days day_start s at Off h e = ap (λ b. Some (us_made (rested_more false s.split) (paused s.rest_break) (week_rested s.week.rest (turned b s.week.sums)))) e
steady_first berth days day_start s at Berth h e = ap (λ b. Some (us_made (rested_more true s.split) (paused s.rest_break) (week_rested s.week.rest (turned b s.week.sums)))) e

steady_more : (x : Activity) (s : UsState) → IsSteady (unit_more x s) x
steady_more Drive s = inr (refl, refl)
steady_more Serve s = inr (refl, refl)
steady_more Wait s = inr (refl, refl)
steady_more Off s = inl refl
steady_more Berth s = inl refl

one_day_on : (day_start at n : ℕ) → IsOneDay day_start at (suc n) → IsOneDay day_start (at + 1) n
one_day_on day_start at n h = λ k l. subst (λ m. begins_day day_start m ≡ false) (let e : at + (k + 1) ≡ at + 1 + k = omega arith in e) (h (k + 1) (omega arith))

steady_units : (berth : Bool) (days day_start n : ℕ) (s : UsState) (at : ℕ) (x : Activity) → IsSteady s x → IsOneDay day_start at n →
    goes_on berth days day_start (Some s) at x n ≡ cond (allows_units days x n s) (Some (units_more x n s)) None
unfolding units_more allows_units
steady_units berth days day_start zero s at x h d = refl
steady_units berth days day_start (suc n) s at x h d =
    let e : begins_day day_start at ≡ false = subst (λ m. begins_day day_start m ≡ false) (let z : at + 0 ≡ at = omega arith in z) (d 0 (omega arith)) in
    ap (λ o. goes_on berth days day_start o (at + 1) x n) (steady_first berth days day_start s at x h e)
    ∙ elim (cases_Bool (allows_unit days x s)) [
      | inl y ↦
          ap (λ b. goes_on berth days day_start (cond b (Some (unit_more x s)) None) (at + 1) x n) y
          ∙ (steady_units berth days day_start n (unit_more x s) (at + 1) x (steady_more x s) (one_day_on day_start at n d)
          ∙ ap (λ b. cond (b && allows_units days x n (unit_more x s)) (Some (units_more x n (unit_more x s))) None) (sym y))
      | inr y ↦
          ap (λ b. goes_on berth days day_start (cond b (Some (unit_more x s)) None) (at + 1) x n) y
          ∙ ap (λ b. cond (b && allows_units days x n (unit_more x s)) (Some (units_more x n (unit_more x s))) None) (sym y)
    ]

-- # The counts at once are those unit by unit

break_times : Activity → ℕ → BreakCount → BreakCount
break_times x zero c = c
break_times x (suc n) c = break_times x n (break_after c 0 x)

week_times : Activity → ℕ → WeekCount → WeekCount
week_times x zero c = c
week_times x (suc n) c = week_times x n (week_more x c)

units_are : (x : Activity) (n : ℕ) (p : SplitCount) (c : BreakCount) (w : WeekCount) → units_more x n (us_made p c w) ≡ us_made (repeated (count_more x) n p) (break_times x n c) (week_times x n w)
unfolding units_more break_times week_times
units_are x zero p c w = refl
units_are x (suc n) p c w = units_are x n (count_more x p) (break_after c 0 x) (week_more x w)

span_cases : (n : ℕ) (c : BreakCount) → ((c.still + n < US_BREAK) × (paused_span n c ≡ break_made (c.still + n) c.driven)) ⊎ ((US_BREAK ≤ c.still + n) × (paused_span n c ≡ break_made US_BREAK 0))
span_cases n c = elim (cases_lt (c.still + n) US_BREAK) [ inl l ↦ inl (l, grind (arith, nat_tests)) | inr l ↦ inr (l, grind (arith, nat_tests)) ]

-- a state of the break that is as good as a break stays so
span_over : (n : ℕ) (c : BreakCount) → US_BREAK ≤ c.still + n → paused_span n c ≡ break_made US_BREAK 0
span_over n c l = elim (span_cases n c) [ inl k ↦ absurd (let m = k.0 in omega arith) | inr k ↦ k.1 ]

paused_more : (n : ℕ) (c : BreakCount) → paused_span (suc n) (paused c) ≡ paused_span (suc (suc n)) c
paused_more n c = elim (paused_cases c) [
  | inl k ↦
      ap (paused_span (suc n)) k.1
      ∙ ap (λ m. if nat_lt m US_BREAK then break_made m c.driven else break_made US_BREAK 0) (let e : c.still + 1 + suc n ≡ c.still + suc (suc n) = omega arith in e)
  | inr k ↦ ap (paused_span (suc n)) k.1 ∙ (span_over (suc n) (break_made US_BREAK 0) (omega arith) ∙ sym (span_over (suc (suc n)) c (let l = k.0 in omega arith)))
]

break_times_are : (x : Activity) (n : ℕ) (c : BreakCount) → break_times x n (break_after c 0 x) ≡ break_span c x (suc n)
unfolding break_times
break_times_are x zero c = refl
break_times_are Drive (suc n) c = break_times_are Drive n (break_after c 0 Drive) ∙ ap (λ m. break_made 0 m) (let e : c.driven + 1 + suc n ≡ c.driven + suc (suc n) = omega arith in e)
break_times_are Serve (suc n) c = break_times_are Serve n (paused c) ∙ paused_more n c
break_times_are Wait (suc n) c = break_times_are Wait n (paused c) ∙ paused_more n c
break_times_are Off (suc n) c = break_times_are Off n (paused c) ∙ paused_more n c
break_times_are Berth (suc n) c = break_times_are Berth n (paused c) ∙ paused_more n c

-- of a week whose days are those of the first unit
abbrev week_flat : Activity → ℕ → WeekCount → WeekCount
week_flat x n w = cond (rests x) (week_made (min (w.rest + n) US_RESTART) (after_rest US_RESTART (w.rest + n) w.sums)) (week_made 0 (added n w.sums))

added_more : (n : ℕ) (sums : List ℕ) → added (suc n) (added 1 sums) ≡ added (suc (suc n)) sums
added_more n [] = refl
added_more n (x ∷ xs) = ap (λ (m : ℕ). m ∷ xs) (let e : x + 1 + suc n ≡ x + suc (suc n) = omega arith in e)

rest_below : (run : ℕ) (sums : List ℕ) → run < US_RESTART → after_rest US_RESTART run sums ≡ sums
rest_below run sums l = grind (arith, nat_tests)

rest_above : (run : ℕ) (sums : List ℕ) → US_RESTART ≤ run → after_rest US_RESTART run sums ≡ cleared sums
rest_above run sums l = grind (arith, nat_tests)

rest_more : (n : ℕ) (w : WeekCount) → week_flat Off (suc n) (week_rested w.rest w.sums) ≡ week_flat Off (suc (suc n)) w
rest_more n w = elim (cases_lt (w.rest + 1) US_RESTART) [
  | inl l ↦
      let a : min (w.rest + 1) US_RESTART + suc n ≡ w.rest + suc (suc n) = omega arith in
      ap (λ ys. week_made (min (min (w.rest + 1) US_RESTART + suc n) US_RESTART) (after_rest US_RESTART (min (w.rest + 1) US_RESTART + suc n) ys)) (rest_below (w.rest + 1) w.sums l)
      ∙ ap (λ m. week_made (min m US_RESTART) (after_rest US_RESTART m w.sums)) a
  | inr l ↦
      let m : ℕ = min (w.rest + 1) US_RESTART + suc n in
      let a : min m US_RESTART ≡ min (w.rest + suc (suc n)) US_RESTART = omega arith in
      ap (λ ys. week_made (min m US_RESTART) (after_rest US_RESTART m ys)) (rest_above (w.rest + 1) w.sums l)
      ∙ (ap (λ ys. week_made (min m US_RESTART) ys) (rest_above m (cleared w.sums) (omega arith) ∙ (sym (cleared_twice w.sums) ∙ sym (rest_above (w.rest + suc (suc n)) w.sums (omega arith))))
      ∙ ap (λ r. week_made r (after_rest US_RESTART (w.rest + suc (suc n)) w.sums)) a)
]

week_times_are : (x : Activity) (n : ℕ) (w : WeekCount) → week_times x n (week_more x w) ≡ week_flat x (suc n) w
unfolding week_times
week_times_are x zero w = refl
week_times_are Drive (suc n) w = week_times_are Drive n (week_more Drive w) ∙ ap (week_made 0) (added_more n w.sums)
week_times_are Serve (suc n) w = week_times_are Serve n (week_more Serve w) ∙ ap (week_made 0) (added_more n w.sums)
week_times_are Wait (suc n) w = week_times_are Wait n (week_more Wait w) ∙ ap (week_made 0) (added_more n w.sums)
week_times_are Off (suc n) w = week_times_are Off n (week_more Off w) ∙ rest_more n w
week_times_are Berth (suc n) w = week_times_are Berth n (week_more Berth w) ∙ rest_more n w

-- the state after the first unit, and so many more
after_first : (day_start : ℕ) (x : Activity) (n : ℕ) (p : SplitCount) (c : BreakCount) (w : WeekCount) (at : ℕ) →
    units_more x n (us_made (count_more x p) (break_after c 0 x) (week_more x (week_made w.rest (turned (begins_day day_start at) w.sums))))
    ≡ us_made (repeated (count_more x) (suc n) p) (break_span c x (suc n)) (week_span day_start w at x (suc n))
after_first day_start x n p c w at =
    let v : WeekCount = week_made w.rest (turned (begins_day day_start at) w.sums) in
    units_are x n (count_more x p) (break_after c 0 x) (week_more x v)
    ∙ (ap (λ b. us_made (repeated (count_more x) n (count_more x p)) b (week_times x n (week_more x v))) (break_times_are x n c)
    ∙ ap (us_made (repeated (count_more x) n (count_more x p)) (break_span c x (suc n))) (week_times_are x n v))

-- # What the rules allow at once

lt_is_le : (a b : ℕ) → nat_lt a b ≡ nat_le (a + 1) b
lt_is_le a b = elim (cases_lt a b) [
  | inl l ↦ (let e : nat_lt a b ≡ true = grind (arith, nat_tests) in let f : nat_le (a + 1) b ≡ true = grind (arith, nat_tests) in e ∙ sym f)
  | inr l ↦ (let e : nat_lt a b ≡ false = grind (arith, nat_tests) in let f : nat_le (a + 1) b ≡ false = grind (arith, nat_tests) in e ∙ sym f)
]

upto : (a b : ℕ) → nat_le a b ≡ true → a ≤ b
upto a b h = grind (arith, nat_tests)

is_upto : (a b : ℕ) → a ≤ b → nat_le a b ≡ true
is_upto a b h = grind (arith, nat_tests)

and_true : (b : Bool) → (b && true) ≡ b
and_true true = refl
and_true false = refl

and_absorbs : (a b : Bool) → (b ≡ true → a ≡ true) → (a && b) ≡ b
and_absorbs true b h = refl
and_absorbs false true h = h refl
and_absorbs false false h = refl

sum_added : (n : ℕ) (sums : List ℕ) → sum (added 1 sums) ≤ sum (added (suc n) sums)
sum_added n [] = omega arith
sum_added n (x ∷ xs) =
    let a : sum ((x + 1) ∷ xs) ≡ x + 1 + sum xs = sum_by-cons (λ (y : ℕ). y) (x + 1) xs in
    let b : sum ((x + suc n) ∷ xs) ≡ x + suc n + sum xs = sum_by-cons (λ (y : ℕ). y) (x + suc n) xs in
    omega arith

-- counts that keep the limits after so many units of driving do so after the first
fits_first : (n : ℕ) (s : SplitCount) → us_fits (repeated (after_duty true) (suc n) s) ≡ true → us_fits (after_duty true s) ≡ true
fits_first n s h =
    let e = works_at_once true (suc n) s (omega arith) in
    let q = and_parts (nat_le (repeated (after_duty true) (suc n) s).base.elapsed US_WINDOW_LIMIT) (nat_le (repeated (after_duty true) (suc n) s).base.driving US_DRIVING_LIMIT) h in
    let a = upto (repeated (after_duty true) (suc n) s).base.elapsed US_WINDOW_LIMIT q.0 in
    let b = upto (repeated (after_duty true) (suc n) s).base.driving US_DRIVING_LIMIT q.1 in
    let c : min (s.base.elapsed + suc n) COUNT_LIMIT ≡ (repeated (after_duty true) (suc n) s).base.elapsed = ap (λ (t : SplitCount). t.base.elapsed) e in
    let d : min (s.base.driving + suc n) COUNT_LIMIT ≡ (repeated (after_duty true) (suc n) s).base.driving = ap (λ (t : SplitCount). t.base.driving) e in
    and_from (nat_le (after_duty true s).base.elapsed US_WINDOW_LIMIT) (nat_le (after_duty true s).base.driving US_DRIVING_LIMIT)
    (is_upto (min (s.base.elapsed + 1) COUNT_LIMIT) US_WINDOW_LIMIT (omega arith)) (is_upto (min (s.base.driving + 1) COUNT_LIMIT) US_DRIVING_LIMIT (omega arith))

abbrev drive_ok : ℕ → ℕ → UsState → Bool
drive_ok days n s = nat_le (s.rest_break.driven + n) US_UNBROKEN_LIMIT && (nat_le (sum (added n s.week.sums)) (us_week_limit days) && us_fits (repeated (after_duty true) n s.split))

drive_first : (days n : ℕ) (s : UsState) → drive_ok days (suc n) s ≡ true → allows_unit days Drive s ≡ true
drive_first days n s h =
    let a = and_parts (nat_le (s.rest_break.driven + suc n) US_UNBROKEN_LIMIT) (nat_le (sum (added (suc n) s.week.sums)) (us_week_limit days) && us_fits (repeated (after_duty true) (suc n) s.split)) h in
    let b = and_parts (nat_le (sum (added (suc n) s.week.sums)) (us_week_limit days)) (us_fits (repeated (after_duty true) (suc n) s.split)) a.1 in
    let u = upto (s.rest_break.driven + suc n) US_UNBROKEN_LIMIT a.0 in
    let v = upto (sum (added (suc n) s.week.sums)) (us_week_limit days) b.0 in
    let w = sum_added n s.week.sums in
    and_from (nat_lt s.rest_break.driven US_UNBROKEN_LIMIT) (nat_le (sum (added 1 s.week.sums)) (us_week_limit days) && us_fits (after_duty true s.split))
    (lt_is_le s.rest_break.driven US_UNBROKEN_LIMIT ∙ is_upto (s.rest_break.driven + 1) US_UNBROKEN_LIMIT (omega arith))
    (and_from (nat_le (sum (added 1 s.week.sums)) (us_week_limit days)) (us_fits (after_duty true s.split)) (is_upto (sum (added 1 s.week.sums)) (us_week_limit days) (omega arith)) (fits_first n s.split b.1))

drives_all : (days n : ℕ) (s : UsState) → allows_units days Drive (suc n) s ≡ drive_ok days (suc n) s
unfolding allows_units
drives_all days zero s =
    and_true (allows_unit days Drive s)
    ∙ ap (λ b. b && (nat_le (sum (added 1 s.week.sums)) (us_week_limit days) && us_fits (after_duty true s.split))) (lt_is_le s.rest_break.driven US_UNBROKEN_LIMIT)
drives_all days (suc n) s =
    ap (λ b. allows_unit days Drive s && b)
    (drives_all days n (unit_more Drive s)
    ∙ (ap (λ m. nat_le m US_UNBROKEN_LIMIT && (nat_le (sum (added (suc n) (added 1 s.week.sums))) (us_week_limit days) && us_fits (repeated (after_duty true) (suc (suc n)) s.split)))
    (let e : s.rest_break.driven + 1 + suc n ≡ s.rest_break.driven + suc (suc n) = omega arith in e)
    ∙ ap (λ ys. nat_le (s.rest_break.driven + suc (suc n)) US_UNBROKEN_LIMIT && (nat_le (sum ys) (us_week_limit days) && us_fits (repeated (after_duty true) (suc (suc n)) s.split))) (added_more n s.week.sums)))
    ∙ and_absorbs (allows_unit days Drive s) (drive_ok days (suc (suc n)) s) (drive_first days (suc n) s)

allows_others : (days : ℕ) (x : Activity) (n : ℕ) (s : UsState) → drives x ≡ false → allows_units days x n s ≡ true
unfolding allows_units
allows_others days x zero s d = refl
allows_others days x (suc n) s d =
    ap (λ b. cond b (nat_lt s.rest_break.driven US_UNBROKEN_LIMIT && (nat_le (sum (added 1 s.week.sums)) (us_week_limit days) && us_fits (after_duty true s.split))) true && allows_units days x n (unit_more x s)) d
    ∙ allows_others days x n (unit_more x s) d

-- # Successors

-- where the rules allow so many units
abbrev span_ok : ℕ → ℕ → UsState → ℕ → Activity → ℕ → Bool
span_ok days day_start s at x n = break_span_ok s.rest_break x n && week_span_ok days day_start s.week at x n

abbrev spans_by : ℕ → UsState → ℕ → Activity → ℕ → Ends → Nexts UsState
spans_by day_start s at x n e = nexts_by (break_span s.rest_break x n) (week_span day_start s.week at x n) (at - run_of s.split) e

-- where the first unit leads by these counts, and the others from there
abbrev goes_by : Bool → ℕ → ℕ → UsState → ℕ → Activity → ℕ → Option SplitCount → Option Mark → Option (Next UsState)
goes_by berth days day_start s at x n o mark = onward berth days day_start (next_with o (break_after s.rest_break at x) (week_after day_start s.week at x) mark) (at + 1) x n

abbrev span_with : ℕ → UsState → ℕ → Activity → ℕ → Option SplitCount → Option Mark → Option (Next UsState)
span_with day_start s at x n o mark = next_with o (break_span s.rest_break x n) (week_span day_start s.week at x n) mark

-- the state after the first unit of a run that was ended so
abbrev first_state : ℕ → UsState → ℕ → Activity → SplitCount → UsState
first_state day_start s at x p = us_made (count_more x p) (break_after s.rest_break 0 x) (week_more x (week_made s.week.rest (turned (begins_day day_start at) s.week.sums)))

marked_if : (mark : Option Mark) (b : Bool) (s : UsState) → with_mark mark (cond b (Some s) None) ≡ cond b (with_mark mark (Some s)) None
marked_if mark true s = refl
marked_if mark false s = refl

-- in the way of duty that is no driving
other_duty : (berth : Bool) (days day_start : ℕ) (s : UsState) (at : ℕ) (x : Activity) (n : ℕ) (p : SplitCount) (mark : Option Mark) → drives x ≡ false → IsOneDay day_start (at + 1) n →
    with_mark mark (goes_on berth days day_start (Some (first_state day_start s at x p)) (at + 1) x n)
    ≡ with_mark mark (Some (us_made (repeated (count_more x) (suc n) p) (break_span s.rest_break x (suc n)) (week_span day_start s.week at x (suc n))))
other_duty berth days day_start s at x n p mark d h =
    ap (with_mark mark)
    (steady_units berth days day_start n (first_state day_start s at x p) (at + 1) x (steady_more x (us_made p s.rest_break (week_made s.week.rest (turned (begins_day day_start at) s.week.sums)))) h
    ∙ (ap (λ b. cond b (Some (units_more x n (first_state day_start s at x p))) None) (allows_others days x n (first_state day_start s at x p) d)
    ∙ ap (λ u. Some u) (after_first day_start x n p s.rest_break s.week at)))

-- where driving leads by counts that one unit of it left
drive_cases : (berth : Bool) (days day_start : ℕ) (s : UsState) (at n : ℕ) (p : SplitCount) (mark : Option Mark) → IsOneDay day_start (at + 1) n → (fits : Bool) →
    goes_by berth days day_start s at Drive n (cond fits (Some (after_duty true p)) None) mark
    ≡ cond (fits && allows_units days Drive n (first_state day_start s at Drive p)) (with_mark mark (Some (units_more Drive n (first_state day_start s at Drive p)))) None
drive_cases berth days day_start s at n p mark h true =
    let v : UsState = first_state day_start s at Drive p in
    ap (with_mark mark) (steady_units berth days day_start n v (at + 1) Drive (steady_more Drive (us_made p s.rest_break (week_made s.week.rest (turned (begins_day day_start at) s.week.sums)))) h)
    ∙ marked_if mark (allows_units days Drive n v) (units_more Drive n v)
drive_cases berth days day_start s at n p mark h false = refl

span_if : (a b c : Bool) (p : SplitCount) (rest_break : BreakCount) (week : WeekCount) (mark : Option Mark) →
    (if a && b then next_with (cond c (Some p) None) rest_break week mark else None) ≡ cond (a && (b && c)) (with_mark mark (Some (us_made p rest_break week))) None
span_if true true true p rest_break week mark = refl
span_if true true false p rest_break week mark = refl
span_if true false c p rest_break week mark = refl
span_if false b c p rest_break week mark = refl

drive_one : (berth : Bool) (days day_start : ℕ) (s : UsState) (at n : ℕ) (p : SplitCount) (mark : Option Mark) → IsOneDay day_start (at + 1) n →
    (break_ok s.rest_break at Drive && week_ok days day_start s.week at Drive) ≡ true →
    goes_by berth days day_start s at Drive n (duty_after us_fits Drive (Some p)) mark
    ≡ (if span_ok days day_start s at Drive (suc n) then span_with day_start s at Drive (suc n) (duty_span Drive (suc n) (Some p)) mark else None)
unfolding allows_units
drive_one berth days day_start s at n p mark h ok =
    let u : UsState = us_made p s.rest_break (week_made s.week.rest (turned (begins_day day_start at) s.week.sums)) in
    let v : UsState = first_state day_start s at Drive p in
    let oks = and_parts (nat_lt s.rest_break.driven US_UNBROKEN_LIMIT) (week_ok days day_start s.week at Drive) ok in
    let fits : us_fits (after_duty true p) ≡ allows_unit days Drive u =
    sym (ap (λ b. b && (nat_le (sum (added 1 u.week.sums)) (us_week_limit days) && us_fits (after_duty true p))) oks.0 ∙ ap (λ b. b && us_fits (after_duty true p)) oks.1) in
    drive_cases berth days day_start s at n p mark h (us_fits (after_duty true p))
    ∙ (ap (λ b. cond (b && allows_units days Drive n v) (with_mark mark (Some (units_more Drive n v))) None) fits
    ∙ (ap (λ b. cond b (with_mark mark (Some (units_more Drive n v))) None) (drives_all days n u)
    ∙ (ap (λ t. cond (drive_ok days (suc n) u) (with_mark mark (Some t)) None) (after_first day_start Drive n p s.rest_break s.week at)
    ∙ sym (span_if (nat_le (s.rest_break.driven + suc n) US_UNBROKEN_LIMIT) (week_span_ok days day_start s.week at Drive (suc n)) (us_fits (repeated (after_duty true) (suc n) p))
    (repeated (after_duty true) (suc n) p) (break_span s.rest_break Drive (suc n)) (week_span day_start s.week at Drive (suc n)) mark))))

abbrev no_next : Option (Next UsState)
no_next = None

none_if : (ok : Bool) → no_next ≡ (if ok then no_next else no_next)
none_if true = refl
none_if false = refl

duty_one : (berth : Bool) (days day_start : ℕ) (s : UsState) (at : ℕ) (x : Activity) (n : ℕ) (o : Option SplitCount) (mark : Option Mark) → rests x ≡ false → IsOneDay day_start (at + 1) n →
    (break_ok s.rest_break at x && week_ok days day_start s.week at x) ≡ true →
    goes_by berth days day_start s at x n (duty_after us_fits x o) mark
    ≡ (if span_ok days day_start s at x (suc n) then span_with day_start s at x (suc n) (duty_span x (suc n) o) mark else None)
duty_one berth days day_start s at x n None mark r h ok = none_if (span_ok days day_start s at x (suc n))
duty_one berth days day_start s at Drive n (Some p) mark r h ok = drive_one berth days day_start s at n p mark h ok
duty_one berth days day_start s at Serve n (Some p) mark r h ok = other_duty berth days day_start s at Serve n p mark refl h
duty_one berth days day_start s at Wait n (Some p) mark r h ok = other_duty berth days day_start s at Wait n p mark refl h
duty_one berth days day_start s at Off n (Some p) mark r h ok = absurd (let z : true ≡ false = r in cc)
duty_one berth days day_start s at Berth n (Some p) mark r h ok = absurd (let z : true ≡ false = r in cc)

-- where rests may be split
may_one : (berth : Bool) (days day_start : ℕ) (s : UsState) (at : ℕ) (x : Activity) (n : ℕ) (o : Option SplitCount) (mark : Option Mark) → rests x ≡ false → IsOneDay day_start (at + 1) n →
    (break_ok s.rest_break at x && week_ok days day_start s.week at x) ≡ true → (may : Bool) →
    goes_by berth days day_start s at x n (cond may (duty_after us_fits x o) None) mark
    ≡ (if span_ok days day_start s at x (suc n) then span_with day_start s at x (suc n) (cond may (duty_span x (suc n) o) None) mark else None)
may_one berth days day_start s at x n o mark r h ok true = duty_one berth days day_start s at x n o mark r h ok
may_one berth days day_start s at x n o mark r h ok false = none_if (span_ok days day_start s at x (suc n))

three_if : (ok : Bool) (a b c : Option (Next UsState)) → nexts_made (if ok then a else None) (if ok then b else None) (if ok then c else None) ≡ (if ok then nexts_made a b c else nexts_made None None None)
three_if true a b c = refl
three_if false a b c = refl

three_same : (a b c d e f : Option (Next UsState)) → a ≡ d → b ≡ e → c ≡ f → nexts_made a b c ≡ nexts_made d e f
three_same a b c d e f h g k = ap (λ u. nexts_made u b c) h ∙ (ap (λ u. nexts_made d u c) g ∙ ap (λ u. nexts_made d e u) k)

-- where each of three ends leads, and the mark of the one that is a split rest
abbrev goes_three : Bool → ℕ → ℕ → UsState → ℕ → Activity → ℕ → Ends → Nexts UsState
goes_three berth days day_start s at x n e =
    nexts_made (goes_by berth days day_start s at x n e.plain None) (goes_by berth days day_start s at x n e.split (Some (SplitRest (at - run_of s.split)))) (goes_by berth days day_start s at x n e.full None)

abbrev span_three : ℕ → ℕ → UsState → ℕ → Activity → ℕ → Ends → Nexts UsState
span_three days day_start s at x n e = if span_ok days day_start s at x n then spans_by day_start s at x n e else nexts_made None None None

-- the ends at a unit of duty, by whether no run is in progress
abbrev duty_ends : Bool → Activity → SplitCount → Bool → Ends
duty_ends berth x p none =
    cond none (ends_made (duty_after us_fits x (Some p)) None None) (ends_made (duty_after us_fits x (end_undeclared US p)) (cond berth (duty_after us_fits x (end_split US p)) None) (duty_after us_fits x (end_full US p)))

abbrev duty_ends_span : Bool → Activity → ℕ → SplitCount → Bool → Ends
duty_ends_span berth x n p none =
    cond none (ends_made (duty_span x n (Some p)) None None) (ends_made (duty_span x n (end_undeclared US p)) (cond berth (duty_span x n (end_split US p)) None) (duty_span x n (end_full US p)))

duty_three : (berth : Bool) (days day_start : ℕ) (s : UsState) (at : ℕ) (x : Activity) (n : ℕ) → rests x ≡ false → IsOneDay day_start (at + 1) n →
    (break_ok s.rest_break at x && week_ok days day_start s.week at x) ≡ true → (none : Bool) →
    goes_three berth days day_start s at x n (duty_ends berth x s.split none) ≡ span_three days day_start s at x (suc n) (duty_ends_span berth x (suc n) s.split none)
duty_three berth days day_start s at x n r h ok true =
    let fits : Bool = span_ok days day_start s at x (suc n) in
    let a = span_with day_start s at x (suc n) (duty_span x (suc n) (Some s.split)) None in
    three_same (goes_by berth days day_start s at x n (duty_after us_fits x (Some s.split)) None) None None (if fits then a else None) (if fits then None else None) (if fits then None else None)
    (duty_one berth days day_start s at x n (Some s.split) None r h ok) (none_if fits) (none_if fits)
    ∙ three_if fits a None None
duty_three berth days day_start s at x n r h ok false =
    let p : SplitCount = s.split in
    let start : Option Mark = Some (SplitRest (at - run_of s.split)) in
    let fits : Bool = span_ok days day_start s at x (suc n) in
    let a = span_with day_start s at x (suc n) (duty_span x (suc n) (end_undeclared US p)) None in
    let b = span_with day_start s at x (suc n) (cond berth (duty_span x (suc n) (end_split US p)) None) start in
    let c = span_with day_start s at x (suc n) (duty_span x (suc n) (end_full US p)) None in
    three_same (goes_by berth days day_start s at x n (duty_after us_fits x (end_undeclared US p)) None) (goes_by berth days day_start s at x n (cond berth (duty_after us_fits x (end_split US p)) None) start) (goes_by berth days day_start s at x n (duty_after us_fits x (end_full US p)) None)
    (if fits then a else None) (if fits then b else None) (if fits then c else None)
    (duty_one berth days day_start s at x n (end_undeclared US p) None r h ok)
    (may_one berth days day_start s at x n (end_split US p) start r h ok berth)
    (duty_one berth days day_start s at x n (end_full US p) None r h ok)
    ∙ three_if fits a b c

ends_first : (berth : Bool) (days day_start : ℕ) (s : UsState) (at : ℕ) (x : Activity) (n : ℕ) → IsOneDay day_start (at + 1) n → (break_ok s.rest_break at x && week_ok days day_start s.week at x) ≡ true →
    goes_three berth days day_start s at x n (ends_of US berth us_fits s.split x) ≡ span_three days day_start s at x (suc n) (ends_span berth s.split x (suc n))
ends_first berth days day_start s at Drive n h ok = duty_three berth days day_start s at Drive n refl h ok (nat_eq (run_of s.split) 0)
ends_first berth days day_start s at Serve n h ok = duty_three berth days day_start s at Serve n refl h ok (nat_eq (run_of s.split) 0)
ends_first berth days day_start s at Wait n h ok = duty_three berth days day_start s at Wait n refl h ok (nat_eq (run_of s.split) 0)
ends_first berth days day_start s at Off n h ok = ap (λ o. nexts_made o None None) (other_duty berth days day_start s at Off n s.split None refl h)
ends_first berth days day_start s at Berth n h ok = ap (λ o. nexts_made o None None) (other_duty berth days day_start s at Berth n s.split None refl h)

-- rules that allow so many units allow the first
ok_first : (days day_start : ℕ) (s : UsState) (at : ℕ) (x : Activity) (n : ℕ) → span_ok days day_start s at x (suc n) ≡ true → (break_ok s.rest_break at x && week_ok days day_start s.week at x) ≡ true
ok_first days day_start s at Drive n h =
    let ys : List ℕ = turned (begins_day day_start at) s.week.sums in
    let a = and_parts (nat_le (s.rest_break.driven + suc n) US_UNBROKEN_LIMIT) (nat_le (sum (added (suc n) ys)) (us_week_limit days)) h in
    let u = upto (s.rest_break.driven + suc n) US_UNBROKEN_LIMIT a.0 in
    let v = upto (sum (added (suc n) ys)) (us_week_limit days) a.1 in
    let w = sum_added n ys in
    and_from (nat_lt s.rest_break.driven US_UNBROKEN_LIMIT) (nat_le (sum (added 1 ys)) (us_week_limit days))
    (lt_is_le s.rest_break.driven US_UNBROKEN_LIMIT ∙ is_upto (s.rest_break.driven + 1) US_UNBROKEN_LIMIT (omega arith)) (is_upto (sum (added 1 ys)) (us_week_limit days) (omega arith))
ok_first days day_start s at Serve n h = refl
ok_first days day_start s at Wait n h = refl
ok_first days day_start s at Off n h = refl
ok_first days day_start s at Berth n h = refl

-- So many units of one day at once are what they are one by one.
pub spans_are : (berth : Bool) (days day_start : ℕ) (s : UsState) (at : ℕ) (x : Activity) (n : ℕ) → IsOneDay day_start (at + 1) n →
    listed (span_three days day_start s at x (suc n) (ends_span berth s.split x (suc n))) ≡ us_advances berth days day_start s at x (suc n)
spans_are berth days day_start s at x n h =
    let f = λ (t : Next UsState). marked_next t.mark (goes_on berth days day_start (Some t.state) (at + 1) x n) in
    elim (cases_Bool (break_ok s.rest_break at x && week_ok days day_start s.week at x)) [
      | inl ok ↦
          let q = and_parts (break_ok s.rest_break at x) (week_ok days day_start s.week at x) ok in
          sym (ap listed (ends_first berth days day_start s at x n h ok))
          ∙ (advances_are berth days day_start (nexts_by (break_after s.rest_break at x) (week_after day_start s.week at x) (at - run_of s.split) (ends_of US berth us_fits s.split x)) (at + 1) x n
          ∙ ap (flat_map f) (nexts_of_ends berth days day_start s at x q.0 q.1))
      | inr forbids ↦
          let refused : span_ok days day_start s at x (suc n) ≡ false = elim (cases_Bool (span_ok days day_start s at x (suc n))) [
            | inl y ↦ absurd (let z : true ≡ false = sym (ok_first days day_start s at x n y) ∙ forbids in cc)
            | inr y ↦ y
          ] in
          ap (λ b. listed (if b then spans_by day_start s at x (suc n) (ends_span berth s.split x (suc n)) else nexts_made None None None)) refused
          ∙ ap (flat_map f) (nexts_of_none berth days day_start s at x forbids)
    ]

-- # As the book calls them

not_turned : (x k n : ℕ) → n ≤ DAY_MINUTES - x % DAY_MINUTES → k < n - 1 → (x + 1 + k) % DAY_MINUTES ≡ 0 → ⊥
not_turned x k n l u e = omega arith

-- no day begins after the first of so many units of a day
one_day_left : (day_start at n : ℕ) → n ≤ left_of_day day_start at → IsOneDay day_start (at + 1) (n - 1)
one_day_left day_start at n l k u =
    let x : ℕ = at + (DAY_MINUTES - day_start) in
    let y : ℕ = at + 1 + k + (DAY_MINUTES - day_start) in
    let e : y ≡ x + 1 + k = omega arith in
    let far : y % DAY_MINUTES ≡ 0 → ⊥ = λ z. not_turned x k n l u (ap (λ m. m % DAY_MINUTES) (sym e) ∙ z) in
    grind (arith, nat_tests)

-- the successors by so many units of one day, where the parts are known to be these
pub span_found : (berth : Bool) (days day_start : ℕ) (s : UsState) (at : ℕ) (x : Activity) (n : ℕ) (rest_break : BreakCount) (week : WeekCount) (start : ℕ) (e : Ends) (a b c : Option (Next UsState)) →
    1 ≤ n → n ≤ left_of_day day_start at → break_span_ok s.rest_break x n ≡ true → week_span_ok days day_start s.week at x n ≡ true →
    rest_break ≡ break_span s.rest_break x n → week ≡ week_span day_start s.week at x n → start ≡ at - run_of s.split → e ≡ ends_span berth s.split x n →
    a ≡ next_with e.plain rest_break week None → b ≡ next_with e.split rest_break week (Some (SplitRest start)) → c ≡ next_with e.full rest_break week None →
    listed (nexts_made a b c) ≡ us_advances berth days day_start s at x n
span_found berth days day_start s at x n rest_break week start e a b c some left ok fits p q r u f g h =
    let m : ℕ = n - 1 in
    let k : suc m ≡ n = omega arith in
    ap listed (three_same a b c (next_with e.plain rest_break week None) (next_with e.split rest_break week (Some (SplitRest start))) (next_with e.full rest_break week None) f g h)
    ∙ (ap (λ v. listed (nexts_by v week start e)) p ∙ (ap (λ v. listed (nexts_by (break_span s.rest_break x n) v start e)) q
    ∙ (ap (λ v. listed (nexts_by (break_span s.rest_break x n) (week_span day_start s.week at x n) v e)) r
    ∙ (ap (λ v. listed (spans_by day_start s at x n v)) u
    ∙ (ap (λ v. listed (if v then spans_by day_start s at x n (ends_span berth s.split x n) else nexts_made None None None)) (sym (and_from (break_span_ok s.rest_break x n) (week_span_ok days day_start s.week at x n) ok fits))
    ∙ subst (λ j. listed (span_three days day_start s at x j (ends_span berth s.split x j)) ≡ us_advances berth days day_start s at x j) k (spans_are berth days day_start s at x m (one_day_left day_start at n left)))))))

-- and where the rules forbid one of them
pub span_none : (berth : Bool) (days day_start : ℕ) (s : UsState) (at : ℕ) (x : Activity) (n : ℕ) → 1 ≤ n → n ≤ left_of_day day_start at →
    (break_span_ok s.rest_break x n && week_span_ok days day_start s.week at x n) ≡ false → [] ≡ us_advances berth days day_start s at x n
span_none berth days day_start s at x n some left forbids =
    let m : ℕ = n - 1 in
    let k : suc m ≡ n = omega arith in
    sym (ap (λ v. listed (if v then spans_by day_start s at x n (ends_span berth s.split x n) else nexts_made None None None)) forbids)
    ∙ subst (λ j. listed (span_three days day_start s at x j (ends_span berth s.split x j)) ≡ us_advances berth days day_start s at x j) k (spans_are berth days day_start s at x m (one_day_left day_start at n left))

one_each : (ts : List (Next UsState)) → flat_map (λ t. marked_next t.mark (Some t.state)) ts ≡ ts
one_each [] = refl
one_each (t ∷ ts) = ap (λ l. t ∷ l) (one_each ts)

-- one unit is a step
pub advances_first : (berth : Bool) (days day_start : ℕ) (s : UsState) (at : ℕ) (x : Activity) → us_advances berth days day_start s at x 1 ≡ us_nexts berth days day_start s at x
advances_first berth days day_start s at x = one_each (us_nexts berth days day_start s at x)

-- # Day by day

first_marked : (o : Option UsState) → first_of (marked_next None o ++ []) ≡ o
first_marked None = refl
first_marked (Some s) = refl

-- a state for which no choice is left has one way at most
pub steady_goes : (berth : Bool) (days day_start n : ℕ) (s : UsState) (at : ℕ) (x : Activity) → IsSteady s x → 1 ≤ n → first_of (us_advances berth days day_start s at x n) ≡ goes_on berth days day_start (Some s) at x n
steady_goes berth days day_start zero s at x h some = absurd (omega arith)
steady_goes berth days day_start (suc n) s at x h some =
    let f = λ (t : Next UsState). marked_next t.mark (goes_on berth days day_start (Some t.state) (at + 1) x n) in
    elim (steady_nexts berth days day_start s at x h) [
      | inl none ↦ ap (λ ts. first_of (flat_map f ts)) none ∙ sym (ap (λ ts. goes_on berth days day_start (first_of ts) (at + 1) x n) none)
      | inr k ↦
          ap (λ ts. first_of (flat_map f ts)) k.1
          ∙ (first_marked (goes_on berth days day_start (Some k.0) (at + 1) x n)
          ∙ sym (ap (λ ts. goes_on berth days day_start (first_of ts) (at + 1) x n) k.1))
    ]

pub goes_more : (berth : Bool) (days day_start m n : ℕ) (o : Option UsState) (at : ℕ) (x : Activity) →
    goes_on berth days day_start (goes_on berth days day_start o at x m) (at + m) x n ≡ goes_on berth days day_start o at x (m + n)
goes_more berth days day_start zero n None at x = refl
goes_more berth days day_start (suc m) n None at x = refl
goes_more berth days day_start zero n (Some s) at x =
    ap (λ k. goes_on berth days day_start (Some s) k x n) (let e : at + 0 ≡ at = omega arith in e)
    ∙ ap (goes_on berth days day_start (Some s) at x) (let e : n ≡ 0 + n = omega arith in e)
goes_more berth days day_start (suc m) n (Some s) at x =
    let o = first_of (us_nexts berth days day_start s at x) in
    ap (λ k. goes_on berth days day_start (goes_on berth days day_start o (at + 1) x m) k x n) (let e : at + suc m ≡ at + 1 + m = omega arith in e)
    ∙ (goes_more berth days day_start m n o (at + 1) x
    ∙ ap (goes_on berth days day_start (Some s) at x) (let e : suc (m + n) ≡ suc m + n = omega arith in e))

-- where a state goes on there is a state, for which no choice is left
pub goes_kept : (berth : Bool) (days day_start n : ℕ) (o : Option UsState) (at : ℕ) (x : Activity) (t : UsState) → ((s : UsState) → o ≡ Some s → IsUsState berth days day_start s at) →
    goes_on berth days day_start o at x n ≡ Some t → IsUsState berth days day_start t (at + n)
goes_kept berth days day_start n None at x t h e = absurd (let z : None ≡ Some t = e in cc)
goes_kept berth days day_start zero (Some s) at x t h e = subst (IsUsState berth days day_start t) (let z : at ≡ at + 0 = omega arith in z) (h t e)
goes_kept berth days day_start (suc n) (Some s) at x t h e =
    subst (IsUsState berth days day_start t) (let z : at + 1 + n ≡ at + suc n = omega arith in z)
    (goes_kept berth days day_start n (first_of (us_nexts berth days day_start s at x)) (at + 1) x t (λ u f. first_is_us_state berth days day_start s u at x (h s refl) f) e)

pub goes_steady : (berth : Bool) (days day_start n : ℕ) (o : Option UsState) (at : ℕ) (x : Activity) (t : UsState) → ((s : UsState) → o ≡ Some s → IsSteady s x) →
    goes_on berth days day_start o at x n ≡ Some t → IsSteady t x
goes_steady berth days day_start n None at x t h e = absurd (let z : None ≡ Some t = e in cc)
goes_steady berth days day_start zero (Some s) at x t h e = h t e
goes_steady berth days day_start (suc n) (Some s) at x t h e =
    goes_steady berth days day_start n (first_of (us_nexts berth days day_start s at x)) (at + 1) x t
    (λ u f. let q = first_in (us_nexts berth days day_start s at x) u f in subst (λ v. IsSteady v x) q.2 (next_steady berth days day_start s at x q.0 q.1)) e

-- so is each successor by many units
pub advances_kept : (berth : Bool) (days day_start : ℕ) (s : UsState) (at : ℕ) (x : Activity) (n : ℕ) (t : Next UsState) → 1 ≤ n → IsUsState berth days day_start s at →
    IsOneOf (us_advances berth days day_start s at x n) t → IsUsState berth days day_start t.state (at + n) × IsSteady t.state x
advances_kept berth days day_start s at x zero t some h o = absurd (omega arith)
advances_kept berth days day_start s at x (suc n) t some h o =
    let q = one_of-flat_map (λ r. marked_next r.mark (goes_on berth days day_start (Some r.state) (at + 1) x n)) (us_nexts berth days day_start s at x) t o in
    let m = marked_means q.0.mark (goes_on berth days day_start (Some q.0.state) (at + 1) x n) t q.2 in
    let first = next_is_us_state berth days day_start s at x q.0 h q.1 in
    let still = next_steady berth days day_start s at x q.0 q.1 in (
      subst (IsUsState berth days day_start t.state) (let z : at + 1 + n ≡ at + suc n = omega arith in z)
          (goes_kept berth days day_start n (Some q.0.state) (at + 1) x t.state (λ u e. (let z : q.0.state ≡ u = cc in subst (λ v. IsUsState berth days day_start v (at + 1)) z first)) m.0),
      goes_steady berth days day_start n (Some q.0.state) (at + 1) x t.state (λ u e. (let z : q.0.state ≡ u = cc in subst (λ v. IsSteady v x) z still)) m.0,
    )

marked_more : (berth : Bool) (days day_start n : ℕ) (at : ℕ) (x : Activity) (mark : Option Mark) (o : Option UsState) →
    flat_map (λ t. marked_next t.mark (goes_on berth days day_start (Some t.state) at x n)) (marked_next mark o) ≡ marked_next mark (goes_on berth days day_start o at x n)
marked_more berth days day_start n at x mark None = refl
marked_more berth days day_start n at x mark (Some s) = append-nil (marked_next mark (goes_on berth days day_start (Some s) at x n))

each_more : (berth : Bool) (days day_start m n : ℕ) (at : ℕ) (x : Activity) (ts : List (Next UsState)) →
    flat_map (λ t. marked_next t.mark (goes_on berth days day_start (Some t.state) (at + suc m) x n)) (flat_map (λ t. marked_next t.mark (goes_on berth days day_start (Some t.state) (at + 1) x m)) ts)
    ≡ flat_map (λ t. marked_next t.mark (goes_on berth days day_start (Some t.state) (at + 1) x (m + n))) ts
each_more berth days day_start m n at x [] = refl
each_more berth days day_start m n at x (t ∷ ts) =
    let f = λ (r : Next UsState). marked_next r.mark (goes_on berth days day_start (Some r.state) (at + 1) x m) in
    let g = λ (r : Next UsState). marked_next r.mark (goes_on berth days day_start (Some r.state) (at + suc m) x n) in
    let h = λ (r : Next UsState). marked_next r.mark (goes_on berth days day_start (Some r.state) (at + 1) x (m + n)) in
    let o = goes_on berth days day_start (Some t.state) (at + 1) x m in
    flat_map-append g (f t) (flat_map f ts)
    ∙ (ap (λ l. l ++ flat_map g (flat_map f ts))
    (marked_more berth days day_start n (at + suc m) x t.mark o
    ∙ ap (marked_next t.mark)
    (ap (λ k. goes_on berth days day_start o k x n) (let e : at + suc m ≡ at + 1 + m = omega arith in e) ∙ goes_more berth days day_start m n (Some t.state) (at + 1) x))
    ∙ ap (λ l. h t ++ l) (each_more berth days day_start m n at x ts))

-- the successors by the units of the first day, and from there on
pub advances_more : (berth : Bool) (days day_start : ℕ) (ns : Nexts UsState) (s : UsState) (at : ℕ) (x : Activity) (m n all : ℕ) → 1 ≤ m → m + n ≡ all → listed ns ≡ us_advances berth days day_start s at x m →
    listed (nexts_made (onward berth days day_start ns.a (at + m) x n) (onward berth days day_start ns.b (at + m) x n) (onward berth days day_start ns.c (at + m) x n)) ≡ us_advances berth days day_start s at x all
advances_more berth days day_start ns s at x zero n all some e h = absurd (omega arith)
advances_more berth days day_start ns s at x (suc m) n all some e h =
    advances_are berth days day_start ns (at + suc m) x n
    ∙ (ap (flat_map (λ t. marked_next t.mark (goes_on berth days day_start (Some t.state) (at + suc m) x n))) h
    ∙ (each_more berth days day_start m n at x (us_nexts berth days day_start s at x)
    ∙ ap (us_advances berth days day_start s at x) (let z : suc (m + n) ≡ all = omega arith in z)))
