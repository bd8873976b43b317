-- The log that is made before each tour, row by row.
use Rattle.std.proofs.Common.{◌≡◌, ℕ, ◌+◌, ◌-◌, ◌/◌, ◌%◌, ◌<◌, ◌≤◌, ◌==◌, ◌&&◌, Bool, true, false, cond, nat_le, nat_lt, not, Option, Some, Result, Ok, Err, List, [], ◌∷◌, ◌++◌, replicate, codes, refl, sym, ap, subst, ◌∙◌, append_assoc, arith, inl, inr}
use Rattle.std.proofs.lemmas.Bool.{le-ltb, eq-eqb}
use Rattle.std.proofs.lemmas.Bool.Decides.{nat_tests}
use Rattle.csv.proofs.OnLiterals.{csv_on_literals}
use Rattle.csv.specs.Reading.{default_config, records, strip_bom}
use Rattle.civil_minutes.specs.TimeOf.{time_of}
use Rattle.civil_minutes.specs.Laws.TimeOfLaws.{text_of_time}
use Rattle.duty_core.specs.declared.activity.Activity.{Activity}
use Rattle.duty_core.specs.declared.activity.Activity.TheVariants.{Serve, Off}
use Rattle.duty_core.specs.declared.limits.TheConstants.{LONGEST_LOG}
use Rattle.duty_core.specs.declared.params.Params.{Params}
use Rattle.duty_core.specs.declared.params.Params.TheVariants.{UsProperty}
use Rattle.duty_log.specs.declared.fault.LogFault.{LogFault}
use Rattle.duty_log.specs.declared.fault.LogFault.TheVariants.{Empty, Gap, NotOnUnit, TooLong}
use Rattle.duty_log.specs.declared.row.Row.{Row}
use Rattle.duty_log.specs.declared.row.Span.{Span}
use Rattle.duty_log.specs.Log.{Place, ReadsFields, ReadsLog, ReadsRows, at_start, thereafter, checked, first_of, follows, with_act}
use Rattle.duty_log.specs.Words.{activity_of, header}
use Rattle.report_text.specs.Made.{log_made}
use Rattle.made_tours.specs.Drawn.{work_and_rest, log_drawn}
use Rattle.made_tours.proofs.Times.{monday_begin, monday_end, tuesday_begin, tuesday_end, wednesday_begin, wednesday_end, thursday_begin, thursday_end, friday_begin, friday_end, start_time}

-- the book of the tours that are made
abbrev us : Params
us = UsProperty true 8 0

abbrev row_of : Activity → ℕ → ℕ → Row
row_of act from to = record { act = act; from = from; to = to }

-- ---- one row

-- the tests of a row, in their order
abbrev tested : ℕ → Row → (empty after_it from_whole to_whole long : Bool) → Result Row LogFault
tested number row empty after_it from_whole to_whole long =
    cond empty (Err (Empty number)) (cond (not after_it) (Err (Gap number)) (cond (not (from_whole && to_whole)) (Err (NotOnUnit number)) (cond long (Err (TooLong number)) (Ok row))))

checked_ok : (number from to : ℕ) (act : Activity) (before : Option Span) → from < to → follows before from ≡ true → to - first_of before from ≤ LONGEST_LOG → checked us number before (row_of act from to) ≡ Ok (row_of act from to)
checked_ok number from to act before some next short =
    let row = row_of act from to in
    let empty : nat_le to from ≡ false = grind (arith, nat_tests) in
    let from_whole : (from % 1 == 0) ≡ true = eq-eqb (from % 1) 0 (omega arith) in
    let to_whole : (to % 1 == 0) ≡ true = eq-eqb (to % 1) 0 (omega arith) in
    let long : nat_lt LONGEST_LOG (to - first_of before from) ≡ false = le-ltb LONGEST_LOG (to - first_of before from) short in
    ap (λ e. tested number row e (follows before from) (from % 1 == 0) (to % 1 == 0) (nat_lt LONGEST_LOG (to - first_of before from))) empty
    ∙ ap (λ f. tested number row false f (from % 1 == 0) (to % 1 == 0) (nat_lt LONGEST_LOG (to - first_of before from))) next
    ∙ ap (λ w. tested number row false true w (to % 1 == 0) (nat_lt LONGEST_LOG (to - first_of before from))) from_whole
    ∙ ap (λ w. tested number row false true true w (nat_lt LONGEST_LOG (to - first_of before from))) to_whole
    ∙ ap (λ l. tested number row false true true true l) long

-- what three fields read as
fields_say : (number : ℕ) (before : Option Span) (f t s : List ℕ) (from to : ℕ) (act : Activity) → time_of f ≡ Some from → time_of t ≡ Some to → activity_of us s ≡ Some act
    → from < to → follows before from ≡ true → to - first_of before from ≤ LONGEST_LOG → ReadsFields us number before f t s (Ok (row_of act from to))
fields_say number before f t s from to act begins ends word some next short = record {
  begins = Some from;
  ends = Some to;
  from_is = text_of_time f from begins;
  to_is = text_of_time t to ends;
  told = sym (ap (with_act us number before from to) word ∙ checked_ok number from to act before some next short);
}

-- a row, and the rows after it
row_says : (start : ℕ) (place : Place) (f t s : List ℕ) (from to : ℕ) (act : Activity) (later : List (List (List ℕ))) (answer : Result (List Activity) LogFault)
    → time_of f ≡ Some from → time_of t ≡ Some to → activity_of us s ≡ Some act → from < to → follows place.span from ≡ true → to - first_of place.span from ≤ LONGEST_LOG
    → ReadsRows us start (thereafter us place (row_of act from to)) later answer → ReadsRows us start place ((f ∷ t ∷ s ∷ []) ∷ later) answer
row_says start place f t s from to act later answer begins ends word some next short more =
    (Ok (row_of act from to), fields_say (place.rows + 1) place.span f t s from to act begins ends word some next short, more)

-- ---- a day of work

-- after rows that span these minutes
abbrev place_at : (rows first to : ℕ) → List Activity → Place
place_at rows first to units = record { rows = rows; span = Some (record { from = first; to = to }); units = units }

whole_minutes : (n : ℕ) → n / 1 ≡ n
whole_minutes n = omega arith

units_more : (units : List Activity) (work rest : ℕ) → (units ++ replicate (work / 1) Serve) ++ replicate (rest / 1) Off ≡ units ++ work_and_rest work rest
unfolding work_and_rest
units_more units work rest =
    append_assoc units (replicate (work / 1) Serve) (replicate (rest / 1) Off) ∙ ap (λ n. units ++ (replicate n Serve ++ replicate (rest / 1) Off)) (whole_minutes work) ∙ ap (λ n. units ++ (replicate work Serve ++ replicate n Off)) (whole_minutes rest)

units_first : (work rest : ℕ) → ([] ++ replicate (work / 1) Serve) ++ replicate (rest / 1) Off ≡ work_and_rest work rest
unfolding work_and_rest
units_first work rest = ap (λ n. replicate n Serve ++ replicate (rest / 1) Off) (whole_minutes work) ∙ ap (λ n. replicate work Serve ++ replicate n Off) (whole_minutes rest)

-- the times of a day: the beginning and the end of its work, and the end of the rest after it
record IsDay (x y z : List ℕ) (a b c : ℕ) : Type 0 where
  begins : time_of x ≡ Some a
  ends : time_of y ≡ Some b
  next : time_of z ≡ Some c
  worked : a < b
  rested : b < c

-- the two rows of a day
abbrev day_rows : List ℕ → List ℕ → List ℕ → List (List (List ℕ)) → List (List (List ℕ))
day_rows x y z later = (x ∷ y ∷ codes "ON" ∷ []) ∷ (y ∷ z ∷ codes "OFF" ∷ []) ∷ later

abbrev us_says : ℕ → Place → List (List (List ℕ)) → Result (List Activity) LogFault → Type 0
us_says start place rows answer = ReadsRows us start place rows answer

first_day : (start : ℕ) (x y z : List ℕ) (a b c : ℕ) (later : List (List (List ℕ))) (answer : Result (List Activity) LogFault) → IsDay x y z a b c → c - a ≤ LONGEST_LOG
    → us_says start (place_at 2 a c (work_and_rest (b - a) (c - b))) later answer → us_says start at_start (day_rows x y z later) answer
first_day start x y z a b c later answer day short more =
    let worked = day.worked in
    let rested = day.rested in
    row_says start at_start x y (codes "ON") a b Serve ((y ∷ z ∷ codes "OFF" ∷ []) ∷ later) answer day.begins day.ends refl worked refl (omega arith)
    (row_says start (thereafter us at_start (row_of Serve a b)) y z (codes "OFF") b c Off later answer day.ends day.next refl rested (eq-eqb b b refl) (omega arith)
    (subst (λ (units : List Activity). us_says start (place_at 2 a c units) later answer) (sym (units_first (b - a) (c - b))) more))

later_day : (start rows first : ℕ) (units : List Activity) (x y z : List ℕ) (a b c : ℕ) (later : List (List (List ℕ))) (answer : Result (List Activity) LogFault) → IsDay x y z a b c → first ≤ a → c - first ≤ LONGEST_LOG
    → us_says start (place_at (rows + 1 + 1) first c (units ++ work_and_rest (b - a) (c - b))) later answer → us_says start (place_at rows first a units) (day_rows x y z later) answer
later_day start rows first units x y z a b c later answer day from short more =
    let worked = day.worked in
    let rested = day.rested in
    row_says start (place_at rows first a units) x y (codes "ON") a b Serve ((y ∷ z ∷ codes "OFF" ∷ []) ∷ later) answer day.begins day.ends refl worked (eq-eqb a a refl) (omega arith)
    (row_says start (thereafter us (place_at rows first a units) (row_of Serve a b)) y z (codes "OFF") b c Off later answer day.ends day.next refl rested (eq-eqb b b refl) (omega arith)
    (subst (λ (all : List Activity). us_says start (place_at (rows + 1 + 1) first c all) later answer) (sym (units_more units (b - a) (c - b))) more))

-- ---- the week

abbrev friday_rows : List (List (List ℕ))
friday_rows = day_rows (codes "2026-02-27T08:00") (codes "2026-02-27T17:00") (codes "2026-03-02T06:00") []

abbrev thursday_rows : List (List (List ℕ))
thursday_rows = day_rows (codes "2026-02-26T08:00") (codes "2026-02-26T17:00") (codes "2026-02-27T08:00") friday_rows

abbrev wednesday_rows : List (List (List ℕ))
wednesday_rows = day_rows (codes "2026-02-25T08:00") (codes "2026-02-25T17:00") (codes "2026-02-26T08:00") thursday_rows

abbrev tuesday_rows : List (List (List ℕ))
tuesday_rows = day_rows (codes "2026-02-24T08:00") (codes "2026-02-24T17:00") (codes "2026-02-25T08:00") wednesday_rows

abbrev monday_rows : List (List (List ℕ))
monday_rows = day_rows (codes "2026-02-23T08:00") (codes "2026-02-23T17:00") (codes "2026-02-24T08:00") tuesday_rows

monday : IsDay (codes "2026-02-23T08:00") (codes "2026-02-23T17:00") (codes "2026-02-24T08:00") 13_752_480 13_753_020 13_753_920
monday = record { begins = monday_begin; ends = monday_end; next = tuesday_begin; worked = omega arith; rested = omega arith }

tuesday : IsDay (codes "2026-02-24T08:00") (codes "2026-02-24T17:00") (codes "2026-02-25T08:00") 13_753_920 13_754_460 13_755_360
tuesday = record { begins = tuesday_begin; ends = tuesday_end; next = wednesday_begin; worked = omega arith; rested = omega arith }

wednesday : IsDay (codes "2026-02-25T08:00") (codes "2026-02-25T17:00") (codes "2026-02-26T08:00") 13_755_360 13_755_900 13_756_800
wednesday = record { begins = wednesday_begin; ends = wednesday_end; next = thursday_begin; worked = omega arith; rested = omega arith }

thursday : IsDay (codes "2026-02-26T08:00") (codes "2026-02-26T17:00") (codes "2026-02-27T08:00") 13_756_800 13_757_340 13_758_240
thursday = record { begins = thursday_begin; ends = thursday_end; next = friday_begin; worked = omega arith; rested = omega arith }

friday : IsDay (codes "2026-02-27T08:00") (codes "2026-02-27T17:00") (codes "2026-03-02T06:00") 13_758_240 13_758_780 13_762_440
friday = record { begins = friday_begin; ends = friday_end; next = start_time; worked = omega arith; rested = omega arith }

week_says : us_says 13_762_440 at_start monday_rows (Ok log_drawn)
week_says =
    first_day 13_762_440 _ _ _ 13_752_480 13_753_020 13_753_920 tuesday_rows (Ok log_drawn) monday (omega arith)
    (later_day 13_762_440 2 13_752_480 _ _ _ _ 13_753_920 13_754_460 13_755_360 wednesday_rows (Ok log_drawn) tuesday (omega arith) (omega arith)
    (later_day 13_762_440 4 13_752_480 _ _ _ _ 13_755_360 13_755_900 13_756_800 thursday_rows (Ok log_drawn) wednesday (omega arith) (omega arith)
    (later_day 13_762_440 6 13_752_480 _ _ _ _ 13_756_800 13_757_340 13_758_240 friday_rows (Ok log_drawn) thursday (omega arith) (omega arith)
    (later_day 13_762_440 8 13_752_480 _ _ _ _ 13_758_240 13_758_780 13_762_440 [] (Ok log_drawn) friday (omega arith) (omega arith) refl))))

-- ---- the text

-- the records of the text: the header, and the rows of the week
week_records : records default_config (strip_bom log_made) ≡ header ∷ monday_rows
unfolding csv_on_literals
week_records = refl

-- the log's text says the log of that week
pub log_says : ReadsLog log_made us 13_762_440 (Ok log_drawn)
log_says = inr (omega arith, rw week_records (inl (refl, week_says)))
