-- What is kept along the rows of a log, and how the reading of the rows that are left gives that of all.
use Rattle.std.proofs.Common.{◌≡◌, ℕ, ◌+◌, ◌-◌, ◌*◌, ◌/◌, ◌%◌, ◌<◌, ◌≤◌, true, List, [], ◌∷◌, ◌++◌, length, Option, Some, None, Result, Ok, Err, refl, arith, length-append}
use Rattle.std.specs.Prelude.{replicate}
use Rattle.std.proofs.lemmas.Bool.Decides.{nat_tests}
use Rattle.std.proofs.lemmas.List.{length-replicate}
use Rattle.duty_core.specs.declared.activity.Activity.{Activity}
use Rattle.duty_core.specs.declared.limits.TheConstants.{LONGEST_HISTORY}
use Rattle.duty_core.specs.declared.params.Params.{Params}
use Rattle.duty_core.specs.Params.{BookUnit, InMinutes, InQuarters, minutes_in, terms_of, unit_minutes}
use Rattle.duty_log.specs.declared.fault.LogFault.{LogFault}
use Rattle.duty_core.specs.declared.limits.TheConstants.{LONGEST_LOG}
use Rattle.duty_log.specs.declared.row.Row.{Row}
use Rattle.duty_log.specs.declared.row.Span.{Span}
use Rattle.duty_log.specs.Log.{at_start, thereafter, ends_at, first_of, EndsAt, Place, ReadsRow, ReadsRows}
use Rattle.duty_log.proofs.RowFacts.{IsNext}

-- What rows that span these minutes keep: each has a minute, they are not too long, and their units fill them.
pub record Fills (params : Params) (rows : ℕ) (span : Span) (units : List Activity) : Type 0 where
  pub counted : rows + span.from ≤ span.to
  pub short : span.to ≤ span.from + LONGEST_LOG
  pub filled : unit_minutes params * length units + span.from ≡ span.to

abbrev pub IsSound : Params → ℕ → Option Span → List Activity → Type 0
IsSound params rows None units = (rows ≡ 0) × (units ≡ [])
IsSound params rows (Some span) units = Fills params rows span units

-- so many units are few
few : (u : BookUnit) (from to n : ℕ) → minutes_in u * n + from ≡ to → to ≤ from + LONGEST_LOG → n ≤ LONGEST_LOG
few InMinutes from to n e short = omega arith
few InQuarters from to n e short = omega arith

-- the units of a row fill its minutes
row_filled : (u : BookUnit) (from to : ℕ) → from < to → from % minutes_in u ≡ 0 → to % minutes_in u ≡ 0 → minutes_in u * ((to - from) / minutes_in u) + from ≡ to
row_filled InMinutes from to some a b = omega arith
row_filled InQuarters from to some a b = omega arith

-- and those of the rows before with them fill all
all_filled : (u : BookUnit) (n k first from to : ℕ) → minutes_in u * n + first ≡ from → minutes_in u * k + from ≡ to → minutes_in u * (n + k) + first ≡ to
all_filled InMinutes n k first from to a b = omega arith
all_filled InQuarters n k first from to a b = omega arith

-- What is true after a row that may stand there.
pub record StaysSound (params : Params) (rows : ℕ) (before : Option Span) (units : List Activity) (row : Row) : Type 0 where
  pub sound : Fills params (rows + 1) (record { from = first_of before row.from; to = row.to }) (units ++ replicate ((row.to - row.from) / unit_minutes params) row.act)
  pub room : length units + (row.to - row.from) / unit_minutes params ≤ LONGEST_HISTORY

filled_length : (units : List Activity) (n : ℕ) (act : Activity) → length (units ++ replicate n act) ≡ length units + n
filled_length units n act = omega (arith, length-append units (replicate n act), length-replicate n act)

-- where the units fill up to the row's beginning
stays : (params : Params) (rows first : ℕ) (before : Option Span) (units : List Activity) (row : Row)
    → first_of before row.from ≡ first → rows + first ≤ row.from → unit_minutes params * length units + first ≡ row.from → IsNext params before row → StaysSound params rows before units row
stays params rows first before units row first_is counted filled h =
    let n : ℕ = (row.to - row.from) / unit_minutes params in
    let here = row_filled (terms_of params).unit row.from row.to h.some h.begins h.ends in
    let all = all_filled (terms_of params).unit (length units) n first row.from row.to filled here in
    let some = h.some in
    let short = h.short in
    let count = filled_length units n row.act in
    let close : row.to ≤ first + LONGEST_LOG = omega arith in
    let total : unit_minutes params * length (units ++ replicate n row.act) + first ≡ row.to = rw count all in
    record {
      sound = rw first_is record { counted = omega arith; short = close; filled = total };
      room = (let least = few (terms_of params).unit first row.to (length units + n) all close in omega arith);
    }

none_filled : (params : Params) (from : ℕ) → unit_minutes params * 0 + from ≡ from
none_filled params from = omega arith

pub stays_sound : (params : Params) (rows : ℕ) (before : Option Span) (units : List Activity) (row : Row) → IsSound params rows before units → IsNext params before row → StaysSound params rows before units row
stays_sound params rows None units row sound h =
    stays params rows row.from None units row refl (omega arith) (rw sound.1 (none_filled params row.from)) h
stays_sound params rows (Some span) units row sound h =
    let joins : row.from ≡ span.to = grind (arith, nat_tests, h.follows) in
    stays params rows span.from (Some span) units row refl (let counted = sound.counted in omega arith) (rw joins sound.filled) h

-- there are fewer rows than minutes
pub few_rows : (params : Params) (rows : ℕ) (before : Option Span) (units : List Activity) → IsSound params rows before units → rows ≤ LONGEST_LOG
few_rows params rows None units sound = omega arith
few_rows params rows (Some span) units sound = let a = sound.counted in let b = sound.short in omega arith

none_back : (params : Params) (start : ℕ) (units : List Activity) → units ≡ [] → EndsAt params start units
none_back params start units none = rw none record { back = omega arith; short = omega arith }

-- what was read up to the minute ends there
pub sound_ends : (params : Params) (rows start : ℕ) (before : Option Span) (units : List Activity) → IsSound params rows before units → ends_at before start ≡ true → EndsAt params start units
sound_ends params rows start None units sound there = none_back params start units sound.1
sound_ends params rows start (Some span) units sound there =
    let at : span.to ≡ start = grind (arith, nat_tests, there) in
    let short = sound.short in
    let filled = sound.filled in
    record { back = omega arith; short = omega arith }

-- ---- the rows that are left

-- What the rows that are left read as is what all of them do.
abbrev pub Continues : Params → ℕ → Place → List (List (List ℕ)) → List (List (List ℕ)) → Type 0
Continues params start place left all = (answer : Result (List Activity) LogFault) → ReadsRows params start place left answer → ReadsRows params start at_start all answer

-- a row that was read
pub continues_after : (params : Params) (start : ℕ) (place : Place) (first : List (List ℕ)) (left later all : List (List (List ℕ))) (row : Row)
    → left ≡ first ∷ later → ReadsRow params (place.rows + 1) place.span first (Ok row) → Continues params start place left all → Continues params start (thereafter params place row) later all
continues_after params start place first left later all row is told more answer h = more answer (rw is (Ok row, told, h))

-- a row with a fault
pub continues_fault : (params : Params) (start : ℕ) (place : Place) (first : List (List ℕ)) (left later all : List (List (List ℕ))) (fault : LogFault)
    → left ≡ first ∷ later → ReadsRow params (place.rows + 1) place.span first (Err fault) → Continues params start place left all → ReadsRows params start at_start all (Err fault)
continues_fault params start place first left later all fault is told more = more (Err fault) (rw is (Err fault, told, refl))
