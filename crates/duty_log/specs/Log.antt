-- What a log says: its records are read in order, and the first fault ends the reading.
use Rattle.std.specs.Prelude.{◌≡◌, ◌≢◌, ◌⊎◌, ◌==◌, ◌&&◌, ◌+◌, ◌-◌, ◌*◌, ◌/◌, ◌%◌, ◌<◌, ◌≤◌, nat_le, nat_lt, not, if◌then◌else◌, Bool, true, ℕ, List, [], ◌∷◌, ◌++◌, length, replicate, Option, None, Some, Result, Ok, Err, MatchResult}
use Rattle.csv.specs.Reading.{default_config, records, strip_bom}
use Rattle.civil_minutes.specs.Time.{IsTimeText}
use Rattle.duty_core.specs.declared.activity.Activity.{Activity}
use Rattle.duty_core.specs.declared.params.Params.{Params}
use Rattle.duty_core.specs.Params.{unit_minutes}
use Rattle.duty_log.specs.declared.fault.LogFault.{LogFault}
use Rattle.duty_log.specs.declared.fault.LogFault.TheVariants.{TooBig, BadHeader, NotCsv, BadTime, BadStatus, Empty, Gap, NotOnUnit, TooLong, EndsElsewhere, Memory}
use Rattle.duty_log.specs.declared.read.TheConstants.{LOG_LIMIT}
use Rattle.duty_core.specs.declared.limits.TheConstants.{LONGEST_LOG}
use Rattle.duty_log.specs.declared.row.Row.{Row}
use Rattle.duty_log.specs.declared.row.Span.{Span}
use Rattle.duty_log.specs.Words.{header, activity_of}

-- ---- one row

-- whether a row that begins at this minute leaves no gap after the rows before
abbrev pub follows : Option Span → ℕ → Bool
follows None from = true
follows (Some before) from = from == before.to

-- where the log begins, with a row that begins at this minute after the rows before
abbrev pub first_of : Option Span → ℕ → ℕ
first_of None from = from
first_of (Some before) from = before.from

-- whether a unit of the book begins at the minute: in Australia its minutes are 00, 15, 30 or 45
abbrev pub is_on_unit : Params → ℕ → Bool
is_on_unit params at = at % unit_minutes params == 0

-- the row, or the first fault of its minutes
abbrev pub checked : Params → ℕ → Option Span → Row → Result Row LogFault
checked params number before row =
    if nat_le row.to row.from then Err (Empty number)
    else if not (follows before row.from) then Err (Gap number)
    else if not (is_on_unit params row.from && is_on_unit params row.to) then Err (NotOnUnit number)
    else if nat_lt LONGEST_LOG (row.to - first_of before row.from) then Err (TooLong number)
    else Ok row

-- the row of these minutes, if its status is a word of the book
abbrev pub with_act : Params → ℕ → Option Span → ℕ → ℕ → Option Activity → Result Row LogFault
with_act params number before from to None = Err (BadStatus number)
with_act params number before from to (Some act) = checked params number before (record { act = act; from = from; to = to })

-- the row of these minutes and this status, where the texts of both minutes are times
abbrev pub row_at : Params → ℕ → Option Span → Option ℕ → Option ℕ → List ℕ → Result Row LogFault
row_at params number before None to status = Err (BadTime number)
row_at params number before (Some from) None status = Err (BadTime number)
row_at params number before (Some from) (Some to) status = with_act params number before from to (activity_of params status)

-- the minute that a text stands for, if it is a time
abbrev pub IsTimeOf : List ℕ → Option ℕ → Type 0
IsTimeOf text None = (at : ℕ) → ¬ (IsTimeText text at)
IsTimeOf text (Some at) = IsTimeText text at

-- what three fields read as
pub record ReadsFields (params : Params) (number : ℕ) (before : Option Span) (from to status : List ℕ) (answer : Result Row LogFault) : Type 0 where
  pub begins : Option ℕ
  pub ends : Option ℕ
  pub from_is : IsTimeOf from begins
  pub to_is : IsTimeOf to ends
  pub told : answer ≡ row_at params number before begins ends status

-- what a record reads as: the row of this number, after rows that span `before`
abbrev pub ReadsRow : Params → ℕ → Option Span → List (List ℕ) → Result Row LogFault → Type 0
ReadsRow params number before [] answer = answer ≡ Err (NotCsv number)
ReadsRow params number before (a ∷ []) answer = answer ≡ Err (NotCsv number)
ReadsRow params number before (a ∷ b ∷ []) answer = answer ≡ Err (NotCsv number)
ReadsRow params number before (from ∷ to ∷ status ∷ []) answer = ReadsFields params number before from to status answer
ReadsRow params number before (a ∷ b ∷ c ∷ d ∷ more) answer = answer ≡ Err (NotCsv number)

-- ---- the rows

-- Where the reading stands: how many rows were read, what they span, and their units.
pub record Place : Type 0 where
  pub rows : ℕ
  pub span : Option Span
  pub units : List Activity

-- before the first row
abbrev pub at_start : Place
at_start = record { rows = 0; span = None; units = [] }

-- after one more row
abbrev pub thereafter : Params → Place → Row → Place
thereafter params place row = record {
  rows = place.rows + 1;
  span = Some (record { from = first_of place.span row.from; to = row.to });
  units = place.units ++ replicate ((row.to - row.from) / unit_minutes params) row.act;
}

-- whether the rows end at the tour's start, where there are any
abbrev pub ends_at : Option Span → ℕ → Bool
ends_at None start = true
ends_at (Some span) start = span.to == start

-- what the log is where no row is left
abbrev pub whole : ℕ → Place → Result (List Activity) LogFault
whole start place = if ends_at place.span start then Ok place.units else Err EndsElsewhere

-- what the rows that are left read as
abbrev pub ReadsRows : Params → ℕ → Place → List (List (List ℕ)) → Result (List Activity) LogFault → Type 0
ReadsRows params start place [] answer = answer ≡ whole start place
ReadsRows params start place (first ∷ later) answer =
    (row : Result Row LogFault) × ReadsRow params (place.rows + 1) place.span first row
    × MatchResult row (λ row. ReadsRows params start (thereafter params place row) later answer) (λ fault. answer ≡ Err fault)

-- ---- the log

-- what the records read as, the header first
abbrev pub ReadsRecords : Params → ℕ → List (List (List ℕ)) → Result (List Activity) LogFault → Type 0
ReadsRecords params start [] answer = answer ≡ Err BadHeader
ReadsRecords params start (first ∷ rows) answer =
    ((first ≡ header) × ReadsRows params start at_start rows answer)
    ⊎ ((first ≢ header) × (answer ≡ Err BadHeader))

-- What the bytes of a log read as, for a tour that starts at this minute: the units of what the driver did, or the
-- first fault. The records are those of the bytes as CSV, with no byte order mark at their start.
abbrev pub ReadsLog : List ℕ → Params → ℕ → Result (List Activity) LogFault → Type 0
ReadsLog bytes params start answer =
    ((LOG_LIMIT < length bytes) × (answer ≡ Err TooBig))
    ⊎ ((length bytes ≤ LOG_LIMIT) × ReadsRecords params start (records default_config (strip_bom bytes)) answer)

-- the answer of a read, where memory did not run out
abbrev pub Answers : Result (List Activity) LogFault → Result (List Activity) LogFault → Type 0
Answers result answer = MatchResult result (λ units. answer ≡ Ok units) (λ fault. fault ≢ Memory → answer ≡ Err fault)

-- The units end at the minute, and began no more than the longest log before it.
pub record EndsAt (params : Params) (start : ℕ) (units : List Activity) : Type 0 where
  pub back : unit_minutes params * length units ≤ start
  pub short : unit_minutes params * length units ≤ LONGEST_LOG
