-- The graph of a history that begins at the minute `first`: for each day a line of its first minute, and rows of cells.
use Rattle.std.specs.Prelude.{ℕ, ◌+◌, ◌-◌, ◌*◌, ◌/◌, Bool, false, not, ◌&&◌, nat_lt, ◌==◌, if◌then◌else◌, List, [], ◌∷◌, ◌++◌, length, map, flat_map, codes}
use Rattle.std.specs.List.{range_with_len}
use Rattle.civil_minutes.specs.Day.{minute_in_day}
use Rattle.duty_core.specs.declared.activity.Activity.{Activity}
use Rattle.duty_core.specs.declared.limits.TheConstants.{DAY_MINUTES}
use Rattle.duty_core.specs.declared.params.Params.{Params}
use Rattle.duty_core.specs.declared.params.Params.TheVariants.{UsProperty, Canada, Hvnl}
use Rattle.duty_core.specs.Activity.{drives, works, rests}
use Rattle.duty_core.specs.Counting.{places}
use Rattle.duty_core.specs.Day.{day_start}
use Rattle.duty_core.specs.History.{unit_at}
use Rattle.duty_core.specs.Params.{unit_minutes}
use Rattle.timeline.specs.Kinds.{sleeps}
use Rattle.text_parts.specs.Parts.{Part, Said, Time, IsText, total_text}
use Rattle.log_graph.specs.declared.cells.TheConstants.{CELLS, CELL_MINUTES}
use Rattle.log_graph.specs.declared.status.Status.{Status}
use Rattle.log_graph.specs.declared.status.Status.TheVariants.{OffDuty, Sleeper, Driving, OnDuty, Rest, Work}

-- ---- statuses

-- the name of a status, in four places
abbrev pub status_name : Status → List ℕ
status_name OffDuty = codes "OFF "
status_name Sleeper = codes "SB  "
status_name Driving = codes "D   "
status_name OnDuty = codes "ON  "
status_name Rest = codes "REST"
status_name Work = codes "WORK"

-- whether an activity is of the status
abbrev pub shows : Status → Activity → Bool
shows OffDuty act = rests act && not (sleeps act)
shows Sleeper act = sleeps act
shows Driving act = drives act
shows OnDuty act = works act && not (drives act)
shows Rest act = rests act
shows Work act = works act

-- the statuses that the graph of a book has rows for
abbrev pub statuses_of : Params → List Status
statuses_of (UsProperty berth days start) = OffDuty ∷ Sleeper ∷ Driving ∷ OnDuty ∷ []
statuses_of (Canada berth way cycle start) = OffDuty ∷ Sleeper ∷ Driving ∷ OnDuty ∷ []
statuses_of Hvnl = Rest ∷ Work ∷ []

-- ---- minutes

-- whether a civil minute is one of the history h, and of this status
abbrev pub is_shown : Params → ℕ → List Activity → Status → ℕ → Bool
is_shown params first h status at =
    if nat_lt at first then false
    else (nat_lt ((at - first) / unit_minutes params) (length h) && shows status (unit_at h ((at - first) / unit_minutes params)))

-- how many of the n civil minutes from one on are minutes of the history with this status
unfoldable pub minutes_shown : Params → ℕ → List Activity → Status → ℕ → ℕ → ℕ
minutes_shown params first h status from n = places (λ k. is_shown params first h status (from + k)) n

-- ---- rows

-- the cell of a quarter of an hour with so many minutes of the status: none, all, or some
abbrev pub cell : ℕ → ℕ
cell minutes = if minutes == 0 then 46 else if minutes == CELL_MINUTES then 35 else 43

-- a cell for each quarter of an hour from the day's first minute on
unfoldable pub cells : Params → ℕ → List Activity → ℕ → Status → List ℕ
cells params first h day status =
    map (λ (quarter : ℕ). cell (minutes_shown params first h status (day + CELL_MINUTES * quarter) CELL_MINUTES)) (range_with_len 0 CELLS)

-- the name of the status, its cells, and its minutes in the day
unfoldable pub row_text : Params → ℕ → List Activity → ℕ → Status → List ℕ
row_text params first h day status =
    status_name status ++ codes " " ++ cells params first h day status ++ codes " " ++ total_text (minutes_shown params first h status day DAY_MINUTES) ++ codes "\n"

-- the rows of a day
abbrev pub row_lines : Params → ℕ → List Activity → ℕ → List Part
row_lines params first h day = map (λ (status : Status). Said (row_text params first h day status)) (statuses_of params)

-- ---- days

-- the line of a day's first minute, and the day's rows
abbrev pub day_lines : Params → ℕ → List Activity → ℕ → List Part
day_lines params first h day = Said (codes "day ") ∷ Time day ∷ Said (codes "\n") ∷ row_lines params first h day

-- the first minute of the day that holds a civil minute
abbrev pub day_begin : Params → ℕ → ℕ
day_begin params at = at - minute_in_day at (day_start params)

-- the number of days from that of the first unit up to that of the last
abbrev pub count_days : Params → ℕ → List Activity → ℕ
count_days params first h =
    if length h == 0 then 0 else (first + unit_minutes params * length h - day_begin params first + (DAY_MINUTES - 1)) / DAY_MINUTES

-- the first minutes of the days that hold a unit of the history, in order
abbrev pub days_of : Params → ℕ → List Activity → List ℕ
days_of params first h = map (λ (day : ℕ). day_begin params first + DAY_MINUTES * day) (range_with_len 0 (count_days params first h))

-- the lines of each day
abbrev pub graph_lines : Params → ℕ → List Activity → List Part
graph_lines params first h = flat_map (day_lines params first h) (days_of params first h)

-- The text is the graph of the history h, which begins at the minute `first`.
abbrev pub IsGraph : Params → ℕ → List Activity → List ℕ → Type 0
IsGraph params first h text = IsText (graph_lines params first h) text
