-- The report of a schedule: its duration and times, a line for each of its runs, each of its marks and each rule, and the graph.
use Rattle.std.specs.Prelude.{ℕ, ◌+◌, ◌*◌, nat_abs, Bool, true, false, List, [], ◌∷◌, ◌++◌, length, codes, Option, None, Some, slice_get, unwrap_or, ◌==◌, ◌&&◌, if◌then◌else◌}
use Rattle.duty_core.specs.declared.activity.Activity.{Activity}
use Rattle.duty_core.specs.declared.activity.Activity.TheVariants.{Drive, Serve, Wait, Off, Berth}
use Rattle.duty_core.specs.declared.mark.Mark.{Mark}
use Rattle.duty_core.specs.declared.params.Params.{Params}
use Rattle.duty_core.specs.declared.rule.Rule.{Rule}
use Rattle.duty_core.specs.Marks.{mark_minute}
use Rattle.duty_core.specs.RuleNames.{rule_name}
use Rattle.std.specs.Fmt.{decimal}
use Rattle.cert_text.specs.Text.Reading.{same_act}
use Rattle.tour_model.specs.declared.piece.Piece.{Piece}
use Rattle.tour_model.specs.declared.piece.Piece.TheVariants as piece
use Rattle.tour_model.specs.declared.schedule.Schedule.{Schedule}
use Rattle.tour_model.specs.declared.stop.Stop.{Stop}
use Rattle.tour_model.specs.declared.tour.Tour.{Tour}
use Rattle.tour_model.specs.Schedule.{depart_from, duration, history_of, log_start}
use Rattle.rule_readings.specs.declared.reading.Reading.{Reading}
use Rattle.rule_readings.specs.Readings.{AreReadings}
use Rattle.log_graph.specs.Graph.{graph_lines}
use Rattle.tour_model.specs.Way.{progresses, done}
use Rattle.tour_model.specs.Word.{next_piece}
use Rattle.report_text.specs.declared.runs.Doing.{Doing}
use Rattle.cert_text.specs.Text.Spelling.{mark_word}
use Rattle.text_parts.specs.Parts.{Part, Said, Time, IsText, clock_text}

-- ---- what each step does

-- the number of the stop that a piece is for
abbrev pub stop_of : Option Piece → Option ℕ
stop_of None = None
stop_of (Some (piece.Drive stop)) = Some stop
stop_of (Some (piece.Serve stop first)) = Some stop

-- what a step of this activity does after so much progress: driving and service are for the stop of the next piece
abbrev pub doing_at : Tour → ℕ → Activity → Doing
doing_at tour progress act = record { act = act; stop = if progresses act then stop_of (next_piece tour progress) else None }

-- what the steps do, where so much is done before them
abbrev pub doings : Tour → ℕ → List Activity → List Doing
doings tour progress [] = []
doings tour progress (act ∷ acts) = doing_at tour progress act ∷ doings tour (done progress act) acts

-- ---- runs

-- whether two numbers of stops are the same
abbrev pub same_stop : Option ℕ → Option ℕ → Bool
same_stop None None = true
same_stop (Some a) (Some b) = a == b
same_stop _ _ = false

-- whether two steps do the same for the same stop
abbrev pub same : Doing → Doing → Bool
same a b = same_act a.act b.act && same_stop a.stop b.stop

-- a run of so many steps that do the same
pub record Run : Type 0 where
  pub count : ℕ
  pub doing : Doing

-- the runs with one step before them, which is of the first run where it does the same
abbrev pub runs_with : Doing → List Run → List Run
runs_with x [] = record { count = 1; doing = x } ∷ []
runs_with x (run ∷ runs) =
    if same x run.doing then (record { count = run.count + 1; doing = x } ∷ runs) else (record { count = 1; doing = x } ∷ (run ∷ runs))

-- the runs of steps, each as long as it can be
abbrev pub runs_of : List Doing → List Run
runs_of [] = []
runs_of (x ∷ xs) = runs_with x (runs_of xs)

-- ---- lines

-- the word of an activity
abbrev pub act_word : Activity → List ℕ
act_word Drive = codes "DRIVE"
act_word Serve = codes "SERVE"
act_word Wait = codes "WAIT"
act_word Off = codes "OFF"
act_word Berth = codes "SB"

-- the name of a stop, and `-` for none
abbrev pub name_of : Option Stop → List ℕ
name_of None = codes "-"
name_of (Some stop) = stop.name

-- the stop of this number, where there is one
abbrev pub stop_at : List Stop → Option ℕ → Option Stop
stop_at stops None = None
stop_at stops (Some number) = slice_get stops number

-- `WORD NAME`
abbrev pub doing_text : Tour → Doing → List ℕ
doing_text tour doing = act_word doing.act ++ codes " " ++ name_of (stop_at tour.stops doing.stop)

-- the civil minute at which a step begins
abbrev pub minute_of : Tour → ℕ → ℕ
minute_of tour step = tour.start + tour.grid * step

-- `FROM TO WORD NAME` of steps from one up to another
abbrev pub run_line : Tour → ℕ → ℕ → Doing → List Part
run_line tour from to doing =
    Time (minute_of tour from) ∷ Said (codes " ") ∷ Time (minute_of tour to) ∷ Said (codes " ") ∷ Said (doing_text tour doing) ∷ Said (codes "\n") ∷ []

-- a line for each of the runs, the first of which begins at this step
abbrev pub run_lines : Tour → ℕ → List Run → List Part
run_lines tour from [] = []
run_lines tour from (run ∷ runs) = run_line tour from (from + run.count) run.doing ++ run_lines tour (from + run.count) runs

-- the step of the departure
abbrev pub departure : List Activity → ℕ
departure schedule = unwrap_or (depart_from 0 schedule) 0

-- `shortest D from F to T`: the duration, the time of the departure, and the end
abbrev pub head_line : Tour → List Activity → List Part
head_line tour schedule =
    Said (codes "shortest ") ∷ Said (clock_text (duration schedule * tour.grid)) ∷ Said (codes " from ") ∷ Time (minute_of tour (departure schedule))
    ∷ Said (codes " to ") ∷ Time (minute_of tour (length schedule)) ∷ Said (codes "\n") ∷ []

-- `mark split TIME` of a rest that is split, or `mark defer TIME` of a day that defers rest, each by its first minute
abbrev pub mark_line : Params → Mark → List Part
mark_line params mark = Said (codes "mark ") ∷ Said (mark_word mark) ∷ Time (nat_abs (mark_minute params mark)) ∷ Said (codes "\n") ∷ []

-- a line for each mark
abbrev pub mark_lines : Params → List Mark → List Part
mark_lines params [] = []
mark_lines params (mark ∷ marks) = mark_line params mark ++ mark_lines params marks

-- what a rule counts, of its limit, and when: `USED of LIMIT at TIME`, or `-` where it looks at nothing
abbrev pub found_parts : Option Reading → List Part
found_parts None = Said (codes "-") ∷ []
found_parts (Some reading) = Said (decimal reading.used) ∷ Said (codes " of ") ∷ Said (decimal reading.limit) ∷ Said (codes " at ") ∷ Time reading.at ∷ []

-- the rule's name and what it counts
abbrev pub reading_line : Rule × Option Reading → List Part
reading_line line = Said (rule_name line.0) ∷ Said (codes " ") ∷ (found_parts line.1 ++ Said (codes "\n") ∷ [])

-- a line for each rule
abbrev pub reading_lines : List (Rule × Option Reading) → List Part
reading_lines [] = []
reading_lines (line ∷ lines) = reading_line line ++ reading_lines lines

-- the report of steps and marks after a log, of which the rules count this
abbrev pub report : Tour → List Activity → List Activity → List Mark → List (Rule × Option Reading) → List Part
report tour log schedule marks readings =
    (((head_line tour schedule ++ run_lines tour 0 (runs_of (doings tour 0 schedule))) ++ mark_lines tour.params marks) ++ reading_lines readings)
    ++ graph_lines tour.params (log_start tour log) (history_of tour log schedule)

-- The text is the report of steps and marks of the tour after the log: what the steps do and the marks, what each rule counts in the history of both, and the graph of that history.
pub record IsReportOf (tour : Tour) (log steps : List Activity) (marks : List Mark) (text : List ℕ) : Type 0 where
  pub readings : List (Rule × Option Reading)
  pub counted : AreReadings tour.params (log_start tour log) (history_of tour log steps) (length log) marks readings
  pub told : IsText (report tour log steps marks readings) text

-- The text is the report of a schedule of the tour after the log.
abbrev pub IsReport : Tour → List Activity → Schedule → List ℕ → Type 0
IsReport tour log schedule text = IsReportOf tour log schedule.steps schedule.marks text
