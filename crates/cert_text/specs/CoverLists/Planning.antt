-- The search problem of a tour and a book, by a bound on its labels.
use Rattle.std.specs.Prelude.{ℕ, ◌+◌, ◌*◌, List, Option}
use Rattle.duty_core.specs.declared.activity.Activity.{Activity}
use Rattle.duty_core.specs.declared.mark.Mark.{Mark}
use Rattle.duty_core.specs.Params.{unit_minutes}
use Rattle.rule_core.specs.Reach.{idle_list}
use Rattle.rule_core.specs.Machine.{Machine, LeadsTo}
use Rattle.tour_model.specs.declared.tour.Tour.{Tour}
use Rattle.tour_model.specs.Word.{word_length, may_do, may_idle}
use Rattle.tour_model.specs.Eta.{eta_of}
use Rattle.tour_model.specs.Schedule.{step_units, log_start}
use Rattle.cert_text.specs.CoverLists.Problem.{Problem}

-- the civil minute at which a step of the tour begins
abbrev pub minute_of : Tour → ℕ → ℕ
minute_of tour step = tour.start + tour.grid * step

-- the states of a book at the minute of a step
abbrev pub state_at : {S : Type 0} → Tour → Machine S → S → ℕ → Type 0
state_at tour m s step = m.is_state s (minute_of tour step)

-- What a search knows of the tour and of the book, where a label is pruned by this bound on its step, its progress and its state: steps of the tour's grid, from its start on.
abbrev pub problem_by : {S : Type 0} → Tour → Machine S → (ℕ → ℕ → S → Option ℕ) → Problem S
problem_by tour m bound = record {
  goal = word_length tour;
  may = may_do tour;
  bound = λ step l. bound step l.progress l.state;
  nexts = λ s step x. m.advances s (minute_of tour step) x (step_units tour);
  covers = λ a b step. m.covers a b (minute_of tour step);
  tries = λ s. idle_list (m.idles s);
  may_idle = may_idle tour;
  ahead = m.ahead;
}

-- the earliest end with no rules, which the state does not change
abbrev pub eta_bound : {S : Type 0} → Tour → ℕ → ℕ → S → Option ℕ
eta_bound tour step progress s = eta_of tour step progress

-- The search problem of a tour and a book, where a label is pruned by its earliest end with no rules.
abbrev pub problem_of : {S : Type 0} → Tour → Machine S → Problem S
problem_of tour m = problem_by tour m (eta_bound tour)

-- The log leads to the state, with some marks.
abbrev pub IsLogState : {S : Type 0} → Tour → List Activity → Machine S → S → Type 0
IsLogState tour log m s = (marks : List Mark) × LeadsTo (unit_minutes tour.params) m (log_start tour log) log marks s
