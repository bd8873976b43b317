-- Schedules of a tour: a list of activities, one for each step from the start.
use Rattle.std.specs.Prelude.{◌≡◌, ℕ, ◌+◌, ◌-◌, ◌*◌, ◌/◌, ◌≤◌, true, List, [], ◌∷◌, ◌++◌, length, filter, flat_map, replicate, All, Option, None, Some, unwrap_or, if◌then◌else◌}
use Rattle.duty_core.specs.declared.activity.Activity.{Activity}
use Rattle.duty_core.specs.declared.activity.Activity.TheVariants.{Drive, Serve}
use Rattle.duty_core.specs.declared.mark.Mark.{Mark}
use Rattle.duty_core.specs.Params.{allows, unit_minutes}
use Rattle.duty_core.specs.Lawful.{IsLawful, IsLawfulWith}
use Rattle.tour_model.specs.declared.stop.Stop.{Stop}
use Rattle.tour_model.specs.declared.tour.Tour.{Tour}
use Rattle.tour_model.specs.Window.{is_open}
use Rattle.tour_model.specs.Way.{progresses}

-- The activities, the first of which is at this step, serve a stop and leave `after` for the others:
-- first a part in which exactly the stop's driving is done, and then its service without a break, which begins within a window.
pub record ServesStop (step : ℕ) (stop : Stop) (xs before after : List Activity) : Type 0 where
  pub whole : xs ≡ before ++ (replicate stop.service Serve ++ after)
  pub driving : filter progresses before ≡ replicate stop.drive Drive
  pub opens : is_open stop.windows (step + length before) ≡ true

-- The activities, the first of which is at this step, serve the stops one after the other, and nothing is left.
abbrev pub ServesFrom : ℕ → List Stop → List Activity → Type 0
ServesFrom step [] xs = xs ≡ []
ServesFrom step (s ∷ stops) xs = (before : List Activity) × (after : List Activity) × ServesStop step s xs before after × ServesFrom (step + length before + s.service) stops after

-- The schedule serves the tour, with activities that its book allows in a schedule.
pub record ServesTour (tour : Tour) (schedule : List Activity) : Type 0 where
  pub stops : ServesFrom 0 tour.stops schedule
  pub usable : All (λ x. allows tour.params x ≡ true) schedule

-- the units of a schedule, each step of which stands for so many
abbrev pub units_of : ℕ → List Activity → List Activity
units_of each schedule = flat_map (λ x. replicate each x) schedule

-- the number of units of a step
abbrev pub step_units : Tour → ℕ
step_units tour = tour.grid / unit_minutes tour.params

-- the first step of driving or service, counted from n
abbrev pub depart_from : ℕ → List Activity → Option ℕ
depart_from n [] = None
depart_from n (x ∷ xs) = if progresses x then Some n else depart_from (n + 1) xs

-- the steps from the departure on
abbrev pub duration : List Activity → ℕ
duration schedule = length schedule - unwrap_or (depart_from 0 schedule) 0

-- the log, whose last unit ends where the tour starts, and after it the schedule
abbrev pub history_of : Tour → List Activity → List Activity → List Activity
history_of tour log schedule = log ++ units_of (step_units tour) schedule

-- the civil minute at which the log begins
abbrev pub log_start : Tour → List Activity → ℕ
log_start tour log = tour.start - unit_minutes tour.params * length log

-- a schedule that serves the tour, and whose history after the log is lawful
pub record IsSolution (tour : Tour) (log schedule : List Activity) : Type 0 where
  pub serves : ServesTour tour schedule
  pub lawful : IsLawful tour.params (log_start tour log) (history_of tour log schedule)

-- It is lawful with these marks.
pub record IsSolutionWith (tour : Tour) (log schedule : List Activity) (marks : List Mark) : Type 0 where
  pub serves : ServesTour tour schedule
  pub lawful : IsLawfulWith tour.params (log_start tour log) (history_of tour log schedule) marks

-- a solution than which none is shorter
pub record IsShortest (tour : Tour) (log schedule : List Activity) : Type 0 where
  pub solves : IsSolution tour log schedule
  pub least : (other : List Activity) → IsSolution tour log other → duration schedule ≤ duration other

-- There is no solution.
abbrev pub IsInfeasible : Tour → List Activity → Type 0
IsInfeasible tour log = (schedule : List Activity) → IsSolution tour log schedule → ⊥
