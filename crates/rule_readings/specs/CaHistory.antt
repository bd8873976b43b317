-- The padded histories that the Canadian rules are asked of.
use Rattle.std.specs.Prelude.{◌≡◌, ℕ, ◌≤◌, List}
use Rattle.duty_core.specs.declared.activity.Activity.{Activity}
use Rattle.duty_core.specs.declared.params.Params.{Params}
use Rattle.duty_core.specs.declared.limits.TheConstants.{DAY_MINUTES, MINUTE_LIMIT}
use Rattle.duty_core.specs.Params.{unit_minutes}
use Rattle.duty_core.specs.Day.{day_start}
use Rattle.duty_core.specs.History.{padded}

-- the rules of a day can be asked: a unit is a minute, and the minutes of the history are numbers that fit
pub record IsByMinutes (params : Params) (first : ℕ) : Type 0 where
  pub units : unit_minutes params ≡ 1
  pub start : day_start params ≤ DAY_MINUTES
  pub early : first ≤ MINUTE_LIMIT

-- p is a padded history
pub record IsPadded (params : Params) (p : List Activity) : Type 0 where
  pub history : List Activity
  pub made : p ≡ padded params history
