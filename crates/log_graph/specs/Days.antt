-- The days of a book, and those that hold a unit of a history.
use Rattle.std.specs.Prelude.{◌≡◌, ℕ, ◌+◌, ◌*◌, ◌<◌, ◌≤◌, List, length}
use Rattle.duty_core.specs.declared.activity.Activity.{Activity}
use Rattle.duty_core.specs.declared.limits.TheConstants.{DAY_MINUTES}
use Rattle.duty_core.specs.declared.params.Params.{Params}
use Rattle.duty_core.specs.Day.{day_start}
use Rattle.duty_core.specs.Params.{unit_minutes}

-- A day of the book begins at the minute.
pub record BeginsDay (params : Params) (at : ℕ) : Type 0 where
  pub days : ℕ
  pub whole : at ≡ day_start params + DAY_MINUTES * days

-- The day that begins at the minute `day` holds a unit, from its first minute to its last, of the history h, which begins at the minute `first`.
pub record HoldsUnit (params : Params) (first : ℕ) (h : List Activity) (day : ℕ) : Type 0 where
  pub unit : ℕ
  pub there : unit < length h
  pub after : day ≤ first + unit_minutes params * unit
  pub before : first + unit_minutes params * (unit + 1) ≤ day + DAY_MINUTES
