-- A history, and the long rest that stands before and after it.
use Rattle.std.specs.Prelude.{ℕ, ◌+◌, ◌*◌, ◌<◌, ◌≤◌, List, ◌++◌, length, take, drop, replicate, slice_index_or}
use Rattle.duty_core.specs.declared.activity.Activity.{Activity}
use Rattle.duty_core.specs.declared.activity.Activity.TheVariants.{Off}
use Rattle.duty_core.specs.declared.params.Params.{Params}
use Rattle.duty_core.specs.declared.limits.TheConstants.{LONGEST_HISTORY, MINUTE_LIMIT, PADDING_DAYS}
use Rattle.duty_core.specs.Params.{unit_minutes, day_units, BeginsUnit}

-- how many days of rest stand before and after a history
unfoldable pub pad_days : ℕ
pad_days = PADDING_DAYS

abbrev pub pad_units : Params → ℕ
pad_units params = pad_days * day_units params

abbrev pub padding : Params → List Activity
padding params = replicate (pad_units params) Off

-- a history as the rules see it
abbrev pub padded : Params → List Activity → List Activity
padded params h = (padding params ++ h) ++ padding params

-- the unit at a place, and rest past the end
abbrev pub unit_at : List Activity → ℕ → Activity
unit_at p i = slice_index_or p i Off

-- the units from place `from` up to place `to`, without `to`
abbrev pub between : List Activity → ℕ → ℕ → List Activity
between p from to = drop from (take to p)

-- A book's rules may be asked of a history that begins at this minute.
pub record IsTimed (params : Params) (first : ℕ) (h : List Activity) : Type 0 where
  pub begins : BeginsUnit params first
  pub long : length h ≤ LONGEST_HISTORY
  pub ends : first + unit_minutes params * length h < MINUTE_LIMIT
