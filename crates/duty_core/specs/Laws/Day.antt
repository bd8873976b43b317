-- The minutes and the days of the places of a padded history, whose history begins at the minute `first`.
use Rattle.std.specs.Prelude.{ℕ, ℤ, pos, ◌-ℤ◌}
use Rattle.std.specs.Int.{int_div_euclid}
use Rattle.duty_core.specs.declared.params.Params.{Params}
use Rattle.duty_core.specs.declared.limits.TheConstants.{DAY_MINUTES}
use Rattle.duty_core.specs.Day.{day_start, minute_at}

-- the day of place i: its minute less the day's start, divided by the length of a day and rounded down
abbrev pub day_at : Params → ℕ → ℕ → ℤ
day_at params first i = int_div_euclid (minute_at params first i -ℤ pos (day_start params)) (pos DAY_MINUTES)
