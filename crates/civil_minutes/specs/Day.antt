-- The days of civil minutes, where each day begins day_start minutes after midnight. Every word here is for day_start below DAY_MINUTES.
use Rattle.std.specs.Prelude.{ℕ, ◌+◌, ◌-◌, ◌/◌, ◌%◌, ℤ, pos, ◌+ℤ◌, ◌-ℤ◌, ◌*ℤ◌}
use Rattle.duty_core.specs.declared.limits.TheConstants.{DAY_MINUTES}

-- the day of a minute: (at - day_start) / DAY_MINUTES rounded down, which is never below -1. It is counted from the beginning of day -1, so that no minute lies before.
abbrev pub day_of_minute : ℕ → ℕ → ℤ
day_of_minute at day_start = pos ((at + (DAY_MINUTES - day_start)) / DAY_MINUTES) -ℤ pos 1

-- the minutes of its day that lie before a minute, from 0 to 1439
abbrev pub minute_in_day : ℕ → ℕ → ℕ
minute_in_day at day_start = (at + (DAY_MINUTES - day_start)) % DAY_MINUTES

-- the civil minute at which a day begins
abbrev pub first_of_day : ℤ → ℕ → ℤ
first_of_day day day_start = day *ℤ pos DAY_MINUTES +ℤ pos day_start
