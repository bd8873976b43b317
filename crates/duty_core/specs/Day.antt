-- The minutes and the days of the places of a padded history, whose history begins at the minute `first`.
use Rattle.std.specs.Prelude.{◌≡◌, ℕ, ◌+◌, ◌-◌, ◌*◌, ◌/◌, ◌<◌, ◌≤◌, ℤ, pos, ◌+ℤ◌, ◌-ℤ◌}
use Rattle.duty_core.specs.declared.params.Params.{Params}
use Rattle.duty_core.specs.declared.limits.TheConstants.{DAY_MINUTES}
use Rattle.duty_core.specs.Params.{terms_of, unit_minutes}
use Rattle.duty_core.specs.History.{pad_days, pad_units}

-- how many minutes after midnight a day of the book begins
abbrev pub day_start : Params → ℕ
day_start params = (terms_of params).day_start

-- the civil minute at which place i begins; a place of the padding may lie before year 2000
abbrev pub minute_at : Params → ℕ → ℕ → ℤ
minute_at params first i = pos (first + unit_minutes params * i) -ℤ pos (unit_minutes params * pad_units params)

-- The number of a day: the days of the padding and one more are added, so that each place's day has one. Days follow each other as their numbers do.
abbrev pub IsNumberOfDay : ℤ → ℕ → Type 0
IsNumberOfDay day n = day +ℤ pos (pad_days + 1) ≡ pos n

-- the number of the day of place i
abbrev pub day_number : Params → ℕ → ℕ → ℕ
day_number params first i = (first + unit_minutes params * i + (DAY_MINUTES - day_start params)) / DAY_MINUTES

-- In what follows `day` tells the number of the day of each place.

-- Place d is the first one of the last so many days, the day of place i counted.
pub record IsFirstOfDays (day : ℕ → ℕ) (days i d : ℕ) : Type 0 where
  pub inside : day i < day d + days
  pub first : (k : ℕ) → day i < day k + days → d ≤ k
