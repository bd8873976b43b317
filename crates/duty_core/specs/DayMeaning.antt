-- What the number of a day means, and the duty of a day so far.
use Rattle.std.specs.Prelude.{◌≡◌, ℕ, ◌+◌, cond, List, ℤ, pos, ◌+ℤ◌, ◌*ℤ◌, ◌≤ℤ◌, ◌<ℤ◌}
use Rattle.duty_core.specs.declared.activity.Activity.{Activity}
use Rattle.duty_core.specs.declared.limits.TheConstants.{DAY_MINUTES}
use Rattle.duty_core.specs.Activity.{works}
use Rattle.duty_core.specs.Day.{IsFirstOfDays}
use Rattle.duty_core.specs.Counting.{duty}

-- The day of this date begins at this minute, so many minutes after midnight.
abbrev pub BeginsDay : ℕ → ℤ → ℤ → Type 0
BeginsDay start date minute = minute ≡ (date *ℤ pos DAY_MINUTES) +ℤ pos start

-- The minute lies in the day of this date: that day has begun, and the next one has not.
pub record LiesInDay (start : ℕ) (date minute : ℤ) : Type 0 where
  pub begun : ((date *ℤ pos DAY_MINUTES) +ℤ pos start) ≤ℤ minute
  pub before_next : minute <ℤ (((date +ℤ pos 1) *ℤ pos DAY_MINUTES) +ℤ pos start)

-- The day of place i has so much duty up to that place, which is counted.
pub record HasDayDuty (day : ℕ → ℕ) (p : List Activity) (i n : ℕ) : Type 0 where
  pub from : ℕ
  pub first : IsFirstOfDays day 1 i from
  pub counted : duty p from (i + 1) ≡ n

-- the duty of one unit
abbrev pub duty_of : Activity → ℕ
duty_of x = cond (works x) 1 0
