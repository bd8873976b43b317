-- What is counted at units of driving of a padded history p. `day` tells the number of the day of each place.
use Rattle.std.specs.Prelude.{◌≡◌, ℕ, ◌+◌, ◌<◌, List}
use Rattle.duty_core.specs.declared.activity.Activity.{Activity}
use Rattle.duty_core.specs.declared.activity.Activity.TheVariants.{Drive}
use Rattle.duty_core.specs.History.{unit_at}
use Rattle.duty_core.specs.Day.{IsFirstOfDays}
use Rattle.duty_core.specs.Counting.{driving, duty, IsLastEnd, IsDaysBase}
use Rattle.duty_core.specs.Base.{IsBase, elapsed}
use Rattle.duty_core.specs.UsRules.{IsLastBreak}
use Rattle.rule_readings.specs.declared.measure.Since.{Since}
use Rattle.rule_readings.specs.declared.measure.Since.TheVariants.{Base, Break, Day, Days, Rest}
use Rattle.rule_readings.specs.declared.measure.Amount.{Amount}
use Rattle.rule_readings.specs.declared.measure.Amount.TheVariants.{Driving, Duty, Time, TimeBefore}

-- days that are counted are some
abbrev pub HasDays : Since → Type 0
HasDays (Days days restart) = 0 < days
HasDays _ = Unit {0}

-- at place i is counted from place `from`, and time omits so many units
abbrev pub CountsFrom : Since → (ℕ → ℕ) → List Activity → (ℕ → Type 0) → ℕ → ℕ → ℕ → Type 0
CountsFrom (Base full) day p Marked i from omitted = IsBase full p Marked i from omitted
CountsFrom Break day p Marked i from omitted = IsLastBreak p i from × (omitted ≡ 0)
CountsFrom Day day p Marked i from omitted = IsFirstOfDays day 1 i from × (omitted ≡ 0)
CountsFrom (Days days restart) day p Marked i from omitted = IsDaysBase day days restart p i from × (omitted ≡ 0)
CountsFrom (Rest least) day p Marked i from omitted = IsLastEnd least p i from × (omitted ≡ 0)

-- how much is counted from there up to place i
abbrev pub amount_of : Amount → List Activity → ℕ → ℕ → ℕ → ℕ
amount_of Driving p from omitted i = driving p from (i + 1)
amount_of Duty p from omitted i = duty p from (i + 1)
amount_of Time p from omitted i = elapsed from omitted (i + 1)
amount_of TimeBefore p from omitted i = elapsed from omitted i

-- so much is counted at the unit of driving at place i
pub record IsCountAt (amount : Amount) (since : Since) (day : ℕ → ℕ) (p : List Activity) (Marked : ℕ → Type 0) (i n : ℕ) : Type 0 where
  pub drive : unit_at p i ≡ Drive
  pub from : ℕ
  pub omitted : ℕ
  pub found : CountsFrom since day p Marked i from omitted
  pub counted : n ≡ amount_of amount p from omitted i
