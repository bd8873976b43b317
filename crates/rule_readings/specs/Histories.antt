-- What a history with its marks tells of its places.
use Rattle.std.specs.Prelude.{ℕ}
use Rattle.duty_core.specs.Day.{day_number}
use Rattle.duty_core.specs.Marks.{IsSplitAt}
use Rattle.rule_readings.specs.declared.history.History.{History}

-- a mark names the rest run that begins at the place
abbrev pub IsMarkedIn : History → ℕ → Type 0
IsMarkedIn h = IsSplitAt h.scope.params h.scope.first h.marks.now

-- the number of the day of the place
abbrev pub day_in : History → ℕ → ℕ
day_in h = day_number h.scope.params h.scope.first
