-- What is counted of Australia's nights, as facts of a padded history p.
use Rattle.std.specs.Prelude.{◌↔◌, ℕ, ◌+◌, ◌<◌, ◌≤◌, List, IsTrue}
use Rattle.duty_core.specs.declared.activity.Activity.{Activity}
use Rattle.duty_core.specs.declared.params.Params.TheVariants.{Hvnl}
use Rattle.duty_core.specs.declared.limits.TheConstants.{AU_NIGHT_LONG_REST}
use Rattle.duty_core.specs.Params.{day_units}
use Rattle.duty_core.specs.AuNights.{IsMidnight, HasNights, HasTwoNights}
use Rattle.rule_readings.specs.declared.au_nights.Nights.{Nights}

-- So much rest right before and right after a midnight holds the unit before and the unit after it, and is twenty-four hours together.
pub record IsLongAcross (before after : ℕ) : Type 0 where
  pub some_before : 0 < before
  pub some_after : 0 < after
  pub long : AU_NIGHT_LONG_REST ≤ before + after

-- place m is the first midnight at place i or after
pub record IsNextMidnight (first i m : ℕ) : Type 0 where
  pub midnight : IsMidnight first m
  pub after : i ≤ m
  pub near : m < i + day_units Hvnl

-- Of the nights of the n units from place i on, this many have a break, and no more, and this tells whether some two consecutive ones have one each.
pub record AreNights (first : ℕ) (p : List Activity) (i n : ℕ) (nights : Nights) : Type 0 where
  pub broken : HasNights nights.broken first p i n
  pub most : (least : ℕ) → HasNights least first p i n → least ≤ nights.broken
  pub consecutive : IsTrue nights.consecutive ↔ HasTwoNights first p i n
