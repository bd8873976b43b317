-- What is counted of Australia's periods, as facts of a padded history p. A unit is a quarter of an hour.
use Rattle.std.specs.Prelude.{ℕ, ◌+◌, ◌-◌, ◌≤◌, List, Option, MatchOption}
use Rattle.duty_core.specs.declared.activity.Activity.{Activity}
use Rattle.duty_core.specs.declared.limits.TheConstants.{AU_SHORT_START, AU_LONG_START}
use Rattle.duty_core.specs.Stretch.{IsRest, HoldsRest}
use Rattle.duty_core.specs.AuPeriods.{IsLongStart}
use Rattle.rule_readings.specs.declared.au_periods.Start.{Start}
use Rattle.rule_readings.specs.declared.au_periods.Start.TheVariants.{Short, Long}

-- the rest before a start of this kind
abbrev pub rest_of : Start → ℕ
rest_of Short = AU_SHORT_START
rest_of Long = AU_LONG_START

-- of the last `most` units before a place, just the last n are the rest that it follows
pub record IsRestBefore (p : List Activity) (place most n : ℕ) : Type 0 where
  pub bound : n ≤ most
  pub there : n ≤ place
  pub rest : IsRest p (place - n) place
  pub longest : (from : ℕ) → IsRest p from place → place ≤ from + most → place ≤ from + n

-- of the first `most` units from a place on, just the first n are the rest that begins there
pub record IsRestAfter (p : List Activity) (place most n : ℕ) : Type 0 where
  pub bound : n ≤ most
  pub rest : IsRest p place (place + n)
  pub longest : (to : ℕ) → IsRest p place to → to ≤ place + most → to ≤ place + n

-- the longest stretch of rest from place `from` up to place `to` has n units
pub record IsLongestRest (p : List Activity) (from to n : ℕ) : Type 0 where
  pub held : HoldsRest n p from to
  pub longest : (m : ℕ) → HoldsRest m p from to → m ≤ n

-- The count at a long start, which is right, and none elsewhere.
abbrev pub IsAtLongStart : {X : Type 0} → (X → Type 0) → List Activity → ℕ → Option X → Type 0
IsAtLongStart IsCount p i result = MatchOption result (¬ IsLongStart p i) (λ count. IsLongStart p i × IsCount count)
