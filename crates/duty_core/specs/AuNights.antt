-- The nights of Australia, from 22:00 of a date to 08:00 of the next, as facts of a padded history p. A unit is a quarter of an hour, and a night is named by the place of its midnight.
use Rattle.std.specs.Prelude.{◌≡◌, ℕ, ◌+◌, ◌<◌, ◌≤◌, ◌⊎◌, ℤ, pos, ◌*ℤ◌, List, length, All}
use Rattle.std.specs.List.Sorted.{IsStrictlyIncreasing}
use Rattle.duty_core.specs.declared.activity.Activity.{Activity}
use Rattle.duty_core.specs.declared.params.Params.TheVariants.{Hvnl}
use Rattle.duty_core.specs.declared.limits.TheConstants.{DAY_MINUTES, AU_14D_PERIOD, AU_14D_NIGHTS, AU_NIGHT_BEFORE, AU_NIGHT_AFTER, AU_NIGHT_REST, AU_NIGHT_LONG_REST}
use Rattle.duty_core.specs.Params.{day_units}
use Rattle.duty_core.specs.Stretch.{IsRest}
use Rattle.duty_core.specs.Day.{minute_at}
use Rattle.duty_core.specs.AuPeriods.{IsLongStart}

-- a date begins at place m, where the history begins at the minute `first`
abbrev pub IsMidnight : ℕ → ℕ → Type 0
IsMidnight first m = (date : ℤ) × (minute_at Hvnl first m ≡ date *ℤ pos DAY_MINUTES)

-- the night of midnight m lies wholly in the n units from place i on
pub record IsNightOf (first i n m : ℕ) : Type 0 where
  pub midnight : IsMidnight first m
  pub begins : i + AU_NIGHT_BEFORE ≤ m
  pub ends : m + AU_NIGHT_AFTER ≤ i + n

-- the places from `from` up to `to` are seven hours inside the night
pub record IsInside (m from to : ℕ) : Type 0 where
  pub begins : m ≤ from + AU_NIGHT_BEFORE
  pub ends : to ≤ m + AU_NIGHT_AFTER
  pub long : from + AU_NIGHT_REST ≤ to

-- the places from `from` up to `to` are twenty-four hours with the unit before and the unit after midnight
pub record IsAcross (m from to : ℕ) : Type 0 where
  pub begins : from < m
  pub ends : m < to
  pub long : from + AU_NIGHT_LONG_REST ≤ to

-- The night of midnight m has a break, which is over at place `by` or before. It is enough that a stretch of rest is long enough, since a run holds it.
pub record HasBreakBy (by : ℕ) (p : List Activity) (m : ℕ) : Type 0 where
  pub from : ℕ
  pub to : ℕ
  pub over : to ≤ by
  pub rest : IsRest p from to
  pub lies : IsInside m from to ⊎ IsAcross m from to

-- the night of midnight m has a break
abbrev pub HasBreak : List Activity → ℕ → Type 0
HasBreak p m = (by : ℕ) × HasBreakBy by p m

-- a night of the n units from place i on, with a break
abbrev pub IsBrokenNight : ℕ → List Activity → ℕ → ℕ → ℕ → Type 0
IsBrokenNight first p i n m = IsNightOf first i n m × HasBreak p m

-- at least so many nights of the n units from place i on have a break
pub record HasNights (least first : ℕ) (p : List Activity) (i n : ℕ) : Type 0 where
  pub nights : List ℕ
  pub apart : IsStrictlyIncreasing nights
  pub enough : least ≤ length nights
  pub broken : All (IsBrokenNight first p i n) nights

-- some two consecutive nights of these units have a break each
pub record HasTwoNights (first : ℕ) (p : List Activity) (i n : ℕ) : Type 0 where
  pub night : ℕ
  pub one : IsBrokenNight first p i n night
  pub next : IsBrokenNight first p i n (night + day_units Hvnl)

-- AU-14D-NIGHTS: of the nights of the fourteen days from a long start on, at least four have a break, and some two consecutive ones have one each.
abbrev pub MeetsAu14dNights : ℕ → List Activity → ℕ → Type 0
MeetsAu14dNights first p i = IsLongStart p i → HasNights AU_14D_NIGHTS first p i AU_14D_PERIOD × HasTwoNights first p i AU_14D_PERIOD
