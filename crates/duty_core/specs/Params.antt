-- What the parameters of a book say of its units and of a schedule's activities.
use Rattle.std.specs.Prelude.{◌≡◌, ℕ, ◌*◌, ◌<◌, ◌≤◌, Bool, true, false, not, Option, None, Some}
use Rattle.duty_core.specs.declared.activity.Activity.{Activity}
use Rattle.duty_core.specs.declared.activity.Activity.TheVariants.{Drive, Serve, Wait, Off, Berth}
use Rattle.duty_core.specs.declared.params.RestWay.{RestWay}
use Rattle.duty_core.specs.declared.params.Params.{Params}
use Rattle.duty_core.specs.declared.params.Params.TheVariants.{UsProperty, Canada, Hvnl}
use Rattle.duty_core.specs.declared.limits.TheConstants.{DAY_MINUTES, US_SHORT_WEEK, US_LONG_WEEK, CA_CYCLE_1, CA_CYCLE_2}

-- A book's unit of time: a minute, or a quarter of an hour.
pub data BookUnit : Type 0 where
  InMinutes : BookUnit
  InQuarters : BookUnit

-- the length of a unit, in minutes
abbrev pub minutes_in : BookUnit → ℕ
minutes_in InMinutes = 1
minutes_in InQuarters = 15

-- the number of units of a day
abbrev pub units_in_day : BookUnit → ℕ
units_in_day InMinutes = DAY_MINUTES
units_in_day InQuarters = 96

-- What the parameters of any book say of its units, its days, its rest and its marks.
pub record Terms : Type 0 where
  pub unit : BookUnit
  -- whether the truck has a sleeper berth
  pub berth : Bool
  -- how many minutes after midnight a day begins
  pub day_start : ℕ
  -- whether a history may have marks
  pub has_marks : Bool
  -- how rest may be parted, where the tour states one way
  pub way : Option RestWay

abbrev pub terms_of : Params → Terms
terms_of (UsProperty berth days day_start) = record { unit = InMinutes; berth = berth; day_start = day_start; has_marks = true; way = None }
terms_of (Canada berth way cycle day_start) = record { unit = InMinutes; berth = berth; day_start = day_start; has_marks = true; way = Some way }
terms_of Hvnl = record { unit = InQuarters; berth = false; day_start = 0; has_marks = false; way = None }

-- the length of the book's unit, in minutes
abbrev pub unit_minutes : Params → ℕ
unit_minutes params = minutes_in (terms_of params).unit

-- the number of units of a day
abbrev pub day_units : Params → ℕ
day_units params = units_in_day (terms_of params).unit

-- whether the truck has a sleeper berth
abbrev pub has_berth : Params → Bool
has_berth params = (terms_of params).berth

-- whether a schedule may hold the activity: duty, and the tour's own rest
abbrev pub allows : Params → Activity → Bool
allows params Drive = true
allows params Serve = true
allows params Wait = true
allows params Off = not (has_berth params)
allows params Berth = has_berth params

-- A unit of the book may begin at this minute.
pub record BeginsUnit (params : Params) (at : ℕ) : Type 0 where
  pub units : ℕ
  pub whole : at ≡ unit_minutes params * units

-- The parameters that a book may have: a week has 7 or 8 days, a cycle is the first or the second, and a day begins within a day.
abbrev pub AreGoodParams : Params → Type 0
AreGoodParams (UsProperty berth days day_start) = (US_SHORT_WEEK ≤ days) × (days ≤ US_LONG_WEEK) × (day_start < DAY_MINUTES)
AreGoodParams (Canada berth way cycle day_start) = (CA_CYCLE_1 ≤ cycle) × (cycle ≤ CA_CYCLE_2) × (day_start < DAY_MINUTES)
AreGoodParams Hvnl = Unit {0}
