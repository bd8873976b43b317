-- What is read of a time's text: one field, and how far the text has been read.
use Rattle.std.specs.Prelude.{◌≡◌, ℕ, ◌+◌, ◌*◌, ◌/◌, ◌<◌, ◌⊎◌, pos, List, length, slice_index, take}
use Rattle.std.specs.Int.{IsInRange}
use Rattle.jiff_core.specs.declared.civil.date.Date.{Date}
use Rattle.civil_minutes.specs.Time.{digit, month_text, date_text, time_text}

-- The text has this byte at the place.
pub record HasByte (text : List ℕ) (place byte : ℕ) : Type 0 where
  pub inside : place < length text
  pub is : slice_index text place ≡ byte

-- The text has the number's two digits at the place.
pub record HasPair (text : List ℕ) (place value : ℕ) : Type 0 where
  pub tens : HasByte text place (digit (value / 10))
  pub units : HasByte text (place + 1) (digit value)

-- The text has the first digit of a number from low to high at the place.
pub record HasTens (text : List ℕ) (place low high : ℕ) : Type 0 where
  pub value : ℕ
  pub in_range : IsInRange low high value
  pub tens : HasByte text place (digit (value / 10))

-- the text has no digit at the place
abbrev pub LacksDigit : List ℕ → ℕ → Type 0
LacksDigit text place = (value : ℕ) → ¬ (HasByte text place (digit value))

-- the text has the first digit of no number from low to high at the place
abbrev pub LacksTens : List ℕ → ℕ → ℕ → ℕ → Type 0
LacksTens text place low high = ¬ (HasTens text place low high)

-- the text has the two digits of no number from low to high at the place
abbrev pub LacksUnits : List ℕ → ℕ → ℕ → ℕ → Type 0
LacksUnits text place low high = (value : ℕ) → IsInRange low high value → ¬ (HasPair text place value)

-- the text stops having a number from low to high at the place: at its first digit, or at its second
abbrev pub LacksPair : List ℕ → ℕ → ℕ → ℕ → ℕ → Type 0
LacksPair text place low high stop =
    ((stop ≡ place) × LacksTens text place low high)
    ⊎ ((stop ≡ place + 1) × HasTens text place low high × LacksUnits text place low high)

-- The date's year is of the years 2000 to 2099.
pub record IsOfCentury (date : Date) (year : ℕ) : Type 0 where
  pub is : date.year ≡ pos year
  pub century : IsInRange 2000 2099 year

-- The text begins with the year and the month of the date.
pub record BeginsWithMonth (text : List ℕ) (date : Date) : Type 0 where
  pub year : ℕ
  pub of_century : IsOfCentury date year
  pub begins : take 7 text ≡ month_text year date.month

-- The text begins with the date.
pub record BeginsWithDate (text : List ℕ) (date : Date) : Type 0 where
  pub year : ℕ
  pub of_century : IsOfCentury date year
  pub begins : take 10 text ≡ date_text year date.month date.day

-- The text begins with the date and a time so many minutes after the date's midnight.
pub record BeginsWithTime (text : List ℕ) (date : Date) (minutes : ℕ) : Type 0 where
  pub year : ℕ
  pub hour : ℕ
  pub minute : ℕ
  pub of_century : IsOfCentury date year
  pub hour_below : hour < 24
  pub minute_below : minute < 60
  pub sum : minutes ≡ hour * 60 + minute
  pub begins : take 16 text ≡ time_text year date.month date.day hour minute
