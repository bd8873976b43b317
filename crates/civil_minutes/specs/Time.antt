-- The text of a civil minute: YYYY-MM-DDTHH:MM, of the years 2000 to 2099.
use Rattle.std.specs.Prelude.{◌≡◌, ℕ, ◌+◌, ◌*◌, ◌/◌, ◌%◌, ◌<◌, ◌⊎◌, ℤ, pos, ◌+ℤ◌, ◌-ℤ◌, ◌*ℤ◌, List, [], ◌∷◌, ◌++◌, length, take}
use Rattle.std.specs.Int.{IsInRange}
use Rattle.jiff_core.specs.Calendar.{IsDate, days_from_civil}
use Rattle.duty_core.specs.declared.limits.TheConstants.{DAY_MINUTES}

-- the byte of a number's last decimal digit
abbrev pub digit : ℕ → ℕ
digit n = 48 + n % 10

-- the bytes of a number below 100, with a leading zero
abbrev pub two_digits : ℕ → List ℕ
two_digits n = digit (n / 10) ∷ digit n ∷ []

-- the bytes of a number below 10,000, with leading zeros
abbrev pub four_digits : ℕ → List ℕ
four_digits n = digit (n / 1000) ∷ digit (n / 100) ∷ digit (n / 10) ∷ digit n ∷ []

-- YYYY-MM
abbrev pub month_text : ℕ → ℕ → List ℕ
month_text year month = four_digits year ++ 45 ∷ two_digits month

-- YYYY-MM-DD
abbrev pub date_text : ℕ → ℕ → ℕ → List ℕ
date_text year month day = month_text year month ++ 45 ∷ two_digits day

-- YYYY-MM-DDTHH
abbrev pub hour_text : ℕ → ℕ → ℕ → ℕ → List ℕ
hour_text year month day hour = date_text year month day ++ 84 ∷ two_digits hour

-- YYYY-MM-DDTHH:MM
abbrev pub time_text : ℕ → ℕ → ℕ → ℕ → ℕ → List ℕ
time_text year month day hour minute = hour_text year month day hour ++ 58 ∷ two_digits minute

-- the days from 2000-01-01 to a date
abbrev pub days_after_2000 : ℤ → ℕ → ℕ → ℤ
days_after_2000 year month day = days_from_civil year month day -ℤ days_from_civil (pos 2000) 1 1

-- the minutes from 2000-01-01T00:00 to a time
abbrev pub minutes_until : ℕ → ℕ → ℕ → ℕ → ℕ → ℤ
minutes_until year month day hour minute = days_after_2000 (pos year) month day *ℤ pos DAY_MINUTES +ℤ pos (hour * 60 + minute)

-- The parts name a time of the years 2000 to 2099.
pub record IsTime (year month day hour minute : ℕ) : Type 0 where
  pub century : IsInRange 2000 2099 year
  pub date : IsDate (pos year) (pos month) (pos day)
  pub hour_below : hour < 24
  pub minute_below : minute < 60

-- The text is that of a time, and at is the time's civil minute.
pub record IsTimeText (text : List ℕ) (at : ℕ) : Type 0 where
  pub year : ℕ
  pub month : ℕ
  pub day : ℕ
  pub hour : ℕ
  pub minute : ℕ
  pub time : IsTime year month day hour minute
  pub spelled : text ≡ time_text year month day hour minute
  pub counted : pos at ≡ minutes_until year month day hour minute

-- The text of some time begins with these bytes.
pub record BeginsTime (prefix : List ℕ) : Type 0 where
  pub rest : List ℕ
  pub at : ℕ
  pub whole : IsTimeText (prefix ++ rest) at

-- The text is of no time. Its first bytes, up to the place, begin one; with the byte at the place they do not, or the text ends there.
pub record IsBadFrom (text : List ℕ) (place : ℕ) : Type 0 where
  pub none : (at : ℕ) → ¬ (IsTimeText text at)
  pub begins : BeginsTime (take place text)
  pub stops : (place ≡ length text) ⊎ ¬ (BeginsTime (take (place + 1) text))
