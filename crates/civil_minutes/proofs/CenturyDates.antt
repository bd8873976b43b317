-- The dates of the years 2000 to 2099 are those of 36,525 day numbers, each of one date.
use Rattle.std.proofs.Common.{◌≡◌, ℕ, ◌<◌, ◌≤◌, refl, arith, rules, ℤ, pos, ◌<ℤ◌, ◌≤ℤ◌}
use Rattle.std.proofs.lemmas.Int.{by_lt_z}
use Rattle.jiff_core.specs.declared.civil.date.Date.{Date}
use Rattle.jiff_core.specs.Calendar.{IsDate, IsCivilDate, IsBetween, day_count, days_from_civil}
use Rattle.jiff_core.specs.Date.{epoch_day, IsYmd}
use Rattle.jiff_core.proofs.SignedLemmas.{signed_arith}
use Rattle.jiff_core.proofs.MarchLemmas.{day_count-early}
use Rattle.jiff_core.proofs.CalendarLemmas.{days_from_civil-day_count, day_count-lt_year, day_count-day_of_year}
use Rattle.jiff_core.proofs.DateLemmas.{epoch_day_injective}
use Rattle.civil_minutes.specs.Time.{days_after_2000, minutes_until, IsTime}

pub day_count-2000 : day_count (pos 2000) 1 1 ≡ 4_382_910
day_count-2000 = day_count-early (pos 2000) 11999 1 1 refl (omega arith) (omega arith) (omega arith)

pub day_count-2100 : day_count (pos 2100) 1 1 ≡ 4_419_435
day_count-2100 = day_count-early (pos 2100) 12099 1 1 refl (omega arith) (omega arith) (omega arith)

-- 2000-01-01 is day 10,957 from 1970-01-01
pub first_epoch_day : days_from_civil (pos 2000) 1 1 ≡ pos 10_957
first_epoch_day = omega (arith, signed_arith, days_from_civil-day_count, day_count-2000)

pub first_day_number : (date : Date) → IsYmd (pos 2000) (pos 1) (pos 1) date → epoch_day date ≡ pos 10_957
first_day_number date h =
    let month : date.month ≡ 1 = omega (arith, signed_arith, h.1) in
    let day : date.day ≡ 1 = omega (arith, signed_arith, h.2) in
    rw (h.0, month, day) first_epoch_day

-- the numbers of a date are those of a valid day
pub civil_from_date : (y : ℤ) (m d : ℕ) → IsDate y (pos m) (pos d) → IsCivilDate y m d
civil_from_date y m d h = (h.0, omega (arith, signed_arith, h.1), omega (arith, signed_arith, h.2))

pub date_from_civil : (y : ℤ) (m d : ℕ) → IsCivilDate y m d → IsDate y (pos m) (pos d)
date_from_civil y m d h = (h.0, omega (arith, signed_arith, h.1), omega (arith, signed_arith, h.2))

-- a date before a year is counted before the year's first day, and a date of the year or later is not
count_before : (y next : ℤ) (m d : ℕ) → IsCivilDate y m d → y <ℤ next → day_count y m d < day_count next 1 1
count_before y next m d h lt = day_count-lt_year y m d next 1 1 h (omega arith) lt

count_from : (y first : ℤ) (m d : ℕ) → IsCivilDate y m d → IsCivilDate first 1 1 → first ≤ℤ y → day_count first 1 1 ≤ day_count y m d
count_from y first m d h valid le =
    by_lt_z first y (λ lt. omega (arith, day_count-lt_year first 1 1 y m d valid h.2.0 lt))
    (λ ge. let e : first ≡ y = omega (arith, signed_arith) in rw e (omega (arith, day_count-day_of_year y m d h.2.0)))

first_of_2000 : IsCivilDate (pos 2000) 1 1
first_of_2000 = search rules

first_of_2100 : IsCivilDate (pos 2100) 1 1
first_of_2100 = search rules

-- a date of these years lies less than 36,525 days after 2000-01-01
pub days_within : (y : ℤ) (m d : ℕ) → IsCivilDate y m d → IsBetween (pos 2000) (pos 2099) y → IsBetween (pos 0) (pos 36_524) (days_after_2000 y m d)
days_within y m d h within =
    let low = count_from y (pos 2000) m d h first_of_2000 within.0 in
    let high = count_before y (pos 2100) m d h (omega (arith, signed_arith, within.1)) in
    let number = days_from_civil-day_count y m d in (
      rw first_epoch_day (omega (arith, signed_arith, low, number, day_count-2000)),
      rw first_epoch_day (omega (arith, signed_arith, high, number, day_count-2100)),
    )

-- and only such a date does
pub year_within : (y : ℤ) (m d : ℕ) → IsCivilDate y m d → IsBetween (pos 0) (pos 36_524) (days_after_2000 y m d) → IsBetween (pos 2000) (pos 2099) y
year_within y m d h days =
    let number = days_from_civil-day_count y m d in
    let within = rw first_epoch_day at days in (
      by_lt_z y (pos 2000)
          (λ lt. absurd (omega (arith, signed_arith, within.0, number, day_count-2000, count_before y (pos 2000) m d h lt)))
          (λ le. le),
      by_lt_z (pos 2099) y
          (λ lt. absurd (omega (arith, signed_arith, within.1, number, day_count-2100, count_from y (pos 2100) m d h first_of_2100 (omega (arith, signed_arith)))))
          (λ le. le),
    )

date_of : (y : ℤ) (m d : ℕ) → IsCivilDate y m d → Date
date_of y m d h = record { year = y; month = m; day = d; year_in = h.0; month_in = h.1; day_in = h.2 }

-- a day number is that of one date
pub same_date : (y : ℤ) (m d : ℕ) (y' : ℤ) (m' d' : ℕ) → IsCivilDate y m d → IsCivilDate y' m' d' → days_after_2000 y m d ≡ days_after_2000 y' m' d' → (y ≡ y') × (m ≡ m') × (d ≡ d')
unfolding date_of
same_date y m d y' m' d' h h' e =
    epoch_day_injective (date_of y m d h) (date_of y' m' d' h') (omega (arith, signed_arith, e))

-- the parts of one civil minute
pub same_parts : (y m d h n y' m' d' h' n' : ℕ) → IsTime y m d h n → IsTime y' m' d' h' n' → minutes_until y m d h n ≡ minutes_until y' m' d' h' n' → (y ≡ y') × (m ≡ m') × (d ≡ d') × (h ≡ h') × (n ≡ n')
same_parts y m d h n y' m' d' h' n' t t' e =
    let hour = t.hour_below in
    let hour' = t'.hour_below in
    let minute = t.minute_below in
    let minute' = t'.minute_below in
    let days : days_after_2000 (pos y) m d ≡ days_after_2000 (pos y') m' d' = omega (arith, signed_arith, e) in
    let date = same_date (pos y) m d (pos y') m' d' (civil_from_date _ _ _ t.date) (civil_from_date _ _ _ t'.date) days in
    (omega (arith, signed_arith, date.0), date.1, date.2, omega (arith, signed_arith, e, days), omega (arith, signed_arith, e, days))
