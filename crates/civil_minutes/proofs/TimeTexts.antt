-- A text stands for at most one civil minute, and a civil minute has at most one text.
use Rattle.std.proofs.Common.{◌≡◌, ℕ, ◌+◌, ◌/◌, ◌%◌, ◌<◌, ◌≤◌, refl, sym, ◌∙◌, arith, List, length, pos, ◌*ℤ◌}
use Rattle.std.proofs.lemmas.List.{take_all}
use Rattle.jiff_core.specs.declared.civil.date.Date.{Date}
use Rattle.jiff_core.proofs.SignedLemmas.{signed_arith}
use Rattle.jiff_core.proofs.CalendarLemmas.{days_in_month_bounds}
use Rattle.duty_core.specs.declared.limits.TheConstants.{DAY_MINUTES}
use Rattle.civil_minutes.specs.Time.{digit, time_text, days_after_2000, minutes_until, IsTime, IsTimeText, IsBadFrom}
use Rattle.civil_minutes.specs.Fields.{IsOfCentury, BeginsWithTime}
use Rattle.civil_minutes.proofs.CenturyDates.{civil_from_date, same_parts}
use Rattle.civil_minutes.proofs.Opening.{Opens, opens_time, text_of_time, bad_after}
use Rattle.civil_minutes.proofs.StopPlaces.{is_time, within_month}

-- the number of two digits
same_pair : (a b : ℕ) → a < 100 → b < 100 → digit (a / 10) ≡ digit (b / 10) → digit a ≡ digit b → a ≡ b
same_pair a b small small' tens units = omega arith

-- the text of a time is that of one time
same_from_text : (y m d h n y' m' d' h' n' : ℕ) → IsTime y m d h n → IsTime y' m' d' h' n' → time_text y m d h n ≡ time_text y' m' d' h' n' → (y ≡ y') × (m ≡ m') × (d ≡ d') × (h ≡ h') × (n ≡ n')
same_from_text y m d h n y' m' d' h' n' t t' e =
    let date = civil_from_date _ _ _ t.date in
    let date' = civil_from_date _ _ _ t'.date in
    let long = days_in_month_bounds (pos y) m in
    let long' = days_in_month_bounds (pos y') m' in
    let century = t.century in
    let century' = t'.century in
    let year_tens : digit (y / 10) ≡ digit (y' / 10) = cc in
    let year_units : digit y ≡ digit y' = cc in (
      omega (arith, century, century', year_tens, year_units),
      same_pair m m' (omega (arith, date.1)) (omega (arith, date'.1)) (cc) (cc),
      same_pair d d' (omega (arith, date.2, long)) (omega (arith, date'.2, long')) (cc) (cc),
      same_pair h h' (omega (arith, t.hour_below)) (omega (arith, t'.hour_below)) (cc) (cc),
      same_pair n n' (omega (arith, t.minute_below)) (omega (arith, t'.minute_below)) (cc) (cc),
    )

same_minutes : (y m d h n y' m' d' h' n' : ℕ) → (y ≡ y') × (m ≡ m') × (d ≡ d') × (h ≡ h') × (n ≡ n') → minutes_until y m d h n ≡ minutes_until y' m' d' h' n'
same_minutes y m d h n y' m' d' h' n' same = rw (same.0, same.1, same.2, same.3, same.4)

same_spelling : (y m d h n y' m' d' h' n' : ℕ) → (y ≡ y') × (m ≡ m') × (d ≡ d') × (h ≡ h') × (n ≡ n') → time_text y m d h n ≡ time_text y' m' d' h' n'
same_spelling y m d h n y' m' d' h' n' same = rw (same.0, same.1, same.2, same.3, same.4)

-- a text stands for at most one minute
pub one_minute : (text : List ℕ) (a b : ℕ) → IsTimeText text a → IsTimeText text b → a ≡ b
one_minute text a b h k =
    let same = same_from_text _ _ _ _ _ _ _ _ _ _ h.time k.time (sym h.spelled ∙ k.spelled) in
    let e : pos a ≡ pos b = h.counted ∙ (same_minutes _ _ _ _ _ _ _ _ _ _ same ∙ sym k.counted) in
    cc

-- a minute has at most one text
pub one_text : (a b : List ℕ) (at : ℕ) → IsTimeText a at → IsTimeText b at → a ≡ b
one_text a b at h k =
    let same = same_parts _ _ _ _ _ _ _ _ _ _ h.time k.time (sym h.counted ∙ k.counted) in
    h.spelled ∙ (same_spelling _ _ _ _ _ _ _ _ _ _ same ∙ sym k.spelled)

-- ---- what has been read

-- the parts that have been read are those of a time
time_begun : (text : List ℕ) (date : Date) (minutes : ℕ) (b : BeginsWithTime text date minutes) → IsTime b.year date.month date.day b.hour b.minute
time_begun text date minutes b = is_time date b.year date.day b.hour b.minute b.of_century (within_month date b.year b.of_century) b.hour_below b.minute_below

-- the first 16 bytes are those of a time
opens_whole : (text : List ℕ) (date : Date) (minutes : ℕ) → 16 ≤ length text → BeginsWithTime text date minutes → Opens text 16
opens_whole text date minutes long b = opens_time (time_begun text date minutes b) (record { inside = long; same = b.begins })

-- a text that goes on after the time
pub bad_end : (text : List ℕ) (date : Date) (minutes : ℕ) → BeginsWithTime text date minutes → 16 < length text → IsBadFrom text 16
bad_end text date minutes b long = bad_after text (opens_whole text date minutes (omega arith) b) long

-- a text that ends with the time
pub time_read : (text : List ℕ) (date : Date) (minutes before : ℕ) → BeginsWithTime text date minutes → length text ≤ 16 → pos before ≡ days_after_2000 date.year date.month date.day *ℤ pos DAY_MINUTES → IsTimeText text (before + minutes)
time_read text date minutes before b short e =
    text_of_time (time_begun text date minutes b) (sym (take_all 16 text short) ∙ b.begins)
    (rw (← b.of_century.is) (omega (arith, signed_arith, e, b.sum)))

-- ---- what is written

pub time_written : (at : ℕ) (date : Date) (year month day hour minute : ℕ) → date.year ≡ pos (2000 + year) → year < 100 → month ≡ date.month → day ≡ date.day → hour ≡ at % DAY_MINUTES / 60 → minute ≡ at % DAY_MINUTES % 60 → days_after_2000 date.year date.month date.day ≡ pos (at / DAY_MINUTES) → IsTimeText (time_text (2000 + year) month day hour minute) at
time_written at date year month day hour minute is small month_is day_is hour_is minute_is days =
    let of : IsOfCentury date (2000 + year) = record { is = is; century = (omega arith, omega arith) } in
    let time : IsTime (2000 + year) date.month date.day hour minute = is_time date (2000 + year) date.day hour minute of (within_month date (2000 + year) of) (omega arith) (omega arith) in
    rw (month_is, day_is) (text_of_time time refl (rw (← is) (omega (arith, signed_arith, days))))
