-- The fields of a time's text, and what is wrong where one of them is not there.
use Rattle.std.proofs.Common.{◌≡◌, ℕ, ◌+◌, ◌-◌, ◌*◌, ◌/◌, ◌<◌, ◌≤◌, max, refl, sym, ap, ◌∙◌, subst, arith, inr, List, length, take, ℤ, pos}
use Rattle.std.proofs.lemmas.List.{length-take}
use Rattle.std.specs.Int.{IsInRange}
use Rattle.jiff_core.specs.declared.civil.date.Date.{Date}
use Rattle.jiff_core.specs.Calendar.{IsCivilDate, days_in_month}
use Rattle.jiff_core.proofs.SignedLemmas.{signed_arith}
use Rattle.jiff_core.proofs.CalendarLemmas.{days_in_month_bounds}
use Rattle.civil_minutes.specs.Time.{digit, month_text, time_text, IsTime, IsBadFrom}
use Rattle.civil_minutes.specs.Fields.{HasByte, HasPair, LacksDigit, LacksUnits, LacksPair, IsOfCentury, BeginsWithMonth, BeginsWithDate}
use Rattle.civil_minutes.proofs.CenturyDates.{civil_from_date, date_from_civil}
use Rattle.civil_minutes.proofs.Opening.{Agrees, agrees_none, agrees_more, agrees_less, Opens, opened, IsField, bad_mark, bad_pair}

-- ---- the number that stands in each field of a time

year_field : (text : List ℕ) (k : ℕ) (o : Opens text k) → IsField (opened o) 2 0 99
year_field text k o =
    let t = o.time.century in
    record { value = o.year - 2000; in_range = (omega arith, omega arith); tens = omega arith; units = omega arith }

month_field : (text : List ℕ) (k : ℕ) (o : Opens text k) → IsField (opened o) 5 1 12
month_field text k o =
    record { value = o.month; in_range = (civil_from_date _ _ _ o.time.date).1; tens = refl; units = refl }

hour_field : (text : List ℕ) (k : ℕ) (o : Opens text k) → IsField (opened o) 11 0 23
hour_field text k o =
    let t = o.time.hour_below in
    record { value = o.hour; in_range = (omega arith, omega arith); tens = refl; units = refl }

minute_field : (text : List ℕ) (k : ℕ) (o : Opens text k) → IsField (opened o) 14 0 59
minute_field text k o =
    let t = o.time.minute_below in
    record { value = o.minute; in_range = (omega arith, omega arith); tens = refl; units = refl }

-- the text of a month is that of one year and month
same_month : (y m y' m' : ℕ) → IsInRange 2000 2099 y → IsInRange 2000 2099 y' → m ≤ 12 → m' ≤ 12 → month_text y m ≡ month_text y' m' → (y' ≡ y) × (m' ≡ m)
same_month y m y' m' c c' small small' e =
    let tens : digit (y / 10) ≡ digit (y' / 10) = cc in
    let units : digit y ≡ digit y' = cc in
    let month_tens : digit (m / 10) ≡ digit (m' / 10) = cc in
    let month_units : digit m ≡ digit m' = cc in
    (omega (arith, tens, units, c, c'), omega (arith, month_tens, month_units))

day_field : (text : List ℕ) (y m high : ℕ) → IsInRange 2000 2099 y → m ≤ 12 → high ≡ days_in_month (pos y) m → take 7 text ≡ month_text y m → (k : ℕ) → 8 < k → (o : Opens text k) → IsField (opened o) 8 1 high
day_field text y m high c small is begins k long o =
    let valid = civil_from_date _ _ _ o.time.date in
    let before = agrees_less _ _ k 7 (omega arith) o.agrees in
    let month = same_month y m o.year o.month c o.time.century small valid.1.1 (sym begins ∙ before.same) in
    record {
      value = o.day;
      in_range = rw is (rw (month.0, month.1) at valid.2);
      tens = refl;
      units = refl;
    }

-- ---- what a number of two digits lacks

same_byte : (text : List ℕ) (place a b : ℕ) → HasByte text place a → HasByte text place b → a ≡ b
same_byte text place a b h k = sym h.is ∙ k.is

-- the first digit is there, and no second digit fits
pub lacks_units : (text : List ℕ) (place low high tens : ℕ) → low ≤ high → tens < 10 → 10 * tens ≤ high → low ≤ 10 * tens + 9 → HasByte text place (digit tens) → LacksUnits text place low high → LacksPair text place low high (place + 1)
lacks_units text place low high tens order small below above has lacks =
    let same : tens ≡ max low (10 * tens) / 10 = omega arith in
    inr (refl, record { value = max low (10 * tens); in_range = (omega arith, omega arith); tens = subst (λ n. HasByte text place (digit n)) same has }, lacks)

-- no digit at all stands at the second place
pub lacks_units_no_digit : (text : List ℕ) (place low high : ℕ) → LacksDigit text (place + 1) → LacksUnits text place low high
lacks_units_no_digit text place low high lacks value in_range pair = lacks value pair.units

-- the two digits are those of a number out of range
pub lacks_units_out_of_range : (text : List ℕ) (place low high tens units : ℕ) → high < 100 → tens < 10 → units < 10 → HasByte text place (digit tens) → HasByte text (place + 1) (digit units) → ¬ (IsInRange low high (10 * tens + units)) → LacksUnits text place low high
lacks_units_out_of_range text place low high tens units small few one first second out value in_range pair =
    let a = same_byte text place _ _ first pair.tens in
    let b = same_byte text (place + 1) _ _ second pair.units in
    let same : value ≡ 10 * tens + units = omega (arith, in_range, a, b) in
    out (rw same at in_range)

-- ---- reading the month

is_first : (year month : ℕ) → year ≤ 99 → IsInRange 1 12 month → IsTime (2000 + year) month 1 0 0
is_first year month small valid =
    let long = days_in_month_bounds (pos (2000 + year)) month in
    record {
      century = (omega arith, omega arith);
      date = (omega (arith, signed_arith), omega (arith, signed_arith, valid), omega (arith, signed_arith, long));
      hour_below = omega arith;
      minute_below = omega arith;
    }

-- the bytes of a month's first minute
pub opens_first : (text : List ℕ) (k year month : ℕ) → year ≤ 99 → IsInRange 1 12 month → Agrees text (time_text (2000 + year) month 1 0 0) k → Opens text k
opens_first text k year month small valid agrees =
    record { year = 2000 + year; month = month; day = 1; hour = 0; minute = 0; time = is_first year month small valid; agrees = agrees }

pub agrees_century : (text : List ℕ) (year month : ℕ) → year ≤ 99 → HasByte text 0 50 → HasByte text 1 48 → Agrees text (time_text (2000 + year) month 1 0 0) 2
agrees_century text year month small a b =
    agrees_more _ _ 1 48 (agrees_more _ _ 0 50 (agrees_none _ _) (omega arith) a (omega arith)) (omega arith) b (omega arith)

pub agrees_year_tens : (text : List ℕ) (year month : ℕ) → year ≤ 99 → HasByte text 0 50 → HasByte text 1 48 → HasByte text 2 (digit (year / 10)) → Agrees text (time_text (2000 + year) month 1 0 0) 3
agrees_year_tens text year month small a b tens =
    agrees_more _ _ 2 _ (agrees_century text year month small a b) (omega arith) tens (omega arith)

pub agrees_year : (text : List ℕ) (year month : ℕ) → year ≤ 99 → HasByte text 0 50 → HasByte text 1 48 → HasPair text 2 year → Agrees text (time_text (2000 + year) month 1 0 0) 4
agrees_year text year month small a b pair =
    agrees_more _ _ 3 _ (agrees_year_tens text year month small a b pair.tens) (omega arith) pair.units (omega arith)

pub agrees_dash : (text : List ℕ) (year month : ℕ) → year ≤ 99 → HasByte text 0 50 → HasByte text 1 48 → HasPair text 2 year → HasByte text 4 45 → Agrees text (time_text (2000 + year) month 1 0 0) 5
agrees_dash text year month small a b pair dash =
    agrees_more _ _ 4 _ (agrees_year text year month small a b pair) (omega arith) dash refl

pub agrees_month : (text : List ℕ) (year month : ℕ) → year ≤ 99 → HasByte text 0 50 → HasByte text 1 48 → HasPair text 2 year → HasByte text 4 45 → HasPair text 5 month → Agrees text (time_text (2000 + year) month 1 0 0) 7
agrees_month text year month small a b pair dash both =
    agrees_more _ _ 6 _ (agrees_more _ _ 5 _ (agrees_dash text year month small a b pair dash) (omega arith) both.tens refl) (omega arith) both.units refl

one_to_twelve : IsInRange 1 12 1
one_to_twelve = (omega arith, omega arith)

pub bad_first : (text : List ℕ) (stop : ℕ) → (stop ≡ 0) × ¬ (HasByte text 0 50) → IsBadFrom text stop
bad_first text stop bad =
    bad_mark text 0 50 stop (omega arith) (opens_first text 0 0 1 (omega arith) one_to_twelve (agrees_none _ _)) (λ o. omega (arith, o.time.century)) bad

pub bad_second : (text : List ℕ) (stop : ℕ) → HasByte text 0 50 → (stop ≡ 1) × ¬ (HasByte text 1 48) → IsBadFrom text stop
bad_second text stop a bad =
    bad_mark text 1 48 stop (omega arith)
    (opens_first text 1 0 1 (omega arith) one_to_twelve (agrees_more _ _ 0 50 (agrees_none _ _) (omega arith) a refl))
    (λ o. omega (arith, o.time.century)) bad

pub bad_year : (text : List ℕ) (stop : ℕ) → HasByte text 0 50 → HasByte text 1 48 → LacksPair text 2 0 99 stop → IsBadFrom text stop
bad_year text stop a b bad =
    bad_pair text 2 0 99 stop (omega arith)
    (opens_first text 2 0 1 (omega arith) one_to_twelve (agrees_century text 0 1 (omega arith) a b))
    (λ has. opens_first text 3 has.value 1 has.in_range.1 one_to_twelve (agrees_year_tens text has.value 1 has.in_range.1 a b has.tens))
    (λ k lt o. year_field text k o) bad

pub bad_dash : (text : List ℕ) (year stop : ℕ) → year ≤ 99 → HasByte text 0 50 → HasByte text 1 48 → HasPair text 2 year → (stop ≡ 4) × ¬ (HasByte text 4 45) → IsBadFrom text stop
bad_dash text year stop small a b pair bad =
    bad_mark text 4 45 stop (omega arith)
    (opens_first text 4 year 1 small one_to_twelve (agrees_year text year 1 small a b pair)) (λ o. refl) bad

pub bad_month : (text : List ℕ) (year stop : ℕ) → year ≤ 99 → HasByte text 0 50 → HasByte text 1 48 → HasPair text 2 year → HasByte text 4 45 → LacksPair text 5 1 12 stop → IsBadFrom text stop
bad_month text year stop small a b pair dash bad =
    bad_pair text 5 1 12 stop (omega arith)
    (opens_first text 5 year 1 small one_to_twelve (agrees_dash text year 1 small a b pair dash))
    (λ has. opens_first text 6 year has.value small has.in_range (agrees_more _ _ 5 _ (agrees_dash text year has.value small a b pair dash) (omega arith) has.tens refl))
    (λ k lt o. month_field text k o) bad

-- ---- reading the day

pub is_time : (date : Date) (year day hour minute : ℕ) → IsOfCentury date year → IsInRange 1 (days_in_month (pos year) date.month) day → hour < 24 → minute < 60 → IsTime year date.month day hour minute
is_time date year day hour minute of within h n =
    let valid : IsCivilDate (pos year) date.month day = (omega (arith, signed_arith, of.century), date.month_in, within) in
    record { century = of.century; date = date_from_civil _ _ _ valid; hour_below = h; minute_below = n }

pub within_month : (date : Date) (year : ℕ) → IsOfCentury date year → IsInRange 1 (days_in_month (pos year) date.month) date.day
within_month date year of = subst (λ y. IsInRange 1 (days_in_month y date.month) date.day) of.is date.day_in

agrees_from_month : (text : List ℕ) (date : Date) (day : ℕ) → (b : BeginsWithMonth text date) → Agrees text (time_text b.year date.month day 0 0) 7
agrees_from_month text date day b =
    record { inside = omega (arith, length-take 7 text, ap length b.begins); same = b.begins }

opens_month : (text : List ℕ) (date : Date) (k day : ℕ) → (b : BeginsWithMonth text date) → IsInRange 1 (days_in_month (pos b.year) date.month) day → Agrees text (time_text b.year date.month day 0 0) k → Opens text k
opens_month text date k day b within agrees =
    record { year = b.year; month = date.month; day = day; hour = 0; minute = 0; time = is_time date b.year day 0 0 b.of_century within (omega arith) (omega arith); agrees = agrees }

first_day : (y : ℤ) (m : ℕ) → IsInRange 1 (days_in_month y m) 1
first_day y m = let long = days_in_month_bounds y m in (omega arith, omega arith)

pub bad_second_dash : (text : List ℕ) (date : Date) (stop : ℕ) → BeginsWithMonth text date → (stop ≡ 7) × ¬ (HasByte text 7 45) → IsBadFrom text stop
bad_second_dash text date stop b bad =
    bad_mark text 7 45 stop (omega arith)
    (opens_month text date 7 1 b (first_day (pos b.year) date.month) (agrees_from_month text date 1 b)) (λ o. refl) bad

pub bad_day : (text : List ℕ) (date : Date) (high stop : ℕ) → BeginsWithMonth text date → high ≡ days_in_month date.year date.month → HasByte text 7 45 → LacksPair text 8 1 high stop → IsBadFrom text stop
bad_day text date high stop b is dash bad =
    let long : high ≡ days_in_month (pos b.year) date.month = is ∙ ap (λ y. days_in_month y date.month) b.of_century.is in
    let opening : (day : ℕ) → Agrees text (time_text b.year date.month day 0 0) 8 = λ day. agrees_more _ _ 7 _ (agrees_from_month text date day b) (omega arith) dash refl in
    bad_pair text 8 1 high stop (omega arith)
    (opens_month text date 8 1 b (first_day (pos b.year) date.month) (opening 1))
    (λ has. opens_month text date 9 has.value b (rw long at has.in_range) (agrees_more _ _ 8 _ (opening has.value) (omega arith) has.tens refl))
    (λ k lt o. day_field text b.year date.month high b.of_century.century date.month_in.1 long b.begins k lt o) bad

-- ---- reading the time of day

agrees_from_date : (text : List ℕ) (date : Date) (hour minute : ℕ) → (b : BeginsWithDate text date) → Agrees text (time_text b.year date.month date.day hour minute) 10
agrees_from_date text date hour minute b =
    record { inside = omega (arith, length-take 10 text, ap length b.begins); same = b.begins }

opens_date : (text : List ℕ) (date : Date) (k hour minute : ℕ) → (b : BeginsWithDate text date) → hour < 24 → minute < 60 → Agrees text (time_text b.year date.month date.day hour minute) k → Opens text k
opens_date text date k hour minute b h n agrees =
    record { year = b.year; month = date.month; day = date.day; hour = hour; minute = minute; time = is_time date b.year date.day hour minute b.of_century (within_month date b.year b.of_century) h n; agrees = agrees }

agrees_hour_mark : (text : List ℕ) (date : Date) (hour minute : ℕ) → (b : BeginsWithDate text date) → HasByte text 10 84 → Agrees text (time_text b.year date.month date.day hour minute) 11
agrees_hour_mark text date hour minute b mark =
    agrees_more _ _ 10 _ (agrees_from_date text date hour minute b) (omega arith) mark refl

agrees_hour : (text : List ℕ) (date : Date) (hour minute : ℕ) → (b : BeginsWithDate text date) → HasByte text 10 84 → HasPair text 11 hour → Agrees text (time_text b.year date.month date.day hour minute) 13
agrees_hour text date hour minute b mark pair =
    agrees_more _ _ 12 _ (agrees_more _ _ 11 _ (agrees_hour_mark text date hour minute b mark) (omega arith) pair.tens refl) (omega arith) pair.units refl

agrees_minute_mark : (text : List ℕ) (date : Date) (hour minute : ℕ) → (b : BeginsWithDate text date) → HasByte text 10 84 → HasPair text 11 hour → HasByte text 13 58 → Agrees text (time_text b.year date.month date.day hour minute) 14
agrees_minute_mark text date hour minute b mark pair colon =
    agrees_more _ _ 13 _ (agrees_hour text date hour minute b mark pair) (omega arith) colon refl

pub bad_hour_mark : (text : List ℕ) (date : Date) (stop : ℕ) → BeginsWithDate text date → (stop ≡ 10) × ¬ (HasByte text 10 84) → IsBadFrom text stop
bad_hour_mark text date stop b bad =
    bad_mark text 10 84 stop (omega arith)
    (opens_date text date 10 0 0 b (omega arith) (omega arith) (agrees_from_date text date 0 0 b)) (λ o. refl) bad

pub bad_hour : (text : List ℕ) (date : Date) (stop : ℕ) → BeginsWithDate text date → HasByte text 10 84 → LacksPair text 11 0 23 stop → IsBadFrom text stop
bad_hour text date stop b mark bad =
    bad_pair text 11 0 23 stop (omega arith)
    (opens_date text date 11 0 0 b (omega arith) (omega arith) (agrees_hour_mark text date 0 0 b mark))
    (λ has. opens_date text date 12 has.value 0 b (omega (arith, has.in_range)) (omega arith)
    (agrees_more _ _ 11 _ (agrees_hour_mark text date has.value 0 b mark) (omega arith) has.tens refl))
    (λ k lt o. hour_field text k o) bad

pub bad_minute_mark : (text : List ℕ) (date : Date) (hour stop : ℕ) → BeginsWithDate text date → HasByte text 10 84 → hour ≤ 23 → HasPair text 11 hour → (stop ≡ 13) × ¬ (HasByte text 13 58) → IsBadFrom text stop
bad_minute_mark text date hour stop b mark small pair bad =
    bad_mark text 13 58 stop (omega arith)
    (opens_date text date 13 hour 0 b (omega arith) (omega arith) (agrees_hour text date hour 0 b mark pair)) (λ o. refl) bad

pub bad_minute : (text : List ℕ) (date : Date) (hour stop : ℕ) → BeginsWithDate text date → HasByte text 10 84 → hour ≤ 23 → HasPair text 11 hour → HasByte text 13 58 → LacksPair text 14 0 59 stop → IsBadFrom text stop
bad_minute text date hour stop b mark small pair colon bad =
    bad_pair text 14 0 59 stop (omega arith)
    (opens_date text date 14 hour 0 b (omega arith) (omega arith) (agrees_minute_mark text date hour 0 b mark pair colon))
    (λ has. opens_date text date 15 hour has.value b (omega arith) (omega (arith, has.in_range))
    (agrees_more _ _ 14 _ (agrees_minute_mark text date hour has.value b mark pair colon) (omega arith) has.tens refl))
    (λ k lt o. minute_field text k o) bad
