-- The function of times says what the text of a time is: exactly these texts have a minute, and it is their civil minute.
use Rattle.std.proofs.Common.{◌≡◌, ℕ, ◌+◌, ◌-◌, ◌*◌, ◌/◌, ◌%◌, ◌<◌, ◌≤◌, ◌↔◌, ◌&&◌, Bool, true, false, cond, nat_le, nat_lt, ℤ, pos, negsuc, List, Option, Some, None, Result, Ok, Err, IfOk, IfErr, refl, sym, ap, ◌∙◌, arith}
use Rattle.std.specs.Result.{result_ok}
use Rattle.std.specs.Str.{bytes_eq}
use Rattle.std.proofs.lemmas.Slice.Eq.{bytes_eq-Decides}
use Rattle.std.proofs.lemmas.Bool.Decides.{nat_tests}
use Rattle.std.proofs.lemmas.Int.{ints}
use Rattle.jiff_core.specs.Calendar.{days_in_month}
use Rattle.civil_minutes.specs.declared.read.BadTime.{BadTime}
use Rattle.civil_minutes.specs.Time.{IsTime, IsTimeText, IsBadFrom, time_text, minutes_until}
use Rattle.civil_minutes.specs.TimeOf.{digits_at, is_time, natural, time_from, time_of}

-- two tests that both pass
both : (a b : Bool) → a ≡ true → b ≡ true → (a && b) ≡ true
both true b p q = q
both false b p q = p

-- and back
pub parts : (a b : Bool) → (a && b) ≡ true → (a ≡ true) × (b ≡ true)
parts true b p = (refl, p)
parts false b p = absurd cc

le_true : (a b : ℕ) → a ≤ b → nat_le a b ≡ true
le_true a b le = grind (arith, nat_tests)

lt_true : (a b : ℕ) → a < b → nat_lt a b ≡ true
lt_true a b lt = grind (arith, nat_tests)

pub le_from : (a b : ℕ) → nat_le a b ≡ true → a ≤ b
le_from a b is = grind (arith, nat_tests)

pub lt_from : (a b : ℕ) → nat_lt a b ≡ true → a < b
lt_from a b is = grind (arith, nat_tests)

-- a month has at most 31 days
month_within : (year : ℤ) (month : ℕ) → days_in_month year month ≤ 31
month_within year month = grind arith

-- the parts of a time pass the test
time_passes : (year month day hour minute : ℕ) → IsTime year month day hour minute → is_time year month day hour minute ≡ true
time_passes year month day hour minute t =
    let low : 2000 ≤ year = omega (arith, t.century) in
    let high : year ≤ 2099 = omega (arith, t.century) in
    let first_month : 1 ≤ month = omega (arith, ints, t.date.1) in
    let last_month : month ≤ 12 = omega (arith, ints, t.date.1) in
    let first_day : 1 ≤ day = omega (arith, ints, t.date.2) in
    let last_day : day ≤ days_in_month (pos year) month = omega (arith, ints, t.date.2) in
    both _ _ (both _ _ (both _ _ (both _ _ (both _ _ (both _ _ (both _ _ (le_true _ _ low) (le_true _ _ high)) (le_true _ _ first_month)) (le_true _ _ last_month)) (le_true _ _ first_day)) (le_true _ _ last_day)) (lt_true _ _ t.hour_below)) (lt_true _ _ t.minute_below)

-- and parts that pass are those of a time
passing_time : (year month day hour minute : ℕ) → is_time year month day hour minute ≡ true → IsTime year month day hour minute
passing_time year month day hour minute is =
    let g = parts _ (nat_lt minute 60) is in
    let f = parts _ (nat_lt hour 24) g.0 in
    let e = parts _ (nat_le day (days_in_month (pos year) month)) f.0 in
    let d = parts _ (nat_le 1 day) e.0 in
    let c = parts _ (nat_le month 12) d.0 in
    let b = parts _ (nat_le 1 month) c.0 in
    let a = parts (nat_le 2000 year) (nat_le year 2099) b.0 in
    let low : 2000 ≤ year = le_from _ _ a.0 in
    let high : year ≤ 2099 = le_from _ _ a.1 in
    let first_month : 1 ≤ month = le_from _ _ b.1 in
    let last_month : month ≤ 12 = le_from _ _ c.1 in
    let first_day : 1 ≤ day = le_from _ _ d.1 in
    let last_day : day ≤ days_in_month (pos year) month = le_from _ _ e.1 in
    record {
      century = omega arith;
      date = ((omega (arith, ints), omega (arith, ints)), (omega (arith, ints), omega (arith, ints)), (omega (arith, ints), omega (arith, ints)));
      hour_below = lt_from _ _ f.1;
      minute_below = lt_from _ _ g.1;
    }

-- two digits spell their number
two_of : (n : ℕ) → n < 100 → 10 * ((48 + n / 10 % 10) - 48) + ((48 + n % 10) - 48) ≡ n
two_of n lt = omega arith

-- the last two digits of a year spell its years from 2000
year_of : (n : ℕ) → 2000 ≤ n → n ≤ 2099 → 2000 + (10 * ((48 + n / 10 % 10) - 48) + ((48 + n % 10) - 48)) ≡ n
year_of n low high = omega arith

natural_is : (z : ℤ) (at : ℕ) → natural z ≡ Some at → pos at ≡ z
natural_is (pos n) at is = grind arith
natural_is (negsuc n) at is = absurd cc

chosen : (b : Bool) (o : Option ℕ) (at : ℕ) → cond b o None ≡ Some at → (b ≡ true) × (o ≡ Some at)
chosen true o at is = (refl, is)
chosen false o at is = absurd cc

-- what the parts and the text give
from_parts : (text : List ℕ) (year month day hour minute at : ℕ) → IsTime year month day hour minute → text ≡ time_text year month day hour minute → pos at ≡ minutes_until year month day hour minute
    → time_from text year month day hour minute ≡ Some at
unfolding time_from
from_parts text year month day hour minute at time spelled counted =
    let passes = both _ _ (time_passes year month day hour minute time) ((bytes_eq-Decides text (time_text year month day hour minute)).1 spelled) in
    rw (passes, ← counted) refl

-- where they give a minute, it is the text's
to_parts : (text : List ℕ) (year month day hour minute at : ℕ) → time_from text year month day hour minute ≡ Some at → IsTimeText text at
unfolding time_from
to_parts text year month day hour minute at is =
    let c = chosen (is_time year month day hour minute && bytes_eq text (time_text year month day hour minute)) (natural (minutes_until year month day hour minute)) at is in
    let p = parts (is_time year month day hour minute) (bytes_eq text (time_text year month day hour minute)) c.0 in
    record {
      year = year;
      month = month;
      day = day;
      hour = hour;
      minute = minute;
      time = passing_time year month day hour minute p.0;
      spelled = (bytes_eq-Decides text (time_text year month day hour minute)).0 p.1;
      counted = natural_is (minutes_until year month day hour minute) at c.1;
    }

-- the text of a time has its civil minute
pub time_of_text : (text : List ℕ) (at : ℕ) → IsTimeText text at → time_of text ≡ Some at
unfolding time_of
time_of_text text at t =
    let month_high : t.month ≤ 12 = omega (arith, ints, t.time.date.1) in
    let day_high : t.day ≤ 31 = omega (arith, ints, t.time.date.2, month_within (pos t.year) t.month) in
    let y = year_of t.year (omega (arith, t.time.century)) (omega (arith, t.time.century)) in
    let m = two_of t.month (omega arith) in
    let d = two_of t.day (omega arith) in
    let h = two_of t.hour (omega (arith, t.time.hour_below)) in
    let n = two_of t.minute (omega (arith, t.time.minute_below)) in
    let whole = from_parts text t.year t.month t.day t.hour t.minute at t.time t.spelled t.counted in
    ap time_of t.spelled ∙ rw (y, m, d, h, n) (ap (λ (s : List ℕ). time_from s t.year t.month t.day t.hour t.minute) (sym t.spelled) ∙ whole)

-- a text that has a minute is that of a time
pub text_of_time : (text : List ℕ) (at : ℕ) → time_of text ≡ Some at → IsTimeText text at
unfolding time_of
text_of_time text at is = to_parts text (2000 + digits_at text 2) (digits_at text 5) (digits_at text 8) (digits_at text 11) (digits_at text 14) at is

-- exactly the texts of times have a minute, and it is their civil minute
pub time_of-exact : (text : List ℕ) (at : ℕ) → (time_of text ≡ Some at) ↔ IsTimeText text at
time_of-exact text at = (text_of_time text at, time_of_text text at)

-- what has no value is none
none_of : (o : Option ℕ) → ((n : ℕ) → o ≡ Some n → ⊥) → None ≡ o
none_of None not = refl
none_of (Some n) not = absurd (not n refl)

-- the minute that was read, or none
pub read_time : (text : List ℕ) (r : Result ℕ BadTime) → IfOk r (IsTimeText text) → IfErr r (λ bad. IsBadFrom text bad.place) → result_ok r ≡ time_of text
read_time text (Ok at) time bad = sym (time_of_text text at time)
read_time text (Err e) time bad = none_of (time_of text) (λ at is. bad.none at (text_of_time text at is))
