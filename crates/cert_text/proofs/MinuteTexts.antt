-- Each minute of the years 2000 to 2099 has a text.
use Rattle.std.proofs.Common.{◌≡◌, ℕ, zero, suc, ◌+◌, ◌/◌, ◌%◌, ◌<◌, ◌≤◌, inl, inr, pos, List, refl, sym, ap, subst, ◌∙◌, arith}
use Rattle.std.proofs.lemmas.Bool.{cases_lt}
use Rattle.jiff_core.specs.Calendar.{day_count, days_in_month}
use Rattle.jiff_core.proofs.SignedLemmas.{signed_arith}
use Rattle.jiff_core.proofs.CalendarLemmas.{days_from_civil-day_count, days_in_month_bounds, day_count-day, day_count-next_month, day_count-next_year, day_count-last_of_year}
use Rattle.civil_minutes.specs.declared.century.TheConstants.{MINUTES_OF_CENTURY}
use Rattle.civil_minutes.specs.Time.{days_after_2000, time_text, IsTimeText}
use Rattle.civil_minutes.proofs.CenturyDates.{day_count-2000, day_count-2100, first_epoch_day}

-- a date of these years, so many days after the first
record HasDate (k : ℕ) : Type 0 where
  year : ℕ
  month : ℕ
  day : ℕ
  year_low : 2000 ≤ year
  year_high : year ≤ 2099
  month_low : 1 ≤ month
  month_high : month ≤ 12
  day_low : 1 ≤ day
  day_high : day ≤ days_in_month (pos year) month
  count : day_count (pos year) month day ≡ 4_382_910 + k

next_day : (k : ℕ) (d : HasDate k) → d.day < days_in_month (pos d.year) d.month → HasDate (suc k)
next_day k d lt =
    let low = d.day_low in
    let same = day_count-day (pos d.year) d.month d.day (d.day + 1) low (omega arith) in
    let so_far = d.count in
    record {
      year = d.year;
      month = d.month;
      day = d.day + 1;
      year_low = d.year_low;
      year_high = d.year_high;
      month_low = d.month_low;
      month_high = d.month_high;
      day_low = omega arith;
      day_high = omega (arith, lt);
      count = omega (arith, same, so_far);
    }

next_month : (k : ℕ) (d : HasDate k) → days_in_month (pos d.year) d.month ≤ d.day → d.month < 12 → HasDate (suc k)
next_month k d le lt =
    let high = d.day_high in
    let low = d.day_low in
    let month_low = d.month_low in
    let same = day_count-day (pos d.year) d.month d.day 1 low (omega arith) in
    let begun = day_count-next_month (pos d.year) d.month month_low in
    let so_far = d.count in
    let long = days_in_month_bounds (pos d.year) (d.month + 1) in
    record {
      year = d.year;
      month = d.month + 1;
      day = 1;
      year_low = d.year_low;
      year_high = d.year_high;
      month_low = omega arith;
      month_high = omega (arith, lt);
      day_low = omega arith;
      day_high = omega (arith, long.1);
      count = omega (arith, same, so_far, begun, le, high);
    }

-- the last day of December
last_count : (y m d k : ℕ) → m ≡ 12 → d ≡ days_in_month (pos y) m → day_count (pos y) m d ≡ k → day_count (pos y) 12 31 ≡ k
last_count y m d k e f h = sym (ap (λ i. day_count (pos y) i d) e ∙ ap (λ i. day_count (pos y) 12 i) (f ∙ ap (days_in_month (pos y)) e)) ∙ h

-- the last of these years has no next one
before_last : (y k : ℕ) → y ≤ 2099 → day_count (pos (y + 1)) 1 1 ≡ 4_382_910 + suc k → k + 1 < 36525 → y < 2099
before_last y k le next few =
    elim (cases_lt y 2099) [
      | inl lt ↦ lt
      | inr ge ↦
          let e : y ≡ 2099 = omega (arith, le, ge) in
          let there : day_count (pos (2099 + 1)) 1 1 ≡ 4_382_910 + suc k = subst (λ i. day_count (pos (i + 1)) 1 1 ≡ 4_382_910 + suc k) e next in
          absurd (omega (arith, there, day_count-2100, few))
    ]

next_year : (k : ℕ) (d : HasDate k) → k + 1 < 36525 → days_in_month (pos d.year) d.month ≤ d.day → 12 ≤ d.month → HasDate (suc k)
next_year k d few le end =
    let high = d.day_high in
    let month_high = d.month_high in
    let year_high = d.year_high in
    let count = last_count d.year d.month d.day (4_382_910 + k) (omega arith) (omega arith) d.count in
    let last = day_count-last_of_year (pos d.year) in
    let begun = day_count-next_year (pos d.year) (pos (d.year + 1)) (omega (arith, signed_arith)) (omega (arith, signed_arith)) in
    let next : day_count (pos (d.year + 1)) 1 1 ≡ 4_382_910 + suc k = omega (arith, count, last, begun) in
    let not_last : d.year < 2099 = before_last d.year k (omega (arith, year_high)) next few in
    record {
      year = d.year + 1;
      month = 1;
      day = 1;
      year_low = (let low = d.year_low in omega arith);
      year_high = omega (arith, not_last);
      month_low = omega arith;
      month_high = omega arith;
      day_low = omega arith;
      day_high = (let long = days_in_month_bounds (pos (d.year + 1)) 1 in omega (arith, long.1));
      count = next;
    }

a_date : (k : ℕ) → k < 36525 → HasDate k
a_date zero lt = record {
  year = 2000;
  month = 1;
  day = 1;
  year_low = omega arith;
  year_high = omega arith;
  month_low = omega arith;
  month_high = omega arith;
  day_low = omega arith;
  day_high = (let long = days_in_month_bounds (pos 2000) 1 in omega (arith, long.1));
  count = omega (arith, day_count-2000);
}
a_date (suc k) lt =
    let d = a_date k (omega arith) in
    elim (cases_lt d.day (days_in_month (pos d.year) d.month)) [
      | inl lt ↦ next_day k d lt
      | inr le ↦ elim (cases_lt d.month 12) [
        | inl lt ↦ next_month k d le lt
        | inr end ↦ next_year k d (omega arith) le end
      ]
    ]

-- a text of the minute
pub minute_text : (at : ℕ) → at < MINUTES_OF_CENTURY → (text : List ℕ) × IsTimeText text at
minute_text at lt =
    let d = a_date (at / 1440) (omega arith) in
    let number = days_from_civil-day_count (pos d.year) d.month d.day in
    let count = d.count in
    let days : days_after_2000 (pos d.year) d.month d.day ≡ pos (at / 1440) = rw first_epoch_day (omega (arith, signed_arith, number, count)) in
    let year_low = d.year_low in
    let year_high = d.year_high in
    let month_low = d.month_low in
    let month_high = d.month_high in
    let day_low = d.day_low in
    let day_high = d.day_high in (
      time_text d.year d.month d.day (at % 1440 / 60) (at % 1440 % 60),
      record {
        year = d.year;
        month = d.month;
        day = d.day;
        hour = at % 1440 / 60;
        minute = at % 1440 % 60;
        time = record {
          century = (d.year_low, d.year_high);
          date = ((omega (arith, signed_arith), omega (arith, signed_arith)), (omega (arith, signed_arith), omega (arith, signed_arith)), (omega (arith, signed_arith), omega (arith, signed_arith)));
          hour_below = omega arith;
          minute_below = omega arith;
        };
        spelled = refl;
        counted = rw days (omega (arith, signed_arith));
      },
    )
