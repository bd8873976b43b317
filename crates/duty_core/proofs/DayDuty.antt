-- The numbers of days, place by place, and the duty of a day so far.
use Rattle.std.proofs.Common.{◌≡◌, ◌↔◌, ℕ, ◌+◌, ◌-◌, ◌*◌, ◌/◌, ◌<◌, ◌≤◌, Bool, List, length, take, refl, sym, ◌∙◌, ap, arith, inl, inr, length-drop}
use Rattle.std.specs.Prelude.{ℤ, pos, ◌+ℤ◌, ◌-ℤ◌}
use Rattle.std.proofs.lemmas.Bool.{cases_lt}
use Rattle.std.proofs.lemmas.Int.{ints}
use Rattle.std.proofs.lemmas.List.{length-take}
use Rattle.std.proofs.lemmas.List.Sums.{count_by-le-length}
use Rattle.duty_core.specs.declared.activity.Activity.{Activity}
use Rattle.duty_core.specs.declared.params.Params.{Params}
use Rattle.duty_core.specs.declared.params.Params.TheVariants.{UsProperty, Canada, Hvnl}
use Rattle.duty_core.specs.declared.params.RestWay.{RestWay}
use Rattle.duty_core.specs.declared.limits.TheConstants.{DAY_MINUTES}
use Rattle.duty_core.specs.Activity.{works}
use Rattle.duty_core.specs.Params.{BookUnit, InMinutes, InQuarters, minutes_in, units_in_day, terms_of, unit_minutes, day_units, BeginsUnit}
use Rattle.duty_core.specs.History.{pad_days, pad_units, unit_at, between}
use Rattle.duty_core.specs.Day.{day_start, minute_at, day_number, IsNumberOfDay, IsFirstOfDays}
use Rattle.duty_core.specs.Counting.{duty}
use Rattle.duty_core.specs.DayMeaning.{BeginsDay, LiesInDay, HasDayDuty, duty_of}
use Rattle.duty_core.specs.Laws.DayLaws.{padding_days}
use Rattle.duty_core.specs.Laws.BookFacts.{begins_whole}
use Rattle.duty_core.specs.Laws.CountLaws.{count_more, count_none}
use Rattle.duty_core.specs.Laws.CountBaseLaws.{day_on, has_first_at}
use Rattle.duty_core.specs.Laws.UniqueLaws.{first_of_days_unique}

-- # Minutes

lies_from : (m s n k q : ℕ) (date minute : ℤ) → s ≤ DAY_MINUTES → date +ℤ pos (k + 1) ≡ pos n → minute +ℤ pos (k * DAY_MINUTES) ≡ pos m → q ≡ (m + (DAY_MINUTES - s)) / DAY_MINUTES → q ≡ n → LiesInDay s date minute
lies_from m s n k q date minute l d e h g = record {
  begun = omega (arith, ints);
  before_next = omega (arith, ints);
}

lies_means : (m s n k q : ℕ) (date minute : ℤ) → s ≤ DAY_MINUTES → date +ℤ pos (k + 1) ≡ pos n → minute +ℤ pos (k * DAY_MINUTES) ≡ pos m → q ≡ (m + (DAY_MINUTES - s)) / DAY_MINUTES → LiesInDay s date minute → q ≡ n
lies_means m s n k q date minute l d e h g = let a = g.begun in let b = g.before_next in omega (arith, ints)

-- a place's minute, counted from the beginning of the padding
from_padding : (params : Params) (first i : ℕ) → minute_at params first i +ℤ pos (pad_days * DAY_MINUTES) ≡ pos (first + unit_minutes params * i)
from_padding params first i = let e = padding_days params in omega (arith, ints)

pub number_is_of_minute : (params : Params) (first i n : ℕ) (date : ℤ) → day_start params ≤ DAY_MINUTES → IsNumberOfDay date n →
    (day_number params first i ≡ n) ↔ LiesInDay (day_start params) date (minute_at params first i)
number_is_of_minute params first i n date l d =
    let e = from_padding params first i in (
      (λ h. lies_from (first + unit_minutes params * i) (day_start params) n pad_days (day_number params first i) date (minute_at params first i) l d e refl h),
      (λ h. lies_means (first + unit_minutes params * i) (day_start params) n pad_days (day_number params first i) date (minute_at params first i) l d e refl h),
    )

-- the minutes of a history's units, and where days begin
pub us_minute : (berth : Bool) (days start first k : ℕ) → (minute_at (UsProperty berth days start) first (pad_units (UsProperty berth days start) + k) ≡ pos (first + k)) × (day_start (UsProperty berth days start) ≡ start)
us_minute berth days start first k = (omega (arith, ints), refl)

pub canada_minute : (berth : Bool) (way : RestWay) (cycle start first k : ℕ) → (minute_at (Canada berth way cycle start) first (pad_units (Canada berth way cycle start) + k) ≡ pos (first + k)) × (day_start (Canada berth way cycle start) ≡ start)
canada_minute berth way cycle start first k = (omega (arith, ints), refl)

pub australia_minute : (first k : ℕ) → (minute_at Hvnl first (pad_units Hvnl + k) ≡ pos (first + 15 * k)) × (day_start Hvnl ≡ 0)
australia_minute first k = (omega (arith, ints), refl)

rises_at : (m u s k : ℕ) (date minute : ℤ) → 0 < u → u ≤ DAY_MINUTES → s ≤ DAY_MINUTES → minute +ℤ pos (k * DAY_MINUTES) ≡ pos (m + u) → BeginsDay s date minute → (m + u + (DAY_MINUTES - s)) / DAY_MINUTES ≡ (m + (DAY_MINUTES - s)) / DAY_MINUTES + 1
rises_at m u s k date minute some small l e b = omega (arith, ints)

unit_within : (u : BookUnit) → (0 < minutes_in u) × (minutes_in u ≤ DAY_MINUTES)
unit_within InMinutes = (omega arith, omega arith)
unit_within InQuarters = (omega arith, omega arith)

pub number_rises : (params : Params) (first i : ℕ) (date : ℤ) → day_start params ≤ DAY_MINUTES → BeginsDay (day_start params) date (minute_at params first (i + 1)) → day_number params first (i + 1) ≡ day_number params first i + 1
number_rises params first i date l b =
    let u = unit_within (terms_of params).unit in
    let e = from_padding params first (i + 1) in
    let m : first + unit_minutes params * (i + 1) ≡ first + unit_minutes params * i + unit_minutes params = omega arith in
    let r = rises_at (first + unit_minutes params * i) (unit_minutes params) (day_start params) pad_days date (minute_at params first (i + 1)) u.0 u.1 l (e ∙ ap pos m) b in
    ap (λ n. (n + (DAY_MINUTES - day_start params)) / DAY_MINUTES) m ∙ r

unit_begins : (u : BookUnit) (start first i whole units : ℕ) → start ≤ DAY_MINUTES → start ≡ minutes_in u * whole → first ≡ minutes_in u * units →
    (first + minutes_in u * i + (DAY_MINUTES - start)) / DAY_MINUTES < (first + minutes_in u * (i + 1) + (DAY_MINUTES - start)) / DAY_MINUTES →
    first + minutes_in u * (i + 1) + DAY_MINUTES ≡ DAY_MINUTES * ((first + minutes_in u * (i + 1) + (DAY_MINUTES - start)) / DAY_MINUTES) + start
unit_begins InMinutes start first i whole units l s b r = omega arith
unit_begins InQuarters start first i whole units l s b r = omega arith

-- where the number rises, a day begins
begins_where : (params : Params) (first i : ℕ) → day_start params ≤ DAY_MINUTES → BeginsUnit params first → day_number params first i < day_number params first (i + 1) →
    first + unit_minutes params * (i + 1) + DAY_MINUTES ≡ DAY_MINUTES * day_number params first (i + 1) + day_start params
begins_where params first i l b r =
    let s = begins_whole params in
    unit_begins (terms_of params).unit (day_start params) first i s.units b.units l s.whole b.whole r

begins_at : (m s n k : ℕ) (minute : ℤ) → minute +ℤ pos (k * DAY_MINUTES) ≡ pos m → m + DAY_MINUTES ≡ DAY_MINUTES * n + s → BeginsDay s (pos n -ℤ pos (k + 1)) minute
begins_at m s n k minute e h = omega (arith, ints)

pub number_stays : (params : Params) (first i : ℕ) → day_start params ≤ DAY_MINUTES → BeginsUnit params first → ((date : ℤ) → BeginsDay (day_start params) date (minute_at params first (i + 1)) → ⊥) →
    day_number params first (i + 1) ≡ day_number params first i
number_stays params first i l b none = elim (cases_lt (day_number params first i) (day_number params first (i + 1))) [
  | inl r ↦ absurd (none (pos (day_number params first (i + 1)) -ℤ pos (pad_days + 1))
      (begins_at (first + unit_minutes params * (i + 1)) (day_start params) (day_number params first (i + 1)) pad_days (minute_at params first (i + 1)) (from_padding params first (i + 1)) (begins_where params first i l b r)))
  | inr r ↦ (let o = day_on params first i (i + 1) (omega arith) in omega arith)
]

unit_one_more : (u : BookUnit) (start first i : ℕ) → (first + minutes_in u * (i + 1) + (DAY_MINUTES - start)) / DAY_MINUTES ≤ (first + minutes_in u * i + (DAY_MINUTES - start)) / DAY_MINUTES + 1
unit_one_more InMinutes start first i = omega arith
unit_one_more InQuarters start first i = omega arith

-- the number rises by one at most
one_more : (params : Params) (first i : ℕ) → day_number params first (i + 1) ≤ day_number params first i + 1
one_more params first i = unit_one_more (terms_of params).unit (day_start params) first i

pub rises_at_first_unit : (params : Params) (first i : ℕ) → (day_number params first (i + 1) ≡ day_number params first i + 1) ↔ IsFirstOfDays (day_number params first) 1 (i + 1) (i + 1)
rises_at_first_unit params first i = (
  (λ e. record {
    inside = omega arith;
    first = λ k h. elim (cases_lt i k) [ inl l ↦ omega arith | inr l ↦ absurd (let o = day_on params first k i l in omega arith) ];
  }),
  (λ f. elim (cases_lt (day_number params first i) (day_number params first (i + 1))) [
    | inl l ↦ (let o = one_more params first i in omega arith)
    | inr l ↦ absurd (let z = f.first i (omega arith) in omega arith)
  ]),
)

-- # The duty of a day

-- the first place of a day is no later than each place of the day
first_before : (params : Params) (first i from : ℕ) → IsFirstOfDays (day_number params first) 1 i from → from ≤ i
first_before params first i from h = h.first i (omega arith)

pub day_duty_told : (params : Params) (first i : ℕ) (p : List Activity) → (n : ℕ) × HasDayDuty (day_number params first) p i n
day_duty_told params first i p = let f = has_first_at params first 1 i (omega arith) in (duty p f.0 (i + 1), record { from = f.0; first = f.1; counted = refl })

pub one_day_duty : (params : Params) (first i n m : ℕ) (p : List Activity) → HasDayDuty (day_number params first) p i n → HasDayDuty (day_number params first) p i m → n ≡ m
one_day_duty params first i n m p h g =
    let e = first_of_days_unique (day_number params first) 1 i h.from g.from h.first g.first in
    sym h.counted ∙ (ap (λ k. duty p k (i + 1)) e ∙ g.counted)

-- the duty up to the next place
duty_more : (p : List Activity) (from i : ℕ) → from ≤ i + 1 → duty p from (i + 1 + 1) ≡ duty p from (i + 1) + duty_of (unit_at p (i + 1))
duty_more p from i l =
    let n : ℕ = i + 1 - from in
    let e : from + n ≡ i + 1 = omega arith in
    let f : from + (n + 1) ≡ i + 1 + 1 = omega arith in
    ap (duty p from) (sym f) ∙ (count_more works p from n refl ∙ ap (λ k. duty p from k + duty_of (unit_at p k)) e)

pub day_duty_grows : (params : Params) (first i n : ℕ) (p : List Activity) → day_number params first (i + 1) ≡ day_number params first i → HasDayDuty (day_number params first) p i n → HasDayDuty (day_number params first) p (i + 1) (n + duty_of (unit_at p (i + 1)))
day_duty_grows params first i n p e h =
    let l = first_before params first i h.from h.first in
    record {
      from = h.from;
      first = record { inside = let a = h.first.inside in omega arith; first = λ k b. h.first.first k (omega arith) };
      counted = duty_more p h.from i (omega arith) ∙ ap (λ k. k + duty_of (unit_at p (i + 1))) h.counted;
    }

pub day_duty_anew : (params : Params) (first i : ℕ) (p : List Activity) → day_number params first (i + 1) ≡ day_number params first i + 1 → HasDayDuty (day_number params first) p (i + 1) (duty_of (unit_at p (i + 1)))
day_duty_anew params first i p e = record {
  from = i + 1;
  first = (rises_at_first_unit params first i).0 e;
  counted =
      let none : duty p (i + 1) (i + 1) ≡ 0 = ap (duty p (i + 1)) (omega arith) ∙ count_none works p (i + 1) in
      let more = duty_more p (i + 1) i (omega arith) in
      omega arith;
}

unit_day_long : (u : BookUnit) (start first j i : ℕ) → j ≤ i → (first + minutes_in u * j + (DAY_MINUTES - start)) / DAY_MINUTES ≡ (first + minutes_in u * i + (DAY_MINUTES - start)) / DAY_MINUTES → i < j + units_in_day u
unit_day_long InMinutes start first j i l e = omega arith
unit_day_long InQuarters start first j i l e = omega arith

units_of_day : (params : Params) (first j i : ℕ) → j ≤ i → day_number params first j ≡ day_number params first i → i < j + day_units params
units_of_day params first j i l e = unit_day_long (terms_of params).unit (day_start params) first j i l e

between_short : (p : List Activity) (from to : ℕ) → length (between p from to) ≤ to - from
between_short p from to = omega (arith, length-drop from (take to p), length-take to p)

pub day_duty_most : (params : Params) (first i n : ℕ) (p : List Activity) → HasDayDuty (day_number params first) p i n → n ≤ day_units params
day_duty_most params first i n p h =
    let l = first_before params first i h.from h.first in
    let o = day_on params first h.from i l in
    let a = h.first.inside in
    let u = units_of_day params first h.from i l (omega arith) in
    let c = count_by-le-length works (between p h.from (i + 1)) in
    let b = between_short p h.from (i + 1) in
    let e = h.counted in
    omega arith
