-- The days that a graph shows are those that hold a unit of its history.
use Rattle.std.proofs.Common.{◌≡◌, ◌↔◌, ℕ, ◌+◌, ◌-◌, ◌*◌, ◌/◌, ◌<◌, ◌≤◌, true, false, cond, List, length, map, get_or, refl, sym, ◌∙◌, arith, inl, inr}
use Rattle.std.specs.Prelude.{◌==◌, Contains}
use Rattle.std.specs.List.{range_with_len}
use Rattle.std.specs.List.Sorted.{IsStrictlyIncreasing}
use Rattle.std.proofs.lemmas.Bool.{cases_lt}
use Rattle.std.proofs.lemmas.Bool.Decides.{nat_tests}
use Rattle.std.proofs.lemmas.List.FromFn.{length-map-range_with_len, get_or-map-range_with_len}
use Rattle.duty_core.specs.declared.activity.Activity.{Activity}
use Rattle.duty_core.specs.declared.limits.TheConstants.{DAY_MINUTES}
use Rattle.duty_core.specs.declared.params.Params.{Params}
use Rattle.duty_core.specs.Day.{day_start}
use Rattle.duty_core.specs.Laws.BookFacts.{begins_whole, starts_in_day}
use Rattle.duty_core.specs.Params.{BookUnit, InMinutes, InQuarters, minutes_in, terms_of, AreGoodParams, BeginsUnit, unit_minutes}
use Rattle.log_graph.specs.Graph.{day_begin, count_days, days_of}
use Rattle.log_graph.specs.Days.{BeginsDay, HoldsUnit}

-- ---- a list of days, one after another

-- the days from one on, as many as these
abbrev days_from : ℕ → ℕ → List ℕ
days_from begin n = map (λ (day : ℕ). begin + DAY_MINUTES * day) (range_with_len 0 n)

-- the place of a day among them
record IsAmong (begin n day : ℕ) : Type 0 where
  pub number : ℕ
  pub below : number < n
  pub is : day ≡ begin + DAY_MINUTES * number

day_at_place : (begin n k d : ℕ) → k < n → get_or (days_from begin n) k d ≡ begin + DAY_MINUTES * k
day_at_place begin n k d lt = get_or-map-range_with_len (λ (day : ℕ). begin + DAY_MINUTES * day) 0 n k k d lt (omega arith)

among : (begin n day : ℕ) → Contains (days_from begin n) day ↔ IsAmong begin n day
among begin n day =
    let long : length (days_from begin n) ≡ n = length-map-range_with_len (λ (day : ℕ). begin + DAY_MINUTES * day) 0 n in (
      (λ c. let at = c.0 in let lt = c.1 in let below : at < n = omega arith in record { number = at; below = below; is = sym c.2 ∙ day_at_place begin n at day below }),
      (λ a. let below = a.below in (a.number, omega arith, day_at_place begin n a.number day below ∙ sym a.is)),
    )

days_rise : (begin n : ℕ) → IsStrictlyIncreasing (days_from begin n)
days_rise begin n k lt =
    let long : length (days_from begin n) ≡ n = length-map-range_with_len (λ (day : ℕ). begin + DAY_MINUTES * day) 0 n in
    let here = day_at_place begin n k 0 (omega arith) in
    let next = day_at_place begin n (k + 1) 0 (omega arith) in
    omega arith

-- ---- the first day

-- The day of a minute begins at the minute or before it, and less than a day before.
record IsDayOf (params : Params) (at begin : ℕ) : Type 0 where
  pub begins : BeginsDay params begin
  pub after : begin ≤ at
  pub near : at < begin + DAY_MINUTES

day_found : (params : Params) (at : ℕ) → AreGoodParams params → DAY_MINUTES ≤ at → IsDayOf params at (day_begin params at)
day_found params at good early =
    let start = day_start params in
    let within : start < DAY_MINUTES = starts_in_day params good in
    record {
      begins = record { days = (at + (DAY_MINUTES - start)) / DAY_MINUTES - 1; whole = omega arith };
      after = omega arith;
      near = omega arith;
    }

-- ---- the days with units

-- A unit that begins in a day ends in it.
ends_in : (u : BookUnit) (k s d first start day unit : ℕ) → first ≡ minutes_in u * k → start ≡ minutes_in u * s → day ≡ start + DAY_MINUTES * d → first + minutes_in u * unit < day + DAY_MINUTES → first + minutes_in u * (unit + 1) ≤ day + DAY_MINUTES
ends_in InMinutes k s d first start day unit a b c lt = omega arith
ends_in InQuarters k s d first start day unit a b c lt = omega arith

unit_ends : (params : Params) (first day unit : ℕ) → BeginsUnit params first → BeginsDay params day → first + unit_minutes params * unit < day + DAY_MINUTES → first + unit_minutes params * (unit + 1) ≤ day + DAY_MINUTES
unit_ends params first day unit units begins lt =
    let starts = begins_whole params in
    ends_in (terms_of params).unit units.units starts.units begins.days first (day_start params) day unit units.whole starts.whole begins.whole lt

-- a day that begins after the history's first minute and before its end begins with a unit of it
begins_in : (u : BookUnit) (k s d first start day n : ℕ) → first ≡ minutes_in u * k → start ≡ minutes_in u * s → day ≡ start + DAY_MINUTES * d → first ≤ day → day < first + minutes_in u * n → (unit : ℕ) × (unit < n) × (day ≡ first + minutes_in u * unit)
begins_in InMinutes k s d first start day n a b c after before = (day - first, omega arith, omega arith)
begins_in InQuarters k s d first start day n a b c after before = (s + 96 * d - k, omega arith, omega arith)

unit_begins : (params : Params) (first day n : ℕ) → BeginsUnit params first → BeginsDay params day → first ≤ day → day < first + unit_minutes params * n → (unit : ℕ) × (unit < n) × (day ≡ first + unit_minutes params * unit)
unit_begins params first day n units begins after before =
    let starts = begins_whole params in
    begins_in (terms_of params).unit units.units starts.units begins.days first (day_start params) day n units.whole starts.whole begins.whole after before

-- units have minutes
some_minutes : (u : BookUnit) (unit : ℕ) → 0 < minutes_in u * (unit + 1)
some_minutes InMinutes unit = omega arith
some_minutes InQuarters unit = omega arith

more_minutes : (u : BookUnit) (unit n : ℕ) → unit < n → minutes_in u * unit < minutes_in u * n
more_minutes InMinutes unit n lt = omega arith
more_minutes InQuarters unit n lt = omega arith

-- so many days are counted that each begins before the history's end
counted_below : (minutes n k : ℕ) → k < cond (n == 0) 0 ((minutes + (DAY_MINUTES - 1)) / DAY_MINUTES) → (0 < n) × (DAY_MINUTES * k < minutes)
counted_below minutes n k = elim (n == 0) as (λ b. (n == 0) ≡ b → k < cond b 0 ((minutes + (DAY_MINUTES - 1)) / DAY_MINUTES) → (0 < n) × (DAY_MINUTES * k < minutes)) [
  | true ↦ λ is lt. absurd (omega arith)
  | false ↦ λ is lt. (grind (arith, nat_tests), omega arith)
] refl

counted_above : (minutes n k : ℕ) → 0 < n → DAY_MINUTES * k < minutes → k < cond (n == 0) 0 ((minutes + (DAY_MINUTES - 1)) / DAY_MINUTES)
counted_above minutes n k some lt = elim (n == 0) as (λ b. (n == 0) ≡ b → k < cond b 0 ((minutes + (DAY_MINUTES - 1)) / DAY_MINUTES)) [
  | true ↦ λ is. absurd (grind (arith, nat_tests))
  | false ↦ λ is. omega arith
] refl

-- a day that is shown
shown_day : (params : Params) (first : ℕ) (h : List Activity) (day : ℕ) → AreGoodParams params → BeginsUnit params first → IsDayOf params first (day_begin params first)
    → IsAmong (day_begin params first) (count_days params first h) day → BeginsDay params day × HoldsUnit params first h day
shown_day params first h day good units found a =
    let begin = day_begin params first in
    let after : begin ≤ first = found.after in
    let near : first < begin + DAY_MINUTES = found.near in
    let begins = found.begins in
    let is = a.is in
    let c = counted_below (first + unit_minutes params * length h - begin) (length h) a.number a.below in
    let some : 0 < length h = c.0 in
    let lt : DAY_MINUTES * a.number < first + unit_minutes params * length h - begin = c.1 in
    let here : BeginsDay params day = record { days = begins.days + a.number; whole = (let w = begins.whole in omega arith) } in (
      here,
      elim (cases_lt first day) [
        | inl later ↦
            let u = unit_begins params first day (length h) units here (omega arith) (omega arith) in
            let there = u.2 in
            record { unit = u.0; there = u.1; after = omega arith; before = unit_ends params first day u.0 units here (omega arith) }
        | inr sooner ↦ record { unit = 0; there = some; after = omega arith; before = unit_ends params first day 0 units here (omega arith) }
      ],
    )

-- and a day that holds a unit
day_shown : (params : Params) (first : ℕ) (h : List Activity) (day : ℕ) → IsDayOf params first (day_begin params first)
    → BeginsDay params day → HoldsUnit params first h day → IsAmong (day_begin params first) (count_days params first h) day
day_shown params first h day found begins holds =
    let begin = day_begin params first in
    let after : begin ≤ first = found.after in
    let near : first < begin + DAY_MINUTES = found.near in
    let first_day : begin ≡ day_start params + DAY_MINUTES * found.begins.days = found.begins.whole in
    let whole = begins.whole in
    let some = some_minutes (terms_of params).unit holds.unit in
    let more = more_minutes (terms_of params).unit holds.unit (length h) holds.there in
    let from = holds.after in
    let to = holds.before in
    let is : day ≡ begin + DAY_MINUTES * (begins.days - found.begins.days) = omega arith in
    let there = holds.there in
    record { number = begins.days - found.begins.days; below = counted_above (first + unit_minutes params * length h - begin) (length h) (begins.days - found.begins.days) (omega arith) (omega arith); is = is }

-- the days of a graph are those that hold a unit
pub days_shown : (params : Params) (first : ℕ) (h : List Activity) (day : ℕ) → AreGoodParams params → BeginsUnit params first → DAY_MINUTES ≤ first →
    Contains (days_of params first h) day ↔ (BeginsDay params day × HoldsUnit params first h day)
days_shown params first h day good units early =
    let found = day_found params first good early in
    let at = among (day_begin params first) (count_days params first h) day in (
      (λ c. shown_day params first h day good units found (at.0 c)),
      (λ p. at.1 (day_shown params first h day found p.0 p.1)),
    )

pub days_in_order : (params : Params) (first : ℕ) (h : List Activity) → IsStrictlyIncreasing (days_of params first h)
days_in_order params first h = days_rise (day_begin params first) (count_days params first h)
