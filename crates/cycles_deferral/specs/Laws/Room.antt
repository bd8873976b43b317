-- Along a history each minute of duty fits in its day.
use Rattle.std.proofs.Common.{◌≡◌, ℕ, ◌+◌, ◌-◌, ◌<◌, ◌≤◌, ◌⊎◌, Bool, true, false, cond, List, [], ◌∷◌, length, refl, ◌∙◌, ap, arith, inl, inr, zero, suc}
use Rattle.std.proofs.lemmas.Bool.{cases_lt}
use Rattle.std.proofs.lemmas.List.Sums.{sum_by-cons}
use Rattle.duty_core.specs.declared.activity.Activity.{Activity}
use Rattle.duty_core.specs.declared.limits.TheConstants.{DAY_MINUTES}
use Rattle.duty_core.specs.Activity.{works}
use Rattle.duty_core.specs.History.{unit_at}
use Rattle.duty_core.specs.Counting.{duty}
use Rattle.duty_core.specs.Laws.CountLaws.{count_more, count_none}
use Rattle.duty_core.specs.CaCycle.{cycle_reset}
use Rattle.day_sums.specs.Sums.{first_days, today}
use Rattle.day_sums.specs.Laws.SumLaws.{today_rolled, today_cleared}
use Rattle.cycles_deferral.specs.declared.cycle.CycleCount.{CycleCount}
use Rattle.cycles_deferral.specs.CycleMachine.{HasRoom}
use Rattle.cycles_deferral.specs.Paths.{AreDays, begins}
use Rattle.cycles_deferral.specs.Laws.Tracks.{days_up_to}
use Rattle.cycles_deferral.specs.Counts.{Counts}
use Rattle.cycles_deferral.specs.Laws.Counts.{is_turn, days_some}

one_most : (b : Bool) → cond {A = ℕ} b 1 0 ≤ 1
one_most true = omega arith
one_most false = omega arith

-- duty is no longer than its stretch
duty_most : (p : List Activity) (i n : ℕ) → duty p i (i + n) ≤ n
duty_most p i zero = let a = count_none works p i in omega arith
duty_most p i (suc n) =
    let a = duty_most p i n in
    let b : duty p i (i + suc n) ≡ duty p i (i + (n + 1)) = ap (duty p i) (let z : i + suc n ≡ i + (n + 1) = omega arith in z) in
    let c = count_more works p i n refl in
    let d = one_most (works (unit_at p (i + n))) in
    omega arith

first_today : (sums : List ℕ) → first_days 1 sums ≡ today sums
first_today [] = refl
first_today (x ∷ xs) = sum_by-cons (λ y. y) x [] ∙ (let z : x + 0 ≡ x = omega arith in z)

-- today's sum is no more than the minutes of today
today_most : (day : ℕ → ℕ) → AreDays day → (p : List Activity) (s : CycleCount) → Counts day p s → day (length p) ≡ day (length p - 1) → today s.sums < DAY_MINUTES
today_most day days p s h same = elim (cases_lt h.run (cycle_reset s.cycle)) [
  | inl l ↦ (
      let n = h.days_counted in
      let o = days_some s.cycle in
      let some = h.tracked.some in
      let d = h.tracked.sums_are l 1 (omega arith) (omega arith) in
      let b = d.base.counts.before in
      let i = d.base.counts.inside in
      let w = days.whole d.from in
      let near : length p < d.from + DAY_MINUTES = elim (cases_lt (length p) (d.from + DAY_MINUTES)) [ inl lt ↦ lt | inr le ↦ (let u = days_up_to day days (d.from + DAY_MINUTES) (length p) le in absurd (omega arith)) ] in
      let m = duty_most p d.from (length p - d.from) in
      let e : duty p d.from (d.from + (length p - d.from)) ≡ duty p d.from (length p) = ap (duty p d.from) (let z : d.from + (length p - d.from) ≡ length p = omega arith in z) in
      let c = d.count in
      let f = first_today s.sums in
      omega arith)
  | inr l ↦ (let e : today s.sums ≡ 0 = ap today (h.tracked.rested l) ∙ today_cleared s.sums in omega arith)
]

pub room_on : (s : CycleCount) (x : Activity) (new : Bool) → ((new ≡ true) ⊎ ((new ≡ false) × (today s.sums < DAY_MINUTES))) → HasRoom s x new
room_on s x true h = let a = today_rolled s.sums in let b = one_most (works x) in omega arith
room_on s x false h = elim h [ inl e ↦ absurd (let z : false ≡ true = e in cc) | inr k ↦ (let l = k.1 in let b = one_most (works x) in omega arith) ]

pub has_room : (day : ℕ → ℕ) → AreDays day → (p : List Activity) (x : Activity) (s : CycleCount) → Counts day p s → HasRoom s x (begins day (length p))
has_room day days p x s h = room_on s x (begins day (length p)) (elim (is_turn day days p h.tracked.some) [
  | inl k ↦ inl k.0
  | inr k ↦ inr (k.0, today_most day days p s h k.1)
])
