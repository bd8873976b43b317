-- The number of a day that is told by its distance from day 0.
use Rattle.std.proofs.Common.{◌≡◌, ℕ, ◌+◌, ◌-◌, ◌<◌, ◌≤◌, ◌↔◌, ◌*◌, Bool, true, false, ◌&&◌, cond, List, length, Option, Some, None, refl, sym, ◌∙◌, ap, subst, arith, zero, suc, eq-eqb, MatchOption, IsTrue}
use Rattle.std.specs.Prelude.{ℤ, pos, negsuc, nat_abs, nat_eq, SomeIff}
use Rattle.std.proofs.lemmas.Int.{ints, by_lt_z}
use lib.Signed.{lt_z}
use Rattle.std.proofs.lemmas.Bool.Decides.{nat_tests}
use Rattle.duty_core.specs.declared.activity.Activity.{Activity}
use Rattle.duty_core.specs.declared.params.Params.{Params}
use Rattle.duty_core.specs.declared.limits.TheConstants.{MINUTE_LIMIT}
use Rattle.duty_core.specs.Params.{unit_minutes}
use Rattle.duty_core.specs.History.{pad_days}
use Rattle.duty_core.specs.Day.{IsNumberOfDay, day_number}
use Rattle.duty_core.specs.Counting.{places}
use Rattle.duty_core.specs.LostMinutes.{is_lost, lost}
use Rattle.rule_readings.specs.declared.ca_day.TheConstants.{DAY_LIMIT}
use Rattle.rule_readings.specs.declared.deferral.TheConstants.{DAY_ZERO}
use Rattle.rule_readings.specs.CaHistory.{IsByMinutes}
use Rattle.rule_readings.proofs.DayBases.{days_rise}

-- a day from day 0 on
pub number_after : (day : ℤ) (a : ℕ) → a ≡ nat_abs day → lt_z day (pos 0) ≡ false → IsNumberOfDay day (DAY_ZERO + a)
unfolding pad_days
number_after (pos n) a e h = omega (arith, ints)
number_after (negsuc n) a e h = absurd (let z : true ≡ false = h in cc)

not_below : (n : ℕ) → lt_z (pos n) (pos 0) ≡ true → ⊥
not_below n h = grind (arith, ints, by_lt_z)

-- a day before day 0
pub number_before : (day : ℤ) (a : ℕ) (o : Option ℕ) → a ≡ nat_abs day → lt_z day (pos 0) ≡ true → SomeIff o (a ≤ DAY_ZERO) (DAY_ZERO - a) → MatchOption o ((n : ℕ) → IsNumberOfDay day n → ⊥) (λ n. IsNumberOfDay day n)
unfolding pad_days
number_before (pos n) a o e h s = absurd (not_below n h)
number_before (negsuc n) a None e h s = λ m g. s (omega (arith, ints))
number_before (negsuc n) a (Some x) e h s = let l = s.0 in let v = s.1 in omega (arith, ints)

-- a day has one number
pub number_once : (day : ℤ) (n m : ℕ) → IsNumberOfDay day n → IsNumberOfDay day m → n ≡ m
number_once day n m h g = ap nat_abs (sym h ∙ g)

pub number_told : (day : ℤ) (n m : ℕ) → IsNumberOfDay day n → IsTrue (nat_eq n m) ↔ IsNumberOfDay day m
number_told day n m h = (λ t. let e : n ≡ m = grind (arith, nat_tests) in subst (λ k. IsNumberOfDay day k) e h, λ g. eq-eqb n m (number_once day n m h g))

-- # Days without places

pub places_none : (test : ℕ → Bool) (n : ℕ) → ((k : ℕ) → k < n → test k ≡ false) → places test n ≡ 0
places_none test zero h = refl
places_none test (suc n) h =
    let a = places_none test n (λ k l. h k (omega arith)) in
    let b : cond {A = ℕ} (test n) 1 0 ≡ 0 = ap (λ (x : Bool). cond {A = ℕ} x 1 0) (h n (omega arith)) in
    omega arith

other_day : (d j : ℕ) (b : Bool) → (d ≡ j → ⊥) → (nat_eq d j && b) ≡ false
other_day d j b h = let e : nat_eq d j ≡ false = grind (arith, nat_tests) in ap (λ x. x && b) e

-- a day before the first place, or after the end, loses nothing
pub lost_early : (params : Params) (first : ℕ) (p : List Activity) (j : ℕ) → j < day_number params first 0 → lost (day_number params first) p j ≡ 0
lost_early params first p j l = places_none (λ i. nat_eq (day_number params first i) j && is_lost p i) (length p)
    (λ k m. let h = days_rise params first 0 k (omega arith) in other_day (day_number params first k) j (is_lost p k) (λ e. omega arith))

pub lost_late : (params : Params) (first : ℕ) (p : List Activity) (j : ℕ) → day_number params first (length p) < j → lost (day_number params first) p j ≡ 0
lost_late params first p j l = places_none (λ i. nat_eq (day_number params first i) j && is_lost p i) (length p)
    (λ k m. let h = days_rise params first k (length p) (omega arith) in other_day (day_number params first k) j (is_lost p k) (λ e. omega arith))

-- no day of a history has so great a number
pub day_small : (params : Params) (first i : ℕ) → IsByMinutes params first → i ≤ MINUTE_LIMIT → day_number params first i < DAY_LIMIT
day_small params first i h l =
    let e : unit_minutes params * i ≡ 1 * i = ap (λ u. u * i) h.units in
    let f = h.early in
    omega arith
