-- Sums of the duty of the last days, in minutes, the youngest day first.
use Rattle.std.specs.Prelude.{◌≡◌, ℕ, ◌+◌, ◌-◌, ◌≤◌, ◌⊎◌, zero, suc, Bool, true, nat_le, ◌&&◌, List, [], ◌∷◌, length, take, drop, replicate, sum, All}
use Rattle.duty_core.specs.declared.limits.TheConstants.{DAY_MINUTES}

-- how many days may be counted: a week of 7 or 8 days, or a cycle of 14
abbrev pub IsDays : ℕ → Type 0
IsDays days = (days ≡ 7) ⊎ (days ≡ 8) ⊎ (days ≡ 14)

-- the duty of the youngest n days together
abbrev pub first_days : ℕ → List ℕ → ℕ
first_days n sums = sum (take n sums)

-- n more minutes in the youngest day
abbrev pub added : ℕ → List ℕ → List ℕ
added n [] = []
added n (x ∷ xs) = (x + n) ∷ xs

-- a new day begins, and the oldest one falls out
abbrev pub rolled : List ℕ → List ℕ
rolled sums = take (length sums) (0 ∷ sums)

-- nothing counts any more
abbrev pub cleared : List ℕ → List ℕ
cleared sums = replicate (length sums) 0

-- the duty of the youngest day
abbrev pub today : List ℕ → ℕ
today [] = 0
today (x ∷ xs) = x

-- After each number of day turns that leaves at most so many days, the sums xs leave no less of the limit than the sums ys.
abbrev pub LeavesNoLess : ℕ → ℕ → List ℕ → List ℕ → Type 0
LeavesNoLess limit days xs ys = (n : ℕ) → n ≤ days → limit - first_days n ys ≤ limit - first_days n xs

-- the same as a test
abbrev pub leaves_no_less : ℕ → ℕ → List ℕ → List ℕ → Bool
leaves_no_less limit zero xs ys = true
leaves_no_less limit (suc n) xs ys = nat_le (limit - first_days (suc n) ys) (limit - first_days (suc n) xs) && leaves_no_less limit n xs ys

-- each day holds at most its minutes, as a test
abbrev pub are_within : List ℕ → Bool
are_within [] = true
are_within (x ∷ xs) = nat_le x DAY_MINUTES && are_within xs

-- so many days, each of which holds at most its minutes
pub record AreSums (sums : List ℕ) : Type 0 where
  pub days : IsDays (length sums)
  pub within : All (λ n. n ≤ DAY_MINUTES) sums

-- The sums stand at the front of a list of 14 numbers, and after them are zeros.
pub record AreKept (days : ℕ) (kept : List ℕ) : Type 0 where
  pub long : length kept ≡ 14
  pub sums : AreSums (take days kept)
  pub few : days ≤ 14
  pub rest : drop days kept ≡ replicate (14 - days) 0
