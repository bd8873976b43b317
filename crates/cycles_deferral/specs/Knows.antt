-- What the days say of deferral: the day before yesterday, the longest rests of two days, and how far the day has come.
use Rattle.std.proofs.Common.{◌≡◌, ℕ, ◌+◌, ◌<◌, ◌≤◌, ◌⊎◌, true, false, List, length}
use Rattle.duty_core.specs.declared.activity.Activity.{Activity}
use Rattle.duty_core.specs.Stretch.{IsRest}
use Rattle.duty_core.specs.LostMinutes.{lost}
use Rattle.duty_core.specs.Deferral.{HasRestIn}
use Rattle.cycles_deferral.specs.declared.days.TheConstants.{NEEDED_LIMIT}
use Rattle.cycles_deferral.specs.declared.days.CanadaDays.{CanadaDays}
use Rattle.cycles_deferral.specs.Tracks.{Tracks}

-- # Rest before the end

-- a stretch of at least n minutes of rest with a minute in day j, which doesn't reach past the end
pub record HasRestSoFar (day : ℕ → ℕ) (p : List Activity) (n j : ℕ) : Type 0 where
  pub rest : HasRestIn day p n j
  pub inside : rest.to ≤ length p

-- b is the length of the longest such stretch, as far as a deferral may need it
pub record IsLongest (day : ℕ → ℕ) (p : List Activity) (j b : ℕ) : Type 0 where
  pub small : b ≤ NEEDED_LIMIT
  pub has : 1 ≤ b → HasRestSoFar day p b j
  pub most : (m : ℕ) → m ≤ NEEDED_LIMIT → HasRestSoFar day p m j → m ≤ b

-- the run in progress has a minute in day j
pub record ReachesBack (day : ℕ → ℕ) (p : List Activity) (j : ℕ) : Type 0 where
  pub at : ℕ
  pub of_day : day at ≡ j
  pub inside : at < length p
  pub rest : IsRest p at (length p)

-- m minutes of day d have passed: it began at the place `at`
pub record IsClock (day : ℕ → ℕ) (p : List Activity) (d m : ℕ) : Type 0 where
  pub at : ℕ
  pub passed : at + m ≡ length p
  pub of_day : day at ≡ d
  pub first : (k : ℕ) → k + 1 ≡ at → day k + 1 ≡ d
  pub some : 1 ≤ at

-- The minute of the day is known, or yesterday was rest: the day in which a history begins may have begun before it.
abbrev pub IsClocked : (ℕ → ℕ) → List Activity → ℕ → CanadaDays → Type 0
IsClocked day p d s = IsClock day p d s.minute ⊎ ((s.yesterday.lost ≡ 0) × (s.yesterday.short ≡ 0))

-- # What the days say, where d is the day of the last minute, or of the next one

pub record Knows (day : ℕ → ℕ) (p : List Activity) (d : ℕ) (s : CanadaDays) : Type 0 where
  pub later : 2 ≤ d
  pub tracks : Tracks day p d s
  pub lost_before : (j : ℕ) → j + 2 ≡ d → lost day p j ≡ s.before
  pub longest_today : IsLongest day p d s.today.longest
  pub longest_yesterday : (j : ℕ) → j + 1 ≡ d → IsLongest day p j s.yesterday.longest
  pub reaches : s.reaches ≡ true → (j : ℕ) → j + 1 ≡ d → ReachesBack day p j
  pub reaches_not : s.reaches ≡ false → (j : ℕ) → j + 1 ≡ d → ReachesBack day p j → ⊥
