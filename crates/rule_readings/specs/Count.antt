-- What a rule counts at a place.
use Rattle.std.specs.Prelude.{ℕ, Option, Some, None}

-- The answer is what is counted, and none where nothing is.
abbrev pub IsCount : (ℕ → Type 0) → Option ℕ → Type 0
IsCount Counted None = (n : ℕ) → Counted n → ⊥
IsCount Counted (Some n) = Counted n
