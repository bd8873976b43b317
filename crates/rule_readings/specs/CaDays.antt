-- The places at which days begin.
use Rattle.std.specs.Prelude.{ℕ, ◌≤◌}

-- Place `from` is the first one whose day has this number or a later one.
pub record BeginsDay (day : ℕ → ℕ) (number from : ℕ) : Type 0 where
  pub inside : (k : ℕ) → from ≤ k → number ≤ day k
  pub first : (k : ℕ) → number ≤ day k → from ≤ k
