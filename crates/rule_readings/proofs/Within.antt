-- Values within a limit.
use Rattle.std.proofs.Common.{◌≡◌, ℕ, Option, Some, None, IfSome, subst}
use Rattle.rule_readings.specs.Count.{IsCount}

-- what an answer within a limit says of the value
pub value_within : (Counted Met : ℕ → Type 0) (answer : Option ℕ) → IsCount Counted answer → ((n m : ℕ) → Counted n → Counted m → n ≡ m) → IfSome answer Met → (n : ℕ) → Counted n → Met n
value_within Counted Met None h one w n c = absurd (h n c)
value_within Counted Met (Some m) h one w n c = subst Met (one m n h c) w

pub within_value : (Counted Met : ℕ → Type 0) (answer : Option ℕ) → IsCount Counted answer → ((n : ℕ) → Counted n → Met n) → IfSome answer Met
within_value Counted Met None h w = tt
within_value Counted Met (Some m) h w = w m h
