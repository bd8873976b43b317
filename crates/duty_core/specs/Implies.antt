-- When one limit on duty to come says all that another says.
use Rattle.std.specs.Prelude.{ℕ, ◌+◌, ◌-◌, ◌≤◌}

-- a limit: in the next so many units at most so many are duty
pub record Limit : Type 0 where
  pub units : ℕ
  pub duty : ℕ

-- One limit implies another, where the duty that it allows and the units that it says nothing of are at most the duty of the other.
abbrev pub Implies : Limit → Limit → Type 0
Implies a b = a.duty + (b.units - a.units) ≤ b.duty
