-- What standard output as a sink tells of itself.
use Rattle.std.specs.Prelude.{ℕ}

-- How many sends there were, and how many failed.
pub record SendCounts : Type 0 where
  pub sends : ℕ
  pub faults : ℕ

-- Nothing was sent so far.
abbrev pub no_sends : SendCounts
no_sends = record { sends = 0; faults = 0 }
