-- What a desk over the system's files tells of itself.
use Rattle.std.specs.Prelude.{ℕ, List, Option, None}

-- How many fetches and puts failed, and the names of the last ones.
pub record Faults : Type 0 where
  pub read_faults : ℕ
  pub write_faults : ℕ
  pub read_failed : Option (List ℕ)
  pub write_failed : Option (List ℕ)

-- Nothing failed so far.
abbrev pub no_faults : Faults
no_faults = record { read_faults = 0; write_faults = 0; read_failed = None; write_failed = None }
