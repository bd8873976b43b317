-- The days at one more minute: they go on and the history is lawful so far, or there are none and it is not.
use Rattle.std.proofs.Common.{ℕ, ◌-◌, ◌≤◌, List, length}
use Rattle.duty_core.specs.declared.activity.Activity.{Activity}
use Rattle.cycles_deferral.specs.declared.days.CanadaDays.{CanadaDays}
use Rattle.cycles_deferral.specs.Knows.{IsClocked, Knows}

-- # One more minute

-- the days s stand at the end of p: they know it
pub record Stands (day : ℕ → ℕ) (p : List Activity) (s : CanadaDays) : Type 0 where
  pub some : 1 ≤ length p
  pub knows : Knows day p (day (length p - 1)) s
  pub clock : IsClocked day p (day (length p - 1)) s
