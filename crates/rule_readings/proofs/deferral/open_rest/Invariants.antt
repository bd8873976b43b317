-- From here on all is rest.
use Rattle.std.proofs.Common.{◌≡◌, ℕ, ◌≤◌, true}
use Rattle.duty_core.specs.Activity.{rests}
use Rattle.duty_core.specs.History.{unit_at}
use Rattle.rule_readings.proofs.deferral.open_rest.Given as goal

abbrev pub invariant-loop-from : goal.invariant-loop-from
invariant-loop-from l = (k : ℕ) → l.from ≤ k → rests (unit_at l.padded k) ≡ true

abbrev pub decreases-loop-from : goal.decreases-loop-from
decreases-loop-from l = l.from
