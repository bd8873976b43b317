use Rattle.std.proofs.Common.{◌≡◌, ◌++◌, take}
use Rattle.rule_readings.proofs.padded.push_history.Given as goal

abbrev pub invariant-loop-place : goal.invariant-loop-place
invariant-loop-place l = l.units.items ≡ l.fn.units.items ++ take l.place l.history
