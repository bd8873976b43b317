use Rattle.duty_core.specs.Stretch.{IsBerth}
use Rattle.rule_readings.proofs.pairs.is_berth.Given as goal

abbrev pub invariant-loop-place : goal.invariant-loop-place
invariant-loop-place l = IsBerth l.padded l.from l.place
