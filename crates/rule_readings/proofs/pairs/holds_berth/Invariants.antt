use Rattle.rule_readings.proofs.PairRuns.{IsBerthSoFar}
use Rattle.rule_readings.proofs.pairs.holds_berth.Given as goal

abbrev pub invariant-loop-place : goal.invariant-loop-place
invariant-loop-place l = IsBerthSoFar l.least l.padded l.from l.place l.run
