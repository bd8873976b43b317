-- the best value of the places so far
use Rattle.rule_readings.specs.Best.{IsBestFound}
use Rattle.rule_readings.specs.Values.{IsMeasured}
use Rattle.rule_readings.proofs.BestLoop.{IsBelow}
use Rattle.rule_readings.proofs.values.best_of.Given as goal

abbrev pub invariant-loop-i : goal.invariant-loop-i
invariant-loop-i l = IsBestFound l.order (IsBelow (IsMeasured l.measure l.history.scope l.history.padded.now l.history.marks.now) l.i) l.best
