use Rattle.duty_core.specs.Marks.{IsSplitAt}
use Rattle.rule_readings.proofs.DeclaredRuns.{LeavesNone}
use Rattle.rule_readings.proofs.declared.last_declared.Given as goal

abbrev pub invariant-loop-rest : goal.invariant-loop-rest
invariant-loop-rest l = LeavesNone l.full (IsSplitAt l.history.scope.params l.history.scope.first l.history.marks.now) l.fn.i l.runs l.rest

abbrev pub decreases-loop-rest : goal.decreases-loop-rest
decreases-loop-rest l = l.rest
