use Rattle.duty_core.specs.Marks.{IsSplitAt}
use Rattle.rule_readings.proofs.NextDeclared.{SkipsNone}
use Rattle.rule_readings.proofs.declared.next_declared.Given as goal

abbrev pub invariant-loop-next : goal.invariant-loop-next
invariant-loop-next l = SkipsNone l.full (IsSplitAt l.history.scope.params l.history.scope.first l.history.marks.now) l.fn.i l.runs l.next
