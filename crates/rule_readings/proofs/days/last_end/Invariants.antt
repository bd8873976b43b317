use Rattle.rule_readings.proofs.DeclaredRuns.{LeavesNone}
use Rattle.rule_readings.proofs.DayBases.{Unmarked}
use Rattle.rule_readings.proofs.days.last_end.Given as goal

abbrev pub invariant-loop-rest : goal.invariant-loop-rest
invariant-loop-rest l = LeavesNone l.least Unmarked l.fn.i l.runs l.rest

abbrev pub decreases-loop-rest : goal.decreases-loop-rest
decreases-loop-rest l = l.rest
