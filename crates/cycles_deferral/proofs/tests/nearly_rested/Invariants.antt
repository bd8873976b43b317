use Rattle.cycles_deferral.specs.CycleMachine.{IsCycleCount}
use Rattle.cycles_deferral.proofs.tests.nearly_rested.Given as goal

abbrev pub invariant-loop : goal.invariant-loop
invariant-loop l = IsCycleCount l.after
