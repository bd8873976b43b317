use Rattle.cycles_deferral.specs.DayMachine.{IsCanadaDays}
use Rattle.cycles_deferral.proofs.tests.spent.Given as goal

abbrev pub invariant-loop-minute : goal.invariant-loop-minute
invariant-loop-minute l = IsCanadaDays l.after
