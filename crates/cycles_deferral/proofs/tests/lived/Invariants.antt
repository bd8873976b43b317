use Rattle.cycles_deferral.specs.DayMachine.{IsCanadaDays}
use Rattle.cycles_deferral.proofs.tests.lived.Given as goal

abbrev pub invariant-loop-n : goal.invariant-loop-n
invariant-loop-n l = IsCanadaDays l.days
