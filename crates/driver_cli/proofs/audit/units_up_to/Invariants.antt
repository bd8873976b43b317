use Rattle.std.proofs.Common.{◌≡◌, take}
use Rattle.driver_cli.proofs.audit.units_up_to.Given as goal

abbrev pub invariant-loop-k : goal.invariant-loop-k
invariant-loop-k l = l.units ≡ take l.k l.log
