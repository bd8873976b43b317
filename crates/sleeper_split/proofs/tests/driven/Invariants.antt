use Rattle.std.proofs.Common.{◌≡◌}
use Rattle.sleeper_split.specs.Machine.{IsSplitCount, run_of}
use Rattle.sleeper_split.proofs.tests.driven.Given as goal

abbrev pub invariant-loop : goal.invariant-loop
invariant-loop l = IsSplitCount l.after × (run_of l.after ≡ 0)
