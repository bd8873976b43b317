use Rattle.std.proofs.Common.{◌≡◌}
use Rattle.hvnl_rules.specs.Numbers.{needs_in}
use Rattle.hvnl_rules.proofs.numbers.needs_in.Given as goal

abbrev pub invariant-loop-i : goal.invariant-loop-i
invariant-loop-i l = l.needs.items ≡ needs_in l.i l.numbers
