use Rattle.std.proofs.Common.{◌≡◌}
use Rattle.hvnl_rules.specs.Numbers.{limits_in}
use Rattle.hvnl_rules.proofs.numbers.limits_in.Given as goal

abbrev pub invariant-loop-i : goal.invariant-loop-i
invariant-loop-i l = l.limits.items ≡ limits_in l.i l.numbers
