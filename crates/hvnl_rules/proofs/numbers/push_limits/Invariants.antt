use Rattle.std.proofs.Common.{◌≡◌, ◌++◌, take}
use Rattle.hvnl_rules.specs.Numbers.{limit_numbers}
use Rattle.hvnl_rules.proofs.numbers.push_limits.Given as goal

abbrev pub invariant-loop-limit : goal.invariant-loop-limit
invariant-loop-limit l = l.out ≡ l.fn.out ++ limit_numbers (take l.limit-index l.limits)
