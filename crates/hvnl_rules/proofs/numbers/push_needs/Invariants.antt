use Rattle.std.proofs.Common.{◌≡◌, ◌++◌, take}
use Rattle.hvnl_rules.specs.Numbers.{need_numbers}
use Rattle.hvnl_rules.proofs.numbers.push_needs.Given as goal

abbrev pub invariant-loop-need : goal.invariant-loop-need
invariant-loop-need l = l.out ≡ l.fn.out ++ need_numbers (take l.need-index l.needs)
