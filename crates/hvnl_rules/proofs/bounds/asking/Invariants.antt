use Rattle.std.proofs.Common.{◌≡◌, take}
use Rattle.hvnl_rules.specs.Few.{asking}
use Rattle.hvnl_rules.proofs.bounds.asking.Given as goal

abbrev pub invariant-loop-need : goal.invariant-loop-need
invariant-loop-need l = l.count ≡ asking l.rest (take l.need-index l.needs)
