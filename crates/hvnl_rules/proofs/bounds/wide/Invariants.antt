use Rattle.std.proofs.Common.{◌≡◌, take}
use Rattle.hvnl_rules.specs.Few.{wide}
use Rattle.hvnl_rules.proofs.bounds.wide.Given as goal

abbrev pub invariant-loop-limit : goal.invariant-loop-limit
invariant-loop-limit l = l.count ≡ wide l.units (take l.limit-index l.limits)
