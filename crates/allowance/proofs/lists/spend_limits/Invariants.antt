use Rattle.std.proofs.Common.{◌≡◌, ◌++◌, take, drop, map}
use Rattle.allowance.specs.Allow.{spent_limit}
use Rattle.allowance.proofs.lists.spend_limits.Given as goal

abbrev pub invariant-loop-limit : goal.invariant-loop-limit
invariant-loop-limit l = l.limit-items ≡ map spent_limit (take l.limit-index l.fn.limits.items) ++ drop l.limit-index l.fn.limits.items
