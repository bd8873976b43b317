use Rattle.std.proofs.Common.{◌≡◌, true, take}
use Rattle.std.specs.List.{list_all, list_any}
use Rattle.allowance.specs.Allow.{implies}
use Rattle.hvnl_rules.proofs.held.are_implied.Given as goal

abbrev pub invariant-loop-limit : goal.invariant-loop-limit
invariant-loop-limit l = list_all (λ q. list_any (λ k. implies k q) l.others) (take l.limit-index l.limits) ≡ true
