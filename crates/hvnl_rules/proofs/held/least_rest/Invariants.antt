use Rattle.std.proofs.Common.{◌<◌, ◌≤◌, ◌+◌, take}
use Rattle.std.specs.Prelude.{All}
use Rattle.hvnl_rules.proofs.held.least_rest.Given as goal

abbrev pub invariant-loop-limit : goal.invariant-loop-limit
invariant-loop-limit l = All (λ p. p.duty < l.duty → p.units ≤ p.duty + l.rest) (take l.limit-index l.limits)
