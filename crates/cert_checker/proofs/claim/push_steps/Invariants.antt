use Rattle.std.proofs.Common.{◌≡◌, ◌++◌, replicate}
use Rattle.cert_checker.proofs.claim.push_steps.Given as goal

abbrev pub invariant-loop : goal.invariant-loop
invariant-loop l = l.steps.items ≡ l.fn.steps.items ++ replicate l.counter l.act
