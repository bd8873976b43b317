use Rattle.std.proofs.Common.{rules}
use Rattle.allowance.proofs.Steps.{kept_by_test}
use Rattle.allowance.proofs.lists.leave_implied.Goals as goal

pub returns-clause-kept : goal.returns-clause-kept
returns-clause-kept c = kept_by_test _ _ _ (λ x b f' y k. search rules) _ _ c.retain.ensures.filtered
