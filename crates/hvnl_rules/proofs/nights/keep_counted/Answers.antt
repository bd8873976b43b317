use Rattle.std.proofs.Common.{rules}
use Rattle.allowance.proofs.Steps.{kept_by_test}
use Rattle.hvnl_rules.proofs.nights.keep_counted.Goals as goal

pub returns : goal.returns
returns c = kept_by_test _ _ _ (λ x b f' y k. search rules) _ _ c.retain.ensures.filtered
