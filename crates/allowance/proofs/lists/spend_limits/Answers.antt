use Rattle.std.proofs.Common.{◌<◌, length, arith}
use Rattle.allowance.specs.Allow.{spent_limit}
use Rattle.allowance.proofs.Steps.{step_map}
use Rattle.allowance.proofs.lists.spend_limits.Goals as goal

pub loop-limit-preserved : goal.loop-limit-preserved
loop-limit-preserved c =
    let l : c.loop-limit.limit-index < length c.loop-limit.limit-items = omega arith in
    step_map spent_limit c.loop-limit.limit-items _ c.loop-limit.limit-index (record { units = 0; duty = 0 }) l c.loop-limit.invariant
