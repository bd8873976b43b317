use Rattle.std.proofs.Common.{arith}
use Rattle.duty_core.specs.Activity.{works}
use Rattle.rule_readings.proofs.Counts.{count_read}
use Rattle.rule_readings.proofs.padded.Padded.duty.Goals as goal

pub overflow_sub-result : goal.overflow_sub-result
overflow_sub-result c =
    let e = count_read works _ _ _ _ _ _ _ c.self.invariant.duty c.self.view_is c.requires.order c.requires.inside c.index-2.ensures c.index.ensures in
    omega (arith, e)

pub returns : goal.returns
returns c =
    let e = count_read works _ _ _ _ _ _ _ c.self.invariant.duty c.self.view_is c.requires.order c.requires.inside c.index-2.ensures c.index.ensures in
    omega (arith, e)
