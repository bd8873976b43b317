use Rattle.std.proofs.Common.{arith, refl}
use Rattle.hvnl_rules.specs.Laws.NumberLaws.{limits_read}
use Rattle.hvnl_rules.proofs.numbers.limits_in.Goals as goal

pub loop-i-preserved : goal.loop-i-preserved
loop-i-preserved c = limits_read c.args.numbers.now c.loop-i.i _ _ c.loop-i.limits.items c.push.new.self.items (omega arith) refl refl c.loop-i.invariant c.in_ok-push.ensures.items
