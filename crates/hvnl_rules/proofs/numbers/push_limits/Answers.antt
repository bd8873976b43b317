use Rattle.std.proofs.Common.{arith, refl}
use Rattle.hvnl_rules.specs.Laws.NumberLaws.{limits_pushed}
use Rattle.hvnl_rules.proofs.numbers.push_limits.Goals as goal

pub loop-limit-preserved : goal.loop-limit-preserved
loop-limit-preserved c = limits_pushed c.args.limits.now c.loop-limit.limit-index c.args.out.now c.loop-limit.out c.push_two.new.out _ _ (omega arith) refl c.loop-limit.invariant c.in_ok-push_two.ensures
