use Rattle.std.proofs.Common.{arith, refl}
use Rattle.hvnl_rules.specs.Laws.NumberLaws.{needs_pushed}
use Rattle.hvnl_rules.proofs.numbers.push_needs.Goals as goal

pub loop-need-preserved : goal.loop-need-preserved
loop-need-preserved c = needs_pushed c.args.needs.now c.loop-need.need-index c.args.out.now c.loop-need.out c.push_two.new.out _ _ (omega arith) refl c.loop-need.invariant c.in_ok-push_two.ensures
