use Rattle.std.proofs.Common.{refl, inl}
use Rattle.label_search.proofs.GuessLaws.{least_more, least_whole}
use Rattle.label_search.proofs.guess.best_finished.Goals as goal

pub loop-label-init : goal.loop-label-init
loop-label-init g c = inl refl

pub loop-label-preserved : goal.loop-label-preserved
loop-label-preserved g c =
    least_more c.args.goal c.args.step c.args.beam.now c.loop-label.label-index c.label-item.result c.args.best c.loop-label.least c.less_of-least.result c.loop-label-test.true c.label-item.is c.loop-label.invariant c.less_of-least.ensures

pub returns : goal.returns
returns g c = least_whole c.args.goal c.args.step c.args.beam.now c.loop-label.label-index c.args.best c.loop-label.least c.loop-label-test.false c.loop-label.invariant
