use Rattle.std.proofs.Common.{refl}
use Rattle.label_search.proofs.BestLaws.{best_first, best_more, best_whole}
use Rattle.label_search.proofs.best.best_of.Goals as goal

pub loop-index-init : goal.loop-index-init
loop-index-init g c = best_first c.args.goal c.args.step c.args.layer.now c.args.best

pub loop-index-preserved : goal.loop-index-preserved
loop-index-preserved g c =
    best_more c.args.goal c.args.step c.args.layer.now c.loop-index.index c.index-layer-index.result (record { layer = c.args.step; index = c.loop-index.index }) c.args.best c.loop-index.found c.best_with-found.result
    c.loop-index-test.true c.index-layer-index.is refl c.loop-index.invariant c.best_with-found.ensures

pub returns : goal.returns
returns g c = best_whole c.args.goal c.args.step c.args.layer.now c.loop-index.index c.args.best c.loop-index.found c.loop-index-test.false c.loop-index.invariant
