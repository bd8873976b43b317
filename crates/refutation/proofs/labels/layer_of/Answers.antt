use Rattle.rule_core.specs.Laws.OneOf.{one_of_item}
use Rattle.label_state.specs.Laws.LayerLaws.{one_of_labels}
use Rattle.refutation.proofs.LayersLaws.{labels_more}
use Rattle.refutation.proofs.labels.layer_of.Goals as goal

pub label_of-requires : goal.label_of-requires
label_of-requires g c =
    c.requires c.kept-item.result.label (one_of_labels c.args.layer.now c.kept-item.result (one_of_item c.args.layer.now c.loop-kept.kept-index c.kept-item.result c.loop-kept-test.true c.kept-item.is))

pub loop-kept-preserved : goal.loop-kept-preserved
loop-kept-preserved g c =
    labels_more (g.B.RuleBook.machine c.args.book.now).state_of c.args.at c.args.layer.now c.loop-kept.kept-index c.kept-item.result c.loop-kept.labels c.push.new.self c.in_ok-label_of.field-0
    c.loop-kept-test.true c.kept-item.is c.loop-kept.invariant c.in_ok-label_of.ensures c.in_ok-push.ensures.ok
