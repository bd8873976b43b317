use Rattle.rule_core.specs.Laws.OneOf.{one_of_item}
use Rattle.label_search.proofs.guess.grow_beam.Goals as goal

pub grow_label-requires-clause-label : goal.grow_label-requires-clause-label
grow_label-requires-clause-label g c = c.requires.beam c.label-item.result (one_of_item c.args.beam.now c.loop-label.label-index c.label-item.result c.loop-label-test.true c.label-item.is)
