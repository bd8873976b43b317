use Rattle.rule_core.specs.Laws.OneOf.{one_of_item}
use Rattle.label_search.proofs.guess.is_covered.Goals as goal

pub better-requires-clause-a : goal.better-requires-clause-a
better-requires-clause-a g c = c.requires.beam c.other-item.result (one_of_item c.args.beam.now c.loop-other.other-index c.other-item.result c.loop-other-test.true c.other-item.is)
