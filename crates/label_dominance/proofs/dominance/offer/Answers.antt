use Rattle.label_state.specs.Layers.{last_layer}
use Rattle.label_dominance.proofs.OfferLaws.{all_below}
use Rattle.label_dominance.proofs.dominance.offer.Goals as goal

pub offer_to-requires-clause-ahead : goal.offer_to-requires-clause-ahead
offer_to-requires-clause-ahead g c = all_below (g.B.RuleBook.machine c.args.book.now).ahead c.progress_end-ahead_end.result (last_layer c.args.layers.now) c.progress_end-ahead_end.ensures.above
