use Rattle.std.proofs.Common.{length, arith}
use Rattle.std.proofs.lemmas.Iterator.Adapters.{YieldsList-from_vec}
use Rattle.std.proofs.lemmas.Iterator.Consumers.{YieldsList-turn}
use Rattle.rule_core.specs.Laws.OneOf.{one_of_item}
use Rattle.label_search.proofs.guess.guessed.Goals as goal

pub follow-requires-clause-departure : goal.follow-requires-clause-departure
follow-requires-clause-departure g c =
    let xs = c.in_ok-departure-items.departure-items.items in
    let i = c.into_iter-departure-iterator.ensures.into_iter_gives in
    let t = YieldsList-turn (YieldsList-from_vec {s = c.into_iter-departure-iterator.result} xs i.0 (omega arith)) c.loop-departure.yielded c.loop-departure.departure-iterator c.loop-departure.yielded_by c.next.result c.next.new.self c.in-Some.departure c.in-Some.is c.next.ensures.steps in
    c.in_ok-departure-items.ensures c.in-Some.departure (one_of_item xs (length c.loop-departure.yielded) c.in-Some.departure t.0 t.1)
