use Rattle.std.proofs.Common.{ap, map, Option, List}
use Rattle.serde_json.specs.View.{view}
use Rattle.tour_reader.specs.declared.field.Field.TheVariants.{Windows}
use Rattle.tour_reader.specs.declared.written.Span.{Span}
use Rattle.tour_reader.specs.Gives.{good}
use Rattle.tour_reader.specs.Written.{spans_of}
use Rattle.tour_reader.proofs.StopFacts.{spans_more, spans_stop}
use Rattle.tour_reader.proofs.stops.spans_of.Goals as goal

pub returns-in-None : goal.returns-in-None
returns-in-None c = λ _. ap (λ (o : Option (List Span)). good Windows c.args.stop o)
    (spans_stop c.loop-item.spans c.args.items.now c.loop-item.item-index c.item-item.result (spans_of (map view c.args.items.now)) c.loop-item-test.true c.item-item.is c.in-None.ensures c.loop-item.invariant)

pub loop-item-preserved : goal.loop-item-preserved
loop-item-preserved c = rw c.in_ok-push-in-Some.ensures.ok
    (spans_more c.loop-item.spans c.args.items.now c.loop-item.item-index c.item-item.result c.in-Some.span (spans_of (map view c.args.items.now)) c.loop-item-test.true c.item-item.is c.in-Some.ensures c.loop-item.invariant)
