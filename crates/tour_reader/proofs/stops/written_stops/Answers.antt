use Rattle.std.proofs.Common.{map}
use Rattle.std.proofs.lemmas.Result.{err_from_is_err_and}
use Rattle.serde_json.specs.View.{view}
use Rattle.tour_reader.specs.Written.{written_stops}
use Rattle.tour_reader.proofs.StopFacts.{stops_more, stops_stop, stops_all}
use Rattle.tour_reader.proofs.stops.written_stops.Goals as goal

pub returns-in_err-written_stop : goal.returns-in_err-written_stop
returns-in_err-written_stop c =
    let p = err_from_is_err_and c.from_residual.result c.from_residual.ensures.1 in
    rw (p.1, p.2) (stops_stop c.loop-index.stops.items c.args.items.now c.loop-index.index c.index-items-index.result c.in_err-written_stop.field-0.0 (written_stops 1 (map view c.args.items.now)) c.loop-index-test.true c.index-items-index.is c.in_err-written_stop.ensures c.loop-index.invariant)

pub loop-index-preserved : goal.loop-index-preserved
loop-index-preserved c = rw c.in_ok-push.ensures.items
    (stops_more c.loop-index.stops.items c.args.items.now c.loop-index.index c.index-items-index.result c.in_ok-written_stop.field-0 (written_stops 1 (map view c.args.items.now)) c.loop-index-test.true c.index-items-index.is c.in_ok-written_stop.ensures c.loop-index.invariant)

pub returns : goal.returns
returns c = stops_all c.loop-index.stops.items c.args.items.now c.loop-index.index (written_stops 1 (map view c.args.items.now)) c.loop-index-test.false c.loop-index.invariant
