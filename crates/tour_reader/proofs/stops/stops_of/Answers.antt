use Rattle.std.proofs.Common.{◌≤◌, length, map, arith}
use Rattle.std.proofs.lemmas.List.{length-map}
use Rattle.serde_json.specs.View.{view}
use Rattle.tour_model.specs.declared.limits.TheConstants.{MOST_STOPS}
use Rattle.tour_reader.specs.Written.{written_stops}
use Rattle.tour_reader.proofs.Holds.{given_holds}
use Rattle.tour_reader.proofs.StopLaws.{few_items}
use Rattle.tour_reader.proofs.stops.stops_of.Goals as goal

pub returns-clause-few : goal.returns-clause-few
returns-clause-few c =
    given_holds (λ stops. stops.items) (λ stops. length stops ≤ MOST_STOPS) c.written_stops.result (written_stops 1 (map view c.in-Some.items.now)) c.written_stops.ensures
    (few_items (map view c.in-Some.items.now) (rw length-map (omega arith)))
