use Rattle.std.proofs.Common.{◌≡◌, ◌+◌, drop, map}
use Rattle.serde_json.specs.View.{view}
use Rattle.tour_reader.specs.Written.{written_stops}
use Rattle.tour_reader.proofs.StopFacts.{with_stops}
use Rattle.tour_reader.proofs.stops.written_stops.Given as goal

abbrev pub invariant-loop-index : goal.invariant-loop-index
invariant-loop-index l = with_stops l.stops.items (written_stops (l.index + 1) (drop l.index (map view l.items))) ≡ written_stops 1 (map view l.items)
