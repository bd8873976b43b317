use Rattle.std.proofs.Common.{◌≡◌, drop, map}
use Rattle.serde_json.specs.View.{view}
use Rattle.tour_reader.specs.Written.{spans_of}
use Rattle.tour_reader.proofs.StopFacts.{with_spans}
use Rattle.tour_reader.proofs.stops.spans_of.Given as goal

abbrev pub invariant-loop-item : goal.invariant-loop-item
invariant-loop-item l = with_spans l.spans (spans_of (drop l.item-index (map view l.items))) ≡ spans_of (map view l.items)
