use Rattle.schedule_rebuild.proofs.PathLaws.{IsGoingBack}
use Rattle.schedule_rebuild.proofs.path.rebuild.Given as goal

abbrev pub decreases-loop-layer : goal.decreases-loop-layer
decreases-loop-layer g l = l.layer

abbrev pub invariant-loop-layer : goal.invariant-loop-layer
invariant-loop-layer g l = IsGoingBack l.layers l.fn.place.layer l.fn.place.index l.layer l.index l.acts.items l.marks.items
