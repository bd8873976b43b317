use Rattle.std.proofs.Common.{◌≡◌, drop}
use Rattle.tour_model.specs.Schedule.{depart_from}
use Rattle.tour_model.proofs.lengths.duration.Given as goal

abbrev pub invariant-loop-index : goal.invariant-loop-index
invariant-loop-index l = depart_from 0 l.steps ≡ depart_from l.index (drop l.index l.steps)
