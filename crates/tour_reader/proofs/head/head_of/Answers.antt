use Rattle.tour_reader.proofs.HeadLaws.{grid_holds}
use Rattle.tour_reader.proofs.head.head_of.Goals as goal

pub returns-clause-grid : goal.returns-clause-grid
returns-clause-grid c = rw c.head_in.ensures (grid_holds _ _)
