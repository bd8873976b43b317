use Rattle.std.proofs.Common.{refl}
use Rattle.log_graph.proofs.tests.quarters_are_whole_parts_or_none.Goals as goal

-- each minute is a unit
pub graph-requires-clause-begins : goal.graph-requires-clause-begins
graph-requires-clause-begins g c = record { units = 2880; whole = refl }
