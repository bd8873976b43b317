use Rattle.std.proofs.Common.{◌≡◌, [], drop}
use Rattle.tour_reader.specs.Checks.{stop_names, first_repeated}
use Rattle.tour_reader.proofs.CheckFacts.{held}
use Rattle.tour_reader.proofs.checks.first_repeated.Given as goal

abbrev pub invariant-loop-stop : goal.invariant-loop-stop
invariant-loop-stop l = first_repeated (held l.names.keys) (drop l.stop-index (stop_names l.stops)) ≡ first_repeated [] (stop_names l.stops)
