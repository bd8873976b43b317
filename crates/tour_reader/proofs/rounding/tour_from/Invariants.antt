use Rattle.std.proofs.Common.{◌≡◌, map}
use Rattle.tour_reader.specs.Rounding.{stop_of}
use Rattle.tour_reader.proofs.rounding.tour_from.Given as goal

abbrev pub invariant-loop-stop : goal.invariant-loop-stop
invariant-loop-stop l = l.rounded ≡ map (stop_of l.head.grid l.head.start) l.yielded
