use Rattle.tour_reader.proofs.TimeLaws.{tour_of-HasTimesOf}
use Rattle.tour_reader.proofs.laws.times_are_those_written.Goals as goal

pub returns : goal.returns
returns c = tour_of-HasTimesOf
