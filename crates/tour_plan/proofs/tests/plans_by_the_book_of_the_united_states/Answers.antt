use Rattle.std.proofs.Common.{refl}
use Rattle.tour_plan.proofs.tests.plans_by_the_book_of_the_united_states.Goals as goal

-- each minute is a unit
pub tour_of-requires-clause-begins : goal.tour_of-requires-clause-begins
tour_of-requires-clause-begins g c = record { units = 13762440; whole = refl }

pub tour_of-requires-2-clause-begins : goal.tour_of-requires-2-clause-begins
tour_of-requires-2-clause-begins g c = record { units = 13762440; whole = refl }
