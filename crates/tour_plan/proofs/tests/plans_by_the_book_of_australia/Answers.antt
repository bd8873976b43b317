use Rattle.std.proofs.Common.{refl}
use Rattle.tour_plan.proofs.tests.plans_by_the_book_of_australia.Goals as goal

-- the start is a whole quarter
pub tour_of-requires-clause-begins : goal.tour_of-requires-clause-begins
tour_of-requires-clause-begins g c = record { units = 917496; whole = refl }
