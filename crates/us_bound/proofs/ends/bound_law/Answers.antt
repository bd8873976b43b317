use Rattle.us_bound.specs.Laws.BoundLaws.{is_bound_of_shift}
use Rattle.us_bound.specs.Laws.ShiftLaws.{later_obeys, shift_obeys}
use Rattle.us_bound.proofs.ends.bound_law.Goals as goal

pub returns : goal.returns
returns c = record { each = is_bound_of_shift; obeys = shift_obeys; later = later_obeys }
