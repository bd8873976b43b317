use Rattle.std.proofs.Common.{◌≡◌, take}
use Rattle.tour_model.specs.Word.{word_of}
use Rattle.us_bound.proofs.tour_work.TourWork.new.Given as goal

-- the pieces so far
abbrev pub invariant-loop-progress : goal.invariant-loop-progress
invariant-loop-progress l = record {
  so_far : l.pieces.items ≡ take l.progress (word_of l.tour);
}
