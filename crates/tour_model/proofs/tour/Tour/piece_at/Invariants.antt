use Rattle.std.proofs.Common.{◌≡◌, drop}
use Rattle.std.specs.Prelude.{slice_get}
use Rattle.tour_model.specs.Word.{next_piece, word_from}
use Rattle.tour_model.proofs.tour.Tour.piece_at.Given as goal

abbrev pub invariant-loop-number : goal.invariant-loop-number
invariant-loop-number l = record {
  all : l.stop-items ≡ l.self.stops;
  piece_left : next_piece l.self l.progress ≡ slice_get (word_from l.number (drop l.number l.self.stops)) l.left;
}
