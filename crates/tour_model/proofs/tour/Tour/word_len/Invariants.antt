use Rattle.std.proofs.Common.{◌≡◌, ◌+◌, ◌*◌, ◌≤◌, length, drop}
use Rattle.tour_model.specs.Word.{word_length, word_from}
use Rattle.tour_model.proofs.tour.Tour.word_len.Given as goal

abbrev pub invariant-loop-stop : goal.invariant-loop-stop
invariant-loop-stop l = record {
  all : l.stop-items ≡ l.self.stops;
  small : l.total ≤ 40320 * l.stop-index;
  length_so_far : word_length l.self ≡ l.total + length (word_from l.stop-index (drop l.stop-index l.self.stops));
}
