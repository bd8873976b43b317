use Rattle.std.proofs.Common.{◌≡◌, ◌+◌, ◌*◌, ◌≤◌, drop}
use Rattle.tour_model.specs.declared.limits.TheConstants.{STEP_LIMIT, LONGEST_TOUR}
use Rattle.tour_model.specs.Word.{windows_at, word_from}
use Rattle.tour_model.specs.Eta.{end_after, eta_of}
use Rattle.tour_model.specs.Laws.ServeLaws.{AreNumbered}
use Rattle.tour_model.proofs.tour.Tour.eta.Given as goal

abbrev pub invariant-loop-stop : goal.invariant-loop-stop
invariant-loop-stop l = record {
  all : l.stop-items ≡ l.self.stops;
  small : l.at ≤ STEP_LIMIT + 3 * LONGEST_TOUR * l.stop-index;
  numbers : AreNumbered (windows_at l.self.stops) l.stop-index (drop l.stop-index l.self.stops);
  end_left : eta_of l.self l.fn.step l.fn.progress ≡ end_after (windows_at l.self.stops) l.at (drop l.left (word_from l.stop-index (drop l.stop-index l.self.stops)));
}
