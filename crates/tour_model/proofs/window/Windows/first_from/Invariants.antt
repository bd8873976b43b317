use Rattle.std.proofs.Common.{◌≡◌, drop}
use Rattle.tour_model.specs.Window.{earlier, first_open}
use Rattle.tour_model.proofs.window.Windows.first_from.Given as goal

-- the first of the windows so far, and the first of the others
abbrev pub invariant-loop-window : goal.invariant-loop-window
invariant-loop-window l = record {
  all : l.window-items ≡ l.self;
  first : first_open l.self l.step ≡ earlier l.first (first_open (drop l.window-index l.self) l.step);
}
