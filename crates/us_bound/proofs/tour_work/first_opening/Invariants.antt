use Rattle.std.proofs.Common.{◌≡◌, drop}
use Rattle.tour_model.specs.Window.{earlier, first_open}
use Rattle.us_bound.proofs.tour_work.first_opening.Given as goal

-- the first of the windows so far, and the first of the others
abbrev pub invariant-loop-window : goal.invariant-loop-window
invariant-loop-window l = record {
  first : first_open l.windows l.from ≡ earlier l.first (first_open (drop l.window-index l.windows) l.from);
}
