use Rattle.std.proofs.Common.{take}
use Rattle.label_search.specs.Ways.{IsLeastOf}
use Rattle.label_search.proofs.guess.best_finished.Given as goal

abbrev pub invariant-loop-label : goal.invariant-loop-label
invariant-loop-label g l = IsLeastOf l.goal (take l.label-index l.beam) l.step l.initial.least l.least
