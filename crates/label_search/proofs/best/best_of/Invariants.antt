use Rattle.label_search.proofs.BestLaws.{IsBestSoFar}
use Rattle.label_search.proofs.best.best_of.Given as goal

abbrev pub invariant-loop-index : goal.invariant-loop-index
invariant-loop-index g l = IsBestSoFar l.goal l.step l.layer l.index l.initial.found l.found
