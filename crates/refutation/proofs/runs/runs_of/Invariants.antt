use Rattle.std.proofs.Common.{◌≡◌, ◌≤◌, take}
use Rattle.refutation.specs.Runs.{acts_so_far, count_of, AreSoFar}
use Rattle.refutation.proofs.runs.runs_of.Given as goal

abbrev pub invariant-loop-act : goal.invariant-loop-act
invariant-loop-act l = record {
  acts : acts_so_far l.runs l.last ≡ take l.act-index l.steps;
  count : count_of l.last ≤ l.act-index;
  maximal : AreSoFar l.runs l.last;
}
