use Rattle.std.proofs.Common.{◌≡◌, ◌++◌, take}
use Rattle.schedule_rebuild.proofs.path.joined.Given as goal

abbrev pub invariant-loop-mark : goal.invariant-loop-mark
invariant-loop-mark l = l.marks ≡ l.first ++ take l.mark-index l.second
