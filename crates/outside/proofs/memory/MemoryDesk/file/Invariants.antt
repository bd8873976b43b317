use Rattle.std.proofs.Common.{◌≡◌}
use Rattle.std.specs.Ordering.{nat_cmp}
use Rattle.std.specs.Cmp.Lexicographic.{slice_cmp}
use Rattle.std.specs.FinMap.{get, find}
use Rattle.std.specs.VecDeque.Iter.{deque_iter_rest}
use Rattle.outside.proofs.memory.MemoryDesk.file.Given as goal

-- what is left to look through still has the answer
abbrev pub invariant-loop-held : goal.invariant-loop-held
invariant-loop-held l = get l.self.files l.name ≡ find (slice_cmp nat_cmp) l.name (deque_iter_rest l.held-iterator)
