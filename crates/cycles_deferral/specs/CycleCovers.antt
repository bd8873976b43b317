-- When the counts of a cycle of one history may stand for those of another of the same length and first minute, whatever comes next.
use Rattle.std.proofs.Common.{◌≡◌, ◌≤◌, Bool, length}
use Rattle.std.specs.Prelude.{Option, Some}
use Rattle.duty_core.specs.CaCycle.{cycle_limit}
use Rattle.day_sums.specs.Sums.{LeavesNoLess}
use Rattle.day_sums.specs.Counted.{turned}
use Rattle.cycles_deferral.specs.declared.cycle.CycleCount.{CycleCount}

-- The counts a may stand for b, where their sums are those of the day of the next minute: `new` tells whether it begins one. Duty beyond the limit of the cycle is all alike.
pub record CycleCovers (new : Bool) (a b : CycleCount) : Type 0 where
  pub same_cycle : a.cycle ≡ b.cycle
  pub rested : b.rest ≤ a.rest
  pub same_days : length a.sums ≡ length b.sums
  pub left : LeavesNoLess (cycle_limit b.cycle) (length b.sums) (turned new a.sums) (turned new b.sums)
  pub since_no_more : a.since ≤ b.since
  pub without_no_more : a.without ≤ b.without

-- the counts go on, and may stand for those of the other, where the minute after begins a day or not
pub record CycleCoversOn (next : Bool) (got : Option CycleCount) (u : CycleCount) : Type 0 where
  pub counts : CycleCount
  pub is : got ≡ Some counts
  pub covers : CycleCovers next counts u
