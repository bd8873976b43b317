-- The sums of the days so far are those, small, and leave no less.
use Rattle.std.proofs.Common.{◌≡◌, ◌*◌, ◌≤◌}
use Rattle.duty_core.specs.declared.limits.TheConstants.{DAY_MINUTES}
use Rattle.day_sums.specs.Sums.{first_days, LeavesNoLess}
use Rattle.day_sums.proofs.sums.sums_leave_no_less.Given as goal

abbrev pub invariant-loop-n : goal.invariant-loop-n
invariant-loop-n l = record {
  sum : l.first ≡ first_days l.n l.sums;
  other_sum : l.other ≡ first_days l.n l.others;
  small : l.first ≤ l.n * DAY_MINUTES;
  other_small : l.other ≤ l.n * DAY_MINUTES;
  so_far : LeavesNoLess l.limit l.n l.sums l.others;
}
