-- What the counts of a cycle say of the history so far: p, after its padding.
use Rattle.std.proofs.Common.{◌≡◌, ℕ, ◌-◌, ◌<◌, ◌≤◌, ◌⊎◌, min, List, length}
use Rattle.duty_core.specs.declared.activity.Activity.{Activity}
use Rattle.duty_core.specs.declared.limits.TheConstants.{CA_CYCLE_2, CA_DAY_OFF}
use Rattle.duty_core.specs.Counting.{duty, IsLastEnd}
use Rattle.duty_core.specs.CaCycle.{cycle_days, cycle_reset}
use Rattle.duty_core.specs.PlainlyBetter.{IsLastDayOff}
use Rattle.day_sums.specs.Counted.{TracksDays}
use Rattle.cycles_deferral.specs.declared.cycle.TheConstants.{SINCE_LIMIT, WITHOUT_LIMIT}
use Rattle.cycles_deferral.specs.declared.cycle.CycleCount.{CycleCount}

-- # Duty without a day off

-- the duty since the last rest run of 24 hours has ended
pub record HasWithout (p : List Activity) (w : ℕ) : Type 0 where
  pub to : ℕ
  pub last : IsLastEnd CA_DAY_OFF p (length p) to
  pub count : w ≡ min (duty p to (length p)) WITHOUT_LIMIT

-- # What the counts say

pub record Counts (day : ℕ → ℕ) (p : List Activity) (s : CycleCount) : Type 0 where
  pub run : ℕ
  pub tracked : TracksDays day (cycle_reset s.cycle) p run s.sums
  pub capped : s.rest ≡ min run (cycle_reset s.cycle)
  pub days_counted : length s.sums ≡ cycle_days s.cycle
  pub day_off : ℕ
  pub is_day_off : IsLastDayOff p day_off
  pub since_is : s.since ≡ min (length p - day_off) SINCE_LIMIT
  pub without_is : s.cycle ≡ CA_CYCLE_2 → run < CA_DAY_OFF → HasWithout p s.without
  pub without_none : CA_DAY_OFF ≤ run → s.without ≡ 0
  pub no_without : (s.cycle ≡ CA_CYCLE_2) ⊎ (s.without ≡ 0)
