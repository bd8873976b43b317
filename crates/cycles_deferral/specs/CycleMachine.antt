-- The counts of a cycle, minute by minute: its days' duty, the day off in a fortnight, and duty without a day off.
use Rattle.std.specs.Prelude.{◌≡◌, ℕ, ◌+◌, ◌≤◌, ◌⊎◌, min, Bool, true, cond, List, length, replicate, sum, Option, None, Some, nat_eq, nat_lt, nat_le, ◌&&◌}
use Rattle.duty_core.specs.declared.activity.Activity.{Activity}
use Rattle.duty_core.specs.declared.limits.TheConstants.{DAY_MINUTES, CA_CYCLE_2, CA_DAY_OFF, CA_WITHOUT_DAY_OFF_LIMIT}
use Rattle.duty_core.specs.Activity.{rests, works, drives}
use Rattle.duty_core.specs.CaCycle.{cycle_days, cycle_reset, cycle_limit}
use Rattle.day_sums.specs.Sums.{added, today}
use Rattle.day_sums.specs.Counted.{turned, after_rest}
use Rattle.cycles_deferral.specs.declared.cycle.TheConstants.{SINCE_LIMIT, WITHOUT_LIMIT}
use Rattle.cycles_deferral.specs.declared.cycle.CycleCount.{CycleCount}

-- the counts with these parts
abbrev pub cycle_made : ℕ → ℕ → List ℕ → ℕ → ℕ → CycleCount
cycle_made cycle rest sums since without = record { cycle = cycle; rest = rest; sums = sums; since = since; without = without }

-- What each value keeps. Only cycle 2 counts duty without a day off.
pub record IsCycleCount (s : CycleCount) : Type 0 where
  pub days_counted : length s.sums ≡ cycle_days s.cycle
  pub rests_most : s.rest ≤ cycle_reset s.cycle
  pub since_most : s.since ≤ SINCE_LIMIT
  pub without_most : s.without ≤ WITHOUT_LIMIT
  pub no_without : (s.cycle ≡ CA_CYCLE_2) ⊎ (s.without ≡ 0)

-- after the rest before a history, which is a reset
abbrev pub fresh_cycle : ℕ → CycleCount
fresh_cycle cycle = cycle_made cycle (cycle_reset cycle) (replicate (cycle_days cycle) 0) 0 0

-- the minute fits in its day
abbrev pub HasRoom : CycleCount → Activity → Bool → Type 0
HasRoom s x new = today (turned new s.sums) + cond (works x) 1 0 ≤ DAY_MINUTES

-- the time since the last day off
abbrev pub since_on : ℕ → ℕ
since_on since = min (since + 1) SINCE_LIMIT

-- a minute of rest; a run of a day off is one at each of its later minutes
abbrev pub cycle_rested : CycleCount → Bool → CycleCount
cycle_rested s new =
    cycle_made s.cycle (min (s.rest + 1) (cycle_reset s.cycle)) (after_rest (cycle_reset s.cycle) (s.rest + 1) (turned new s.sums))
    (cond (nat_lt (s.rest + 1) CA_DAY_OFF) (since_on s.since) 0) (cond (nat_lt (s.rest + 1) CA_DAY_OFF) s.without 0)

-- a minute of duty
abbrev pub cycle_worked : CycleCount → Bool → CycleCount
cycle_worked s new =
    cycle_made s.cycle 0 (added 1 (turned new s.sums)) (since_on s.since) (cond (nat_eq s.cycle CA_CYCLE_2) (min (s.without + 1) WITHOUT_LIMIT) 0)

-- the last day off lies in the fortnight before a minute of driving
abbrev pub keeps_day_off : CycleCount → Bool
keeps_day_off s = nat_lt s.since SINCE_LIMIT

-- duty in the cycle, and without a day off, keeps its limits, the minute of driving counted
abbrev pub keeps_cycle : CycleCount → Bool
keeps_cycle s = nat_le (sum s.sums) (cycle_limit s.cycle) && nat_le s.without CA_WITHOUT_DAY_OFF_LIMIT

-- what a minute of duty must keep
abbrev pub cycle_ok : CycleCount → Activity → Bool → Bool
cycle_ok s x new = cond (drives x) (keeps_day_off s && keeps_cycle (cycle_worked s new)) true

-- The counts after one more minute, which begins a day where `new`; or that none follow.
abbrev pub cycle_after : CycleCount → Activity → Bool → Option CycleCount
cycle_after s x new = cond (rests x) (Some (cycle_rested s new)) (cond (cycle_ok s x new) (Some (cycle_worked s new)) None)
