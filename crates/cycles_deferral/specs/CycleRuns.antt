-- Many equal minutes of one day, for the counts of a cycle: one by one, and at once.
use Rattle.std.proofs.Common.{ℕ, ◌+◌, ◌-◌, ◌≤◌, Bool, true, false, cond, ◌&&◌, min, zero, suc}
use Rattle.std.specs.Prelude.{Option, None, Some, nat_eq, nat_lt}
use Rattle.duty_core.specs.declared.activity.Activity.{Activity}
use Rattle.duty_core.specs.declared.limits.TheConstants.{DAY_MINUTES, CA_CYCLE_2, CA_DAY_OFF}
use Rattle.duty_core.specs.Activity.{rests, works, drives}
use Rattle.duty_core.specs.CaCycle.{cycle_reset}
use Rattle.day_sums.specs.Sums.{added, today}
use Rattle.day_sums.specs.Counted.{turned, after_rest}
use Rattle.cycles_deferral.specs.declared.cycle.TheConstants.{SINCE_LIMIT, WITHOUT_LIMIT}
use Rattle.cycles_deferral.specs.declared.cycle.CycleCount.{CycleCount}
use Rattle.cycles_deferral.specs.CycleMachine.{cycle_made, keeps_cycle, cycle_after}

-- # One by one

-- where so many more minutes of a day lead
abbrev pub cycle_more : Option CycleCount → Activity → ℕ → Option CycleCount
cycle_more None x n = None
cycle_more (Some s) x zero = Some s
cycle_more (Some s) x (suc n) = cycle_more (cycle_after s x false) x n

-- The counts after so many equal minutes of a day, at least one, of which the first begins the day where `new`; or that none follow one of them.
abbrev pub cycle_run : CycleCount → Activity → Bool → ℕ → Option CycleCount
cycle_run s x new n = cycle_more (cycle_after s x new) x (n - 1)

-- the minutes fit in their day
abbrev pub HasRoomFor : CycleCount → Activity → Bool → ℕ → Type 0
HasRoomFor s x new n = today (turned new s.sums) + cond (works x) n 0 ≤ DAY_MINUTES

-- # At once

abbrev pub cycle_rested_run : ℕ → CycleCount → Bool → CycleCount
cycle_rested_run n s new =
    cycle_made s.cycle (min (s.rest + n) (cycle_reset s.cycle)) (after_rest (cycle_reset s.cycle) (s.rest + n) (turned new s.sums))
    (cond (nat_lt (s.rest + n) CA_DAY_OFF) (min (s.since + n) SINCE_LIMIT) 0) (cond (nat_lt (s.rest + n) CA_DAY_OFF) s.without 0)

abbrev pub cycle_worked_run : ℕ → CycleCount → Bool → CycleCount
cycle_worked_run n s new =
    cycle_made s.cycle 0 (added n (turned new s.sums)) (min (s.since + n) SINCE_LIMIT) (cond (nat_eq s.cycle CA_CYCLE_2) (min (s.without + n) WITHOUT_LIMIT) 0)

-- what the last of so many minutes of duty must keep
abbrev pub cycle_ok_run : ℕ → CycleCount → Activity → Bool → Bool
cycle_ok_run n s x new = cond (drives x) (nat_lt (s.since + (n - 1)) SINCE_LIMIT && keeps_cycle (cycle_worked_run n s new)) true

-- so many minutes of duty
abbrev pub worked_at_once : CycleCount → Activity → Bool → ℕ → Option CycleCount
worked_at_once s x new n = cond (cycle_ok_run n s x new) (Some (cycle_worked_run n s new)) None

abbrev pub cycle_at_once : CycleCount → Activity → Bool → ℕ → Option CycleCount
cycle_at_once s x new n = cond (rests x) (Some (cycle_rested_run n s new)) (worked_at_once s x new n)
