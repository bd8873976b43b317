-- Equal units of one day, while no run of rest may end: what they lead to one by one, they lead to at once.
use Rattle.std.proofs.Common.{◌≡◌, ℕ, ◌+◌, ◌-◌, ◌%◌, Bool, true, false, cond, ◌⊎◌}
use Rattle.std.specs.Prelude.{Option, None, Some, if◌then◌else◌}
use Rattle.duty_core.specs.declared.activity.Activity.{Activity}
use Rattle.duty_core.specs.declared.mark.Mark.{Mark}
use Rattle.duty_core.specs.declared.params.RestWay.{RestWay}
use Rattle.duty_core.specs.declared.limits.TheConstants.{DAY_MINUTES}
use Rattle.duty_core.specs.Activity.{rests, drives, works}
use Rattle.rule_core.specs.declared.nexts.Next.{Next}
use Rattle.sleeper_split.specs.declared.count.SplitCount.{SplitCount}
use Rattle.sleeper_split.specs.Machine.{after_rest, after_duty, run_of}
use Rattle.sleeper_split.specs.Runs.{repeated}
use Rattle.sleeper_split.specs.Choices.{sleeps}
use Rattle.cycles_deferral.specs.DayRuns.{days_run}
use Rattle.cycles_deferral.specs.CycleRuns.{cycle_run}
use Rattle.canada_rules.specs.declared.state.DayDuty.{DayDuty}
use Rattle.canada_rules.specs.declared.state.Calendar.{Calendar}
use Rattle.canada_rules.specs.declared.state.CanadaState.{CanadaState}
use Rattle.canada_rules.specs.Machine.{ca_fits, begins_day, ca_date, day_made, day_begun, day_keeps, calendar_with, IsCanadaState}

-- # At once

-- so many more units of the day
abbrev pub day_more_run : ℕ → Activity → DayDuty → DayDuty
day_more_run n x d = day_made (d.driving + cond (drives x) n 0) (d.duty + cond (works x) n 0)

-- The calendar after so many equal units, at least one, that lie in one day and of which the first begins at this minute, and the mark of a deferral that is chosen at one of them;
-- or that none follows one of them.
abbrev pub calendar_run : ℕ → Calendar → ℕ → Activity → ℕ → Option (Calendar × Option Mark)
calendar_run start c at x n =
    if day_keeps (day_more_run n x (day_begun (begins_day start at) c.day)) x
    then calendar_with (day_more_run n x (day_begun (begins_day start at) c.day)) (days_run c.days x (begins_day start at) (ca_date start at) n) (cycle_run c.cycle x (begins_day start at) n)
    else None

-- the minutes from this one on that lie in its day
abbrev pub left_of_day : ℕ → ℕ → ℕ
left_of_day start at = DAY_MINUTES - (at + (DAY_MINUTES - start)) % DAY_MINUTES

-- no run of rest may end: rest goes on, or none is in progress
abbrev pub IsFree : SplitCount → Activity → Type 0
IsFree s x = (rests x ≡ true) ⊎ ((rests x ≡ false) × (run_of s ≡ 0))

-- so many more units of the counts of rests
abbrev pub split_at_once : ℕ → Activity → SplitCount → Option SplitCount
split_at_once n x s = cond (rests x) (Some (repeated (after_rest (sleeps x)) n s))
    (cond (cond (drives x) (ca_fits (repeated (after_duty (drives x)) n s)) true) (Some (repeated (after_duty (drives x)) n s)) None)

-- a successor that goes on is a state, and its run goes on so
pub record IsGoing (may : Bool) (way : RestWay) (start : ℕ) (t : Next CanadaState) (at : ℕ) (x : Activity) : Type 0 where
  pub state : IsCanadaState may way start t.state at
  pub free : IsFree t.state.split x
