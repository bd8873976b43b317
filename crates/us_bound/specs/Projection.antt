-- What a state of the rule book counts, and the limits of a shift, in steps.
use Rattle.std.specs.Prelude.{ℕ, ◌+◌, ◌-◌, ◌/◌, Bool, cond, Option, None, Some, nat_eq}
use Rattle.duty_core.specs.declared.limits.TheConstants.{US_FULL_REST, US_WINDOW_LIMIT, US_DRIVING_LIMIT, US_UNBROKEN_LIMIT, US_SPLIT_LEAST}
use Rattle.sleeper_split.specs.declared.count.WaitingRest.{WaitingRest}
use Rattle.us_rules.specs.declared.state.BreakCount.{BreakCount}
use Rattle.us_rules.specs.declared.state.UsState.{UsState}
use Rattle.rest_bound.specs.declared.limits.Limits.{Limits}
use Rattle.rest_bound.specs.declared.counts.Counts.{Counts}

-- n minutes in steps of so many minutes, rounded up
abbrev pub up : ℕ → ℕ → ℕ
up grid n = (n + (grid - 1)) / grid

-- the split rest that waits, in steps
abbrev pub waiting_steps : ℕ → Option WaitingRest → Option ℕ
waiting_steps grid None = None
waiting_steps grid (Some w) = Some (up grid w.long)

-- the driving since the last break; none just after anything else
abbrev pub streak_steps : ℕ → BreakCount → ℕ
streak_steps grid c = cond (nat_eq c.still 0) (up grid c.driven) 0

-- What a state counts. Rounding up is exact where a limit is a whole number of steps: m steps more keep within it by steps where they do so by minutes.
abbrev pub counts_of : ℕ → UsState → Counts
counts_of grid s = record {
  driving = up grid s.split.base.driving;
  elapsed = up grid s.split.base.elapsed;
  driven = up grid s.split.last.driving;
  since = up grid s.split.last.elapsed;
  run = up grid s.split.run.long;
  waiting = waiting_steps grid s.split.waiting;
  streak = streak_steps grid s.rest_break;
}

-- the limits of a shift, with a berth and without: without one no rest may be split
abbrev pub limits_of : Bool → ℕ → Limits
limits_of berth grid = record {
  driving = up grid US_DRIVING_LIMIT;
  elapsed = up grid US_WINDOW_LIMIT;
  full_rest = up grid US_FULL_REST;
  split_least = cond berth (up grid US_SPLIT_LEAST) (up grid US_FULL_REST);
  split_most = cond berth (up grid US_FULL_REST - 1) 0;
  unbroken = up grid US_UNBROKEN_LIMIT;
}
