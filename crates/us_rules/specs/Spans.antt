-- Many units of one day at once. The counts only grow while a driver is on duty, so the last unit decides whether a rule forbids one of them.
use Rattle.std.proofs.Common.{ℕ, ◌+◌, ◌-◌, ◌%◌, Bool, true, cond, min}
use Rattle.std.specs.Prelude.{Option, None, Some, nat_eq, nat_lt, nat_le, if◌then◌else◌}
use Rattle.duty_core.specs.declared.activity.Activity.{Activity}
use Rattle.duty_core.specs.declared.limits.TheConstants.{DAY_MINUTES, US_BREAK, US_UNBROKEN_LIMIT, US_RESTART}
use Rattle.duty_core.specs.Activity.{rests, drives}
use Rattle.day_sums.specs.Sums.{added}
use Rattle.day_sums.specs.Counted.{turned, after_rest}
use Rattle.sleeper_split.specs.declared.rule.TheConstants.SplitRule.{US}
use Rattle.sleeper_split.specs.declared.count.SplitCount.{SplitCount}
use Rattle.sleeper_split.specs.Machine.{after_rest as rested_more, after_duty, end_undeclared, end_split, end_full, run_of}
use Rattle.sleeper_split.specs.Runs.{repeated}
use Rattle.sleeper_split.specs.Choices.{sleeps}
use Rattle.sleeper_split.specs.declared.ends.Ends.{Ends}
use Rattle.us_rules.specs.declared.state.BreakCount.{BreakCount}
use Rattle.us_rules.specs.declared.state.WeekCount.{WeekCount}
use Rattle.us_rules.specs.Machine.{us_fits, break_made, week_made, begins_day}
use Rattle.sleeper_split.specs.Ends.{ends_made}

-- # What so many units of one day make of the counts

-- the units of the day of this minute, from that one on
abbrev pub left_of_day : ℕ → ℕ → ℕ
left_of_day day_start at = DAY_MINUTES - (at + (DAY_MINUTES - day_start)) % DAY_MINUTES

abbrev pub paused_span : ℕ → BreakCount → BreakCount
paused_span n c = if nat_lt (c.still + n) US_BREAK then break_made (c.still + n) c.driven else break_made US_BREAK 0

abbrev pub break_span : BreakCount → Activity → ℕ → BreakCount
break_span c x n = cond (drives x) (break_made 0 (c.driven + n)) (paused_span n c)

abbrev pub break_span_ok : BreakCount → Activity → ℕ → Bool
break_span_ok c x n = cond (drives x) (nat_le (c.driven + n) US_UNBROKEN_LIMIT) true

-- by the sums of the days of the first of them
abbrev pub week_span : ℕ → WeekCount → ℕ → Activity → ℕ → WeekCount
week_span day_start c at x n =
    cond (rests x) (week_made (min (c.rest + n) US_RESTART) (after_rest US_RESTART (c.rest + n) (turned (begins_day day_start at) c.sums)))
    (week_made 0 (added n (turned (begins_day day_start at) c.sums)))

-- the units of duty after what a run left, where the last one keeps the limits
abbrev pub duty_span : Activity → ℕ → Option SplitCount → Option SplitCount
duty_span x n None = None
duty_span x n (Some s) = cond (cond (drives x) (us_fits (repeated (after_duty (drives x)) n s)) true) (Some (repeated (after_duty (drives x)) n s)) None

-- the ends of the run in progress at the first of so many units
abbrev pub ends_span : Bool → SplitCount → Activity → ℕ → Ends
ends_span berth s x n = cond (rests x) (ends_made (Some (repeated (rested_more (sleeps x)) n s)) None None)
    (cond (nat_eq (run_of s) 0) (ends_made (duty_span x n (Some s)) None None)
    (ends_made (duty_span x n (end_undeclared US s)) (cond berth (duty_span x n (end_split US s)) None) (duty_span x n (end_full US s))))
