-- The machine of the United States: states, successors, and many equal units.
use Rattle.std.specs.Prelude.{◌≡◌, ℕ, ◌+◌, ◌-◌, ◌%◌, ◌≤◌, zero, suc, min, sum, length, replicate, Bool, true, cond, List, [], ◌∷◌, map, flat_map, Option, None, Some, nat_lt, nat_le, ◌==◌, ◌&&◌, if◌then◌else◌, All}
use Rattle.duty_core.specs.declared.activity.Activity.{Activity}
use Rattle.duty_core.specs.declared.activity.Activity.TheVariants.{Wait}
use Rattle.duty_core.specs.declared.mark.Mark.{Mark}
use Rattle.duty_core.specs.declared.mark.Mark.TheVariants.{SplitRest}
use Rattle.duty_core.specs.declared.limits.TheConstants.{DAY_MINUTES, US_WINDOW_LIMIT, US_DRIVING_LIMIT, US_BREAK, US_UNBROKEN_LIMIT, US_RESTART}
use Rattle.duty_core.specs.Activity.{rests, drives}
use Rattle.duty_core.specs.UsRules.{us_week_limit}
use Rattle.rule_core.specs.declared.nexts.Next.{Next}
use Rattle.rule_core.specs.declared.nexts.Idles.{Idles}
use Rattle.day_sums.specs.Sums.{added, today, leaves_no_less}
use Rattle.day_sums.specs.Counted.{turned, after_rest}
use Rattle.sleeper_split.specs.declared.rule.TheConstants.SplitRule.{US}
use Rattle.sleeper_split.specs.declared.count.SplitCount.{SplitCount}
use Rattle.sleeper_split.specs.declared.count.Since.TheVariants.{Driving, Elapsed}
use Rattle.sleeper_split.specs.Machine.{fresh_count, used_of, run_of}
use Rattle.sleeper_split.specs.Choices.{Choice, choices}
use Rattle.sleeper_split.specs.Covers.{IsCountOf, own_rest, is_ahead, covers_count}
use Rattle.us_rules.specs.declared.state.BreakCount.{BreakCount}
use Rattle.us_rules.specs.declared.state.WeekCount.{WeekCount}
use Rattle.us_rules.specs.declared.state.UsState.{UsState}

-- # Full and split rests

-- at a unit of driving: the window of fourteen hours, and eleven hours of driving
abbrev pub us_fits : SplitCount → Bool
us_fits s = nat_le (used_of Elapsed s) US_WINDOW_LIMIT && nat_le (used_of Driving s) US_DRIVING_LIMIT

-- # Breaks

abbrev pub break_made : ℕ → ℕ → BreakCount
break_made still driven = record { still = still; driven = driven }

-- after one more unit without driving
abbrev pub paused : BreakCount → BreakCount
paused c = if nat_lt (c.still + 1) US_BREAK then break_made (c.still + 1) c.driven else break_made US_BREAK 0

abbrev pub break_after : BreakCount → ℕ → Activity → BreakCount
break_after c at x = cond (drives x) (break_made 0 (c.driven + 1)) (paused c)

-- whether eight hours of driving without a break allow the unit
abbrev pub break_ok : BreakCount → ℕ → Activity → Bool
break_ok c at x = cond (drives x) (nat_lt c.driven US_UNBROKEN_LIMIT) true

-- # Weeks

abbrev pub week_made : ℕ → List ℕ → WeekCount
week_made rest sums = record { rest = rest; sums = sums }

-- whether a day begins at this minute
abbrev pub begins_day : ℕ → ℕ → Bool
begins_day day_start at = (at + (DAY_MINUTES - day_start)) % DAY_MINUTES == 0

-- after one more unit of rest, with the sums of the days of that unit
abbrev pub week_rested : ℕ → List ℕ → WeekCount
week_rested rest sums = week_made (min (rest + 1) US_RESTART) (after_rest US_RESTART (rest + 1) sums)

abbrev pub week_after : ℕ → WeekCount → ℕ → Activity → WeekCount
week_after day_start c at x = cond (rests x) (week_rested c.rest (turned (begins_day day_start at) c.sums)) (week_made 0 (added 1 (turned (begins_day day_start at) c.sums)))

-- whether the duty of the week allows the unit
abbrev pub week_ok : ℕ → ℕ → WeekCount → ℕ → Activity → Bool
week_ok days day_start c at x = cond (drives x) (nat_le (sum (week_after day_start c at x).sums) (us_week_limit days)) true

-- # States

abbrev pub us_made : SplitCount → BreakCount → WeekCount → UsState
us_made count rest_break week = record { split = count; rest_break = rest_break; week = week }

-- after the rest before a history
abbrev pub root_state : ℕ → UsState
root_state days = us_made fresh_count (break_made US_BREAK 0) (week_made US_RESTART (replicate days 0))

-- the mark of a run that was declared as a split rest and began at this minute
abbrev pub mark_of : Bool → ℕ → Option Mark
mark_of declared start = cond declared (Some (SplitRest start)) None

-- the successor by a choice
abbrev pub us_next : BreakCount → WeekCount → ℕ → Choice → Next UsState
us_next rest_break week start c = record { state = us_made c.count rest_break week; mark = mark_of c.split start }

-- the successors by a unit that begins at this minute
abbrev pub us_nexts : Bool → ℕ → ℕ → UsState → ℕ → Activity → List (Next UsState)
us_nexts berth days day_start s at x =
    if break_ok s.rest_break at x && week_ok days day_start s.week at x
    then map (us_next (break_after s.rest_break at x) (week_after day_start s.week at x) (at - run_of s.split)) (choices US berth us_fits s.split x)
    else []

-- # Many equal units

-- the first successor, without its mark
abbrev pub first_of : List (Next UsState) → Option UsState
first_of [] = None
first_of (n ∷ ns) = Some n.state

-- where more units lead a state, each to its first successor
abbrev pub goes_on : Bool → ℕ → ℕ → Option UsState → ℕ → Activity → ℕ → Option UsState
goes_on berth days day_start None at x n = None
goes_on berth days day_start (Some s) at x zero = Some s
goes_on berth days day_start (Some s) at x (suc n) = goes_on berth days day_start (first_of (us_nexts berth days day_start s at x)) (at + 1) x n

-- the successor by many units, with the mark that the first one chose
abbrev pub marked_next : Option Mark → Option UsState → List (Next UsState)
marked_next mark None = []
marked_next mark (Some s) = record { state = s; mark = mark } ∷ []

-- what so many equal units lead to: a mark can be chosen at the first of them only
abbrev pub us_advances : Bool → ℕ → ℕ → UsState → ℕ → Activity → ℕ → List (Next UsState)
us_advances berth days day_start s at x zero = marked_next None (Some s)
us_advances berth days day_start s at x (suc n) = flat_map (λ t. marked_next t.mark (goes_on berth days day_start (Some t.state) (at + 1) x n)) (us_nexts berth days day_start s at x)

-- # What a state is

-- the minutes of the day of the minute before this one, up to this one
abbrev pub day_so_far : ℕ → ℕ → ℕ
day_so_far day_start at = (at + (DAY_MINUTES - day_start) + (DAY_MINUTES - 1)) % DAY_MINUTES + 1

-- The numbers of a state at this minute are in range: a split rest waits only where there is a berth, each day holds no more duty than minutes, and the youngest one no more than its minutes so far.
pub record IsUsState (berth : Bool) (days day_start : ℕ) (s : UsState) (at : ℕ) : Type 0 where
  pub split : IsCountOf US berth s.split
  pub still : s.rest_break.still ≤ US_BREAK
  pub driven : s.rest_break.driven ≤ US_UNBROKEN_LIMIT
  pub rest : s.week.rest ≤ US_RESTART
  pub days_counted : length s.week.sums ≡ days
  pub within : All (λ n. n ≤ DAY_MINUTES) s.week.sums
  pub day : today s.week.sums ≤ day_so_far day_start at

-- # Which state may stand for which

-- the time without driving is as long, and the driving since the break no more
abbrev pub break_covers : BreakCount → BreakCount → Bool
break_covers c d = nat_le d.still c.still && nat_le c.driven d.driven

-- The rest is as long, and by the day of this minute no less of the limit is left after each number of day turns.
abbrev pub week_covers : ℕ → ℕ → ℕ → WeekCount → WeekCount → Bool
week_covers days day_start at c d =
    nat_le d.rest c.rest && leaves_no_less (us_week_limit days) days (turned (begins_day day_start at) c.sums) (turned (begins_day day_start at) d.sums)

abbrev pub us_covers : Bool → ℕ → ℕ → UsState → UsState → ℕ → Bool
us_covers berth days day_start a b at = covers_count US berth a.split b.split && (break_covers a.rest_break b.rest_break && week_covers days day_start at a.week b.week)

-- # Idle activities

-- Resting in place of anything else is safe: no split rest waits for its pair, or the rest run in progress is all in the berth.
abbrev pub us_ahead : Bool → UsState → Bool
us_ahead berth s = is_ahead US berth s.split

-- the tour's own rest, and waiting where resting may be worse
abbrev pub us_idles : Bool → UsState → Idles
us_idles berth s = record { first = own_rest berth; second = cond (us_ahead berth s) None (Some Wait) }
