-- The machine of Canada: states, successors, and many equal units.
use Rattle.std.specs.Prelude.{◌≡◌, ℕ, ◌+◌, ◌-◌, ◌/◌, ◌%◌, ◌<◌, ◌≤◌, zero, suc, ℤ, pos, ◌-ℤ◌, Bool, true, cond, List, [], ◌∷◌, map, flat_map, Option, None, Some, nat_le, ◌==◌, ◌&&◌, if◌then◌else◌}
use Rattle.std.specs.Option.{option_to_list}
use Rattle.duty_core.specs.declared.activity.Activity.{Activity}
use Rattle.duty_core.specs.declared.mark.Mark.{Mark}
use Rattle.duty_core.specs.declared.mark.Mark.TheVariants.{SplitRest}
use Rattle.duty_core.specs.declared.params.RestWay.{RestWay}
use Rattle.duty_core.specs.declared.limits.TheConstants.{DAY_MINUTES, CA_DAY_DRIVING_LIMIT, CA_DAY_DUTY_LIMIT, CA_SHIFT_DRIVING_LIMIT, CA_SHIFT_DUTY_LIMIT, CA_ELAPSED_LIMIT}
use Rattle.duty_core.specs.Activity.{drives, works}
use Rattle.rule_core.specs.declared.nexts.Next.{Next}
use Rattle.day_sums.specs.Sums.{today}
use Rattle.sleeper_split.specs.declared.rule.TheConstants.SplitRule.{CANADA}
use Rattle.sleeper_split.specs.declared.count.SplitCount.{SplitCount}
use Rattle.sleeper_split.specs.declared.count.Since.TheVariants.{Driving, Duty, Elapsed}
use Rattle.sleeper_split.specs.Machine.{fresh_count, used_of, run_of}
use Rattle.sleeper_split.specs.Covers.{IsCountOf}
use Rattle.sleeper_split.specs.Ways.{is_split_way}
use Rattle.sleeper_split.specs.Choices.{Choice, choices}
use Rattle.cycles_deferral.specs.declared.days.CanadaDays.{CanadaDays}
use Rattle.cycles_deferral.specs.declared.cycle.CycleCount.{CycleCount}
use Rattle.cycles_deferral.specs.DayMachine.{IsCanadaDays, fresh_days, days_after}
use Rattle.cycles_deferral.specs.DayRuns.{either}
use Rattle.cycles_deferral.specs.CycleMachine.{IsCycleCount, fresh_cycle, cycle_after}
use Rattle.canada_rules.specs.declared.state.DayDuty.{DayDuty}
use Rattle.canada_rules.specs.declared.state.Calendar.{Calendar}
use Rattle.canada_rules.specs.declared.state.CanadaState.{CanadaState}

-- # Full and split rests

-- at a unit of driving: driving, duty and elapsed time of the shift
abbrev pub ca_fits : SplitCount → Bool
ca_fits s = nat_le (used_of Driving s) CA_SHIFT_DRIVING_LIMIT && (nat_le (used_of Duty s) CA_SHIFT_DUTY_LIMIT && nat_le (used_of Elapsed s) CA_ELAPSED_LIMIT)

-- whether rests may be split: in a berth, and where the tour rests so
abbrev pub ca_may : Bool → RestWay → Bool
ca_may berth way = berth && is_split_way way

-- # Days

-- whether a day begins at this minute
abbrev pub begins_day : ℕ → ℕ → Bool
begins_day start at = (at + (DAY_MINUTES - start)) % DAY_MINUTES == 0

-- the date of the day of this minute
abbrev pub ca_date : ℕ → ℕ → ℤ
ca_date start at = pos ((at + (DAY_MINUTES - start)) / DAY_MINUTES) -ℤ pos 1

abbrev pub day_made : ℕ → ℕ → DayDuty
day_made driving duty = record { driving = driving; duty = duty }

-- where a new day may begin
abbrev pub day_begun : Bool → DayDuty → DayDuty
day_begun new d = cond new (day_made 0 0) d

-- one more unit of the day
abbrev pub day_more : Activity → DayDuty → DayDuty
day_more x d = day_made (d.driving + cond (drives x) 1 0) (d.duty + cond (works x) 1 0)

abbrev pub day_after : ℕ → DayDuty → ℕ → Activity → DayDuty
day_after start d at x = day_more x (day_begun (begins_day start at) d)

-- whether driving and duty of the day allow the unit
abbrev pub day_keeps : DayDuty → Activity → Bool
day_keeps d x = cond (drives x) (nat_le d.driving CA_DAY_DRIVING_LIMIT && nat_le d.duty CA_DAY_DUTY_LIMIT) true

abbrev pub day_ok : ℕ → DayDuty → ℕ → Activity → Bool
day_ok start d at x = day_keeps (day_after start d at x) x

-- # What is counted by days

abbrev pub calendar_made : DayDuty → CanadaDays → CycleCount → Calendar
calendar_made day days cycle = record { day = day; days = days; cycle = cycle }

-- a calendar with these days and this cycle, where they go on
abbrev pub calendar_with : DayDuty → Option (CanadaDays × Option Mark) → Option CycleCount → Option (Calendar × Option Mark)
calendar_with day None cycle = None
calendar_with day (Some r) None = None
calendar_with day (Some r) (Some c) = Some (calendar_made day r.0 c, r.1)

-- the calendar after a unit that begins at this minute, and the mark of a deferral that is chosen at it; or that none follows
abbrev pub calendar_after : ℕ → Calendar → ℕ → Activity → Option (Calendar × Option Mark)
calendar_after start c at x =
    if day_ok start c.day at x
    then calendar_with (day_after start c.day at x) (days_after c.days x (begins_day start at) (ca_date start at)) (cycle_after c.cycle x (begins_day start at))
    else None

-- # States

abbrev pub ca_made : SplitCount → Calendar → CanadaState
ca_made split calendar = record { split = split; calendar = calendar }

-- after the rest before a history
abbrev pub root_state : RestWay → ℕ → CanadaState
root_state way cycle = ca_made fresh_count (calendar_made (day_made 0 0) (fresh_days way) (fresh_cycle cycle))

-- the mark of a run that was declared as a split rest and began at this minute, or else the mark of a deferral
abbrev pub mark_of : Bool → ℕ → Option Mark → Option Mark
mark_of declared start mark = cond declared (Some (SplitRest start)) mark

-- the successor by a choice
abbrev pub ca_next : Calendar × Option Mark → ℕ → Choice → Next CanadaState
ca_next r start c = record { state = ca_made c.count r.0; mark = mark_of c.split start r.1 }

-- the successors by such choices, where the calendar goes on
abbrev pub nexts_with : Option (Calendar × Option Mark) → ℕ → List Choice → List (Next CanadaState)
nexts_with None start cs = []
nexts_with (Some r) start cs = map (ca_next r start) cs

-- The successors by a unit that begins at this minute. `may` tells whether rests may be split.
abbrev pub ca_nexts : Bool → ℕ → CanadaState → ℕ → Activity → List (Next CanadaState)
ca_nexts may start s at x = nexts_with (calendar_after start s.calendar at x) (at - run_of s.split) (choices CANADA may ca_fits s.split x)

-- # Many equal units

-- the first successor
abbrev pub first_of : List (Next CanadaState) → Option (Next CanadaState)
first_of [] = None
first_of (n ∷ ns) = Some n

-- a successor of a successor, with the mark of either
abbrev pub carried : Option Mark → Option (Next CanadaState) → Option (Next CanadaState)
carried mark None = None
carried mark (Some t) = Some (record { state = t.state; mark = either mark t.mark })

-- where more units lead a successor, each to its first one, with the one mark that is chosen on the way
abbrev pub goes_on : Bool → ℕ → Option (Next CanadaState) → ℕ → Activity → ℕ → Option (Next CanadaState)
goes_on may start None at x n = None
goes_on may start (Some t) at x zero = Some t
goes_on may start (Some t) at x (suc n) = goes_on may start (carried t.mark (first_of (ca_nexts may start t.state at x))) (at + 1) x n

-- what so many equal units lead to: a run can end at the first of them only
abbrev pub ca_advances : Bool → ℕ → CanadaState → ℕ → Activity → ℕ → List (Next CanadaState)
ca_advances may start s at x zero = record { state = s; mark = None } ∷ []
ca_advances may start s at x (suc n) = flat_map (λ t. option_to_list (goes_on may start (Some t) (at + 1) x n)) (ca_nexts may start s at x)

-- # What a state is

-- the minutes of the day of the minute before this one, up to this one
abbrev pub day_so_far : ℕ → ℕ → ℕ
day_so_far start at = (at + (DAY_MINUTES - start) + (DAY_MINUTES - 1)) % DAY_MINUTES + 1

-- what is counted of the day fits in it
pub record IsDayDuty (start : ℕ) (d : DayDuty) (at : ℕ) : Type 0 where
  pub some : d.driving ≤ d.duty
  pub fits : d.duty ≤ day_so_far start at

-- where a short rest over midnight is in progress, today has been seen from its first minute, and holds no other rest
pub record IsSeen (start : ℕ) (s : CanadaDays) (at : ℕ) : Type 0 where
  pub minutes : s.minute ≡ day_so_far start at
  pub longest : s.today.longest ≤ s.rest

-- The numbers of a state at this minute are in range, and the days hold no more duty than minutes so far.
pub record IsCanadaState (may : Bool) (way : RestWay) (start : ℕ) (s : CanadaState) (at : ℕ) : Type 0 where
  pub split : IsCountOf CANADA may s.split
  pub day : IsDayDuty start s.calendar.day at
  pub days : IsCanadaDays s.calendar.days
  pub rest_way : s.calendar.days.way ≡ way
  pub seen : 0 < s.calendar.days.yesterday.short → IsSeen start s.calendar.days at
  pub cycle : IsCycleCount s.calendar.cycle
  pub fits : today s.calendar.cycle.sums ≤ day_so_far start at
