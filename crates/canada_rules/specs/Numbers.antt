-- The numbers by which a state is written down, and which numbers are those of a state.
use Rattle.std.specs.Prelude.{ℕ, ◌+◌, Bool, cond, List, ◌∷◌, ◌++◌, length, drop, Option, None, Some, nat_eq, nat_lt, nat_le, ◌&&◌, ◌||◌, not, if◌then◌else◌}
use Rattle.duty_core.specs.declared.limits.TheConstants.{DAY_MINUTES, CA_BLOCK_LEAST, CA_CYCLE_2}
use Rattle.duty_core.specs.declared.params.RestWay.{RestWay}
use Rattle.duty_core.specs.CaCycle.{cycle_days, cycle_reset}
use Rattle.day_sums.specs.Sums.{today, are_within}
use Rattle.sleeper_split.specs.declared.rule.TheConstants.SplitRule.{CANADA}
use Rattle.sleeper_split.specs.Numbers.{split_numbers, item, split_of, is_count}
use Rattle.cycles_deferral.specs.declared.days.TheConstants.{NEEDED_LIMIT}
use Rattle.cycles_deferral.specs.declared.days.DayCount.{DayCount}
use Rattle.cycles_deferral.specs.declared.days.CanadaDays.{CanadaDays}
use Rattle.cycles_deferral.specs.declared.cycle.TheConstants.{SINCE_LIMIT, WITHOUT_LIMIT}
use Rattle.cycles_deferral.specs.declared.cycle.CycleCount.{CycleCount}
use Rattle.cycles_deferral.specs.DayMachine.{lost_limit, day_count, days_made}
use Rattle.cycles_deferral.specs.CycleMachine.{cycle_made}
use Rattle.canada_rules.specs.declared.numbers.TheConstants.{COUNTS}
use Rattle.canada_rules.specs.declared.state.Calendar.{Calendar}
use Rattle.canada_rules.specs.declared.state.CanadaState.{CanadaState}
use Rattle.canada_rules.specs.Machine.{day_made, calendar_made, ca_made, day_so_far}

-- # The numbers

-- a flag as a number
abbrev pub flag : Bool → ℕ
flag b = cond b 1 0

-- The numbers of the counts of split rests, the day, the days and their deferral, the cycle, and the duty of each day from the youngest on.
abbrev pub ca_numbers : CanadaState → List ℕ
ca_numbers s =
    split_numbers s.split
    ++ s.calendar.day.driving ∷ s.calendar.day.duty
    ∷ s.calendar.days.minute ∷ s.calendar.days.rest
    ∷ s.calendar.days.today.lost ∷ s.calendar.days.today.short ∷ s.calendar.days.today.longest
    ∷ s.calendar.days.yesterday.lost ∷ s.calendar.days.yesterday.short ∷ s.calendar.days.yesterday.longest
    ∷ s.calendar.days.before ∷ flag s.calendar.days.reaches
    ∷ s.calendar.cycle.rest ∷ s.calendar.cycle.since ∷ s.calendar.cycle.without
    ∷ s.calendar.cycle.sums

abbrev pub days_of : RestWay → List ℕ → CanadaDays
days_of way ns = days_made way (item ns 13) (item ns 14)
    (day_count (item ns 15) (item ns 16) (item ns 17)) (day_count (item ns 18) (item ns 19) (item ns 20))
    (item ns 21) (nat_eq (item ns 22) 1)

abbrev pub cycle_of : ℕ → List ℕ → CycleCount
cycle_of cycle ns = cycle_made cycle (item ns 23) (drop 26 ns) (item ns 24) (item ns 25)

-- the state whose numbers these would be
abbrev pub state_by : RestWay → ℕ → List ℕ → CanadaState
state_by way cycle ns = ca_made (split_of ns) (calendar_made (day_made (item ns 11) (item ns 12)) (days_of way ns) (cycle_of cycle ns))

-- # What a state is, as a test

abbrev pub is_day_count : ℕ → DayCount → Bool
is_day_count limit c = nat_le c.lost limit && nat_le c.longest NEEDED_LIMIT

abbrev pub is_short_of : ℕ → ℕ → ℕ → Bool
is_short_of rest today yesterday =
    (nat_le CA_BLOCK_LEAST rest && (nat_le rest NEEDED_LIMIT && (nat_eq today 0 && nat_eq yesterday 0)))
    || (nat_lt rest CA_BLOCK_LEAST && nat_le (today + yesterday) rest)

abbrev pub is_days : CanadaDays → Bool
is_days s =
    nat_le s.minute DAY_MINUTES && (is_day_count (lost_limit s.way) s.today && (is_day_count (lost_limit s.way) s.yesterday
    && (nat_le s.before (lost_limit s.way) && is_short_of s.rest s.today.short s.yesterday.short)))

-- the days with these numbers, of which a flag is 0 or 1
abbrev pub are_days : RestWay → List ℕ → Bool
are_days way ns = is_days (days_of way ns) && nat_le (item ns 22) 1

abbrev pub is_cycle_count : CycleCount → Bool
is_cycle_count s =
    nat_eq (length s.sums) (cycle_days s.cycle) && (nat_le s.rest (cycle_reset s.cycle) && (nat_le s.since SINCE_LIMIT
    && (nat_le s.without WITHOUT_LIMIT && (nat_eq s.cycle CA_CYCLE_2 || nat_eq s.without 0))))

abbrev pub is_cycle : CycleCount → Bool
is_cycle s = is_cycle_count s && are_within s.sums

-- where a short rest over midnight is in progress, today has been seen from its first minute, and holds no other rest
abbrev pub is_seen : ℕ → CanadaDays → Bool
is_seen so_far s = not (nat_lt 0 s.yesterday.short) || (nat_eq s.minute so_far && nat_le s.today.longest s.rest)

-- what the minute asks, where its day has so many minutes so far
abbrev pub fits_day : ℕ → Calendar → Bool
fits_day so_far c = nat_le c.day.driving c.day.duty && (nat_le c.day.duty so_far && (is_seen so_far c.days && nat_le (today c.cycle.sums) so_far))

abbrev pub are_numbers : Bool → RestWay → ℕ → ℕ → List ℕ → ℕ → Bool
are_numbers may way cycle start ns at =
    nat_le COUNTS (length ns) && (is_count CANADA may (split_of ns) && (are_days way ns && (is_cycle (cycle_of cycle ns)
    && fits_day (day_so_far start at) (state_by way cycle ns).calendar)))

-- the state that has these numbers at this minute
abbrev pub ca_state_of : Bool → RestWay → ℕ → ℕ → List ℕ → ℕ → Option CanadaState
ca_state_of may way cycle start ns at = if are_numbers may way cycle start ns at then Some (state_by way cycle ns) else None
