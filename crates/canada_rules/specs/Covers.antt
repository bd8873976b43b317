-- When a state may stand for another, and the idle activities to try.
use Rattle.std.proofs.Common.{ℕ, ◌+◌, Bool, true, false, ◌&&◌, ◌||◌, List, length}
use Rattle.std.specs.Prelude.{nat_eq, nat_le, not}
use Rattle.duty_core.specs.declared.params.RestWay.{RestWay}
use Rattle.duty_core.specs.declared.params.RestWay.TheVariants.{Split, Defer}
use Rattle.duty_core.specs.declared.limits.TheConstants.{CA_LOST_LIMIT, CA_BOTH_LOST_LIMIT, CA_DAY_DRIVING_LIMIT, CA_DAY_DUTY_LIMIT}
use Rattle.duty_core.specs.CaCycle.{cycle_limit}
use Rattle.day_sums.specs.Sums.{leaves_no_less}
use Rattle.day_sums.specs.Counted.{turned}
use Rattle.sleeper_split.specs.declared.rule.TheConstants.SplitRule.{CANADA}
use Rattle.sleeper_split.specs.Covers.{covers_count}
use Rattle.cycles_deferral.specs.declared.days.DayCount.{DayCount}
use Rattle.cycles_deferral.specs.declared.days.CanadaDays.{CanadaDays}
use Rattle.cycles_deferral.specs.declared.cycle.CycleCount.{CycleCount}
use Rattle.cycles_deferral.specs.DayMachine.{needed, days_begun}
use Rattle.canada_rules.specs.declared.state.DayDuty.{DayDuty}
use Rattle.canada_rules.specs.declared.state.Calendar.{Calendar}
use Rattle.canada_rules.specs.declared.state.CanadaState.{CanadaState}
use Rattle.canada_rules.specs.Machine.{begins_day, day_begun}

-- # Tests of parts

-- driving or duty stands at its limit: nothing more may be driven in the day
abbrev pub is_day_spent : DayDuty → Bool
is_day_spent d = nat_le CA_DAY_DRIVING_LIMIT d.driving || nat_le CA_DAY_DUTY_LIMIT d.duty

-- no more driving and duty of the day, or the other day is spent
abbrev pub day_covers : DayDuty → DayDuty → Bool
day_covers a b = is_day_spent b || (nat_le a.driving b.driving && nat_le a.duty b.duty)

abbrev pub same_way : RestWay → RestWay → Bool
same_way Split Split = true
same_way Split Defer = false
same_way Defer Split = false
same_way Defer Defer = true

abbrev pub loses_no_more : DayCount → DayCount → Bool
loses_no_more a b = nat_le a.lost b.lost && nat_le (a.lost + a.short) (b.lost + b.short)

-- today has had all the rest that yesterday may defer to it
abbrev pub has_rest_today : CanadaDays → Bool
has_rest_today s = nat_le (needed (s.yesterday.lost + s.yesterday.short)) s.today.longest

-- yesterday asks nothing any more, or it loses no more, and today has had its rest or the longest rest with a minute in today is no shorter
abbrev pub yesterday_covers : CanadaDays → CanadaDays → Bool
yesterday_covers a b = nat_le (a.yesterday.lost + a.yesterday.short) CA_LOST_LIMIT || (loses_no_more a.yesterday b.yesterday && (has_rest_today a || nat_le b.today.longest a.today.longest))

-- yesterday has had all the rest that the day before defers to it
abbrev pub has_rest_yesterday : CanadaDays → Bool
has_rest_yesterday s = nat_le (needed s.before) s.yesterday.longest

-- a deferral from the day before yesterday is met already
abbrev pub is_met : CanadaDays → Bool
is_met s = has_rest_yesterday s && nat_le (s.before + (s.yesterday.lost + s.yesterday.short)) CA_BOTH_LOST_LIMIT

-- the longest rest with a minute in yesterday is no shorter, and grows on where that of the other does
abbrev pub rests_as_long : CanadaDays → CanadaDays → Bool
rests_as_long a b = nat_le b.yesterday.longest a.yesterday.longest && (not b.reaches || a.reaches)

-- a deferral from the day before yesterday ends as well
abbrev pub ends_as_well : CanadaDays → CanadaDays → Bool
ends_as_well a b = nat_le a.before b.before && (loses_no_more a.yesterday b.yesterday && (has_rest_yesterday a || rests_as_long a b))

-- the day before yesterday defers nothing, or that is met already, or ends as well
abbrev pub ends_cover : CanadaDays → CanadaDays → Bool
ends_cover a b = nat_le a.before CA_LOST_LIMIT || (is_met a || ends_as_well a b)

-- the days of the next minute may stand for others
abbrev pub days_cover : CanadaDays → CanadaDays → Bool
days_cover a b =
    same_way a.way b.way && (nat_eq a.minute b.minute && (nat_le b.rest a.rest && (loses_no_more a.today b.today && (yesterday_covers a b && ends_cover a b))))

-- as many sums leave no less of the limit after each number of day turns
abbrev pub sums_cover : ℕ → List ℕ → List ℕ → Bool
sums_cover limit xs ys = nat_eq (length xs) (length ys) && leaves_no_less limit (length xs) xs ys

-- the day off is no longer ago, and duty without one no more
abbrev pub day_off_covers : CycleCount → CycleCount → Bool
day_off_covers a b = nat_le a.since b.since && nat_le a.without b.without

-- the counts of a cycle may stand for others, where the next minute begins a day or not
abbrev pub cycle_covers : Bool → CycleCount → CycleCount → Bool
cycle_covers new a b = nat_eq a.cycle b.cycle && (nat_le b.rest a.rest && (sums_cover (cycle_limit b.cycle) (turned new a.sums) (turned new b.sums) && day_off_covers a b))

abbrev pub calendar_covers : Bool → Calendar → Calendar → Bool
calendar_covers new a b = day_covers (day_begun new a.day) (day_begun new b.day) && (days_cover (days_begun new a.days) (days_begun new b.days) && cycle_covers new a.cycle b.cycle)

-- The first state may stand for the second at this minute.
abbrev pub covers_state : Bool → ℕ → CanadaState → CanadaState → ℕ → Bool
covers_state may start a b at = covers_count CANADA may a.split b.split && calendar_covers (begins_day start at) a.calendar b.calendar
