-- What each rule looks at, and how much of it it allows.
use Rattle.std.specs.Prelude.{ℕ, ◌*◌, nat_eq, if◌then◌else◌}
use Rattle.duty_core.specs.declared.params.Params.{Params}
use Rattle.duty_core.specs.declared.params.Params.TheVariants.{Hvnl}
use Rattle.duty_core.specs.declared.rule.Rule.{Rule}
use Rattle.duty_core.specs.declared.rule.Rule.TheVariants.{UsWindow14, UsDrive11, UsBreak8, UsWeek, UsPair, CaDay13, CaDay14, CaShift13, CaShift14, CaElapsed16, CaOff10, CaDefer, CaPair, Ca24in14, CaCycle, Ca70without24, Au5h30, Au8h, Au11h, Au24h, Au24hRest, Au7d, Au7dRest, Au14d, Au14dNights}
use Rattle.duty_core.specs.declared.limits.TheConstants.{US_FULL_REST, US_WINDOW_LIMIT, US_DRIVING_LIMIT, US_UNBROKEN_LIMIT, US_RESTART, US_PAIR_LEAST, CA_DAY_DRIVING_LIMIT, CA_DAY_DUTY_LIMIT, CA_FULL_REST, CA_SHIFT_DRIVING_LIMIT, CA_SHIFT_DUTY_LIMIT, CA_ELAPSED_LIMIT, CA_LOST_LIMIT, CA_BOTH_LOST_LIMIT, CA_PAIR_LEAST, CA_DAY_OFF, CA_CYCLE_2, CA_WITHOUT_DAY_OFF_LIMIT, AU_5H30_PERIOD, AU_5H30_DUTY, AU_8H_PERIOD, AU_8H_DUTY, AU_11H_PERIOD, AU_11H_DUTY, AU_24H_PERIOD, AU_24H_DUTY, AU_24H_REST, AU_7D_PERIOD, AU_7D_DUTY, AU_7D_REST, AU_14D_PERIOD, AU_14D_DUTY, AU_14D_NIGHTS}
use Rattle.duty_core.specs.Params.{unit_minutes}
use Rattle.duty_core.specs.UsRules.{us_week_limit}
use Rattle.duty_core.specs.CaCycle.{cycle_days, cycle_reset, cycle_limit}
use Rattle.duty_core.specs.RuleBooks.{week_days, cycle_of}
use Rattle.rule_readings.specs.declared.au_periods.Start.{Start}
use Rattle.rule_readings.specs.declared.au_periods.Start.TheVariants.{Short, Long}
use Rattle.rule_readings.specs.declared.best.Order.{Order}
use Rattle.rule_readings.specs.declared.best.Order.TheVariants.{Greatest, Least}
use Rattle.rule_readings.specs.declared.measure.TheConstants.{CA_SINCE_DAY_OFF_LIMIT}
use Rattle.rule_readings.specs.declared.measure.Since.{Since}
use Rattle.rule_readings.specs.declared.measure.Since.TheVariants.{Base, Break, Day, Days, Rest}
use Rattle.rule_readings.specs.declared.measure.Amount.{Amount}
use Rattle.rule_readings.specs.declared.measure.Amount.TheVariants.{Driving, Duty, Time, TimeBefore}
use Rattle.rule_readings.specs.declared.measure.Measure.{Measure}
use Rattle.rule_readings.specs.declared.measure.Measure.TheVariants.{Nothing, AtDriving, PairSum, Loss, DeferredLoss, PeriodDuty, PeriodRest, PeriodNights}
use Rattle.rule_readings.specs.declared.measure.Asked.{Asked}

-- this limit of what is looked at
abbrev pub asks : Measure → ℕ → Asked
asks measure limit = record { measure = measure; limit = limit }

-- of what is counted at units of driving
abbrev pub counts : Amount → Since → ℕ → Asked
counts amount since limit = asks (AtDriving amount since) limit

-- of duty, and of the longest rest, in Australia's periods: the limit is so many quarters of an hour
abbrev pub work : Start → ℕ → ℕ → Asked
work start units quarters = asks (PeriodDuty start units) (unit_minutes Hvnl * quarters)

abbrev pub rest : ℕ → ℕ → Asked
rest units quarters = asks (PeriodRest units) (unit_minutes Hvnl * quarters)

-- of duty in a week of so many days
abbrev pub week : ℕ → Asked
week days = counts Duty (Days days US_RESTART) (us_week_limit days)

-- of duty in a cycle
abbrev pub cycle_duty : ℕ → Asked
cycle_duty cycle = counts Duty (Days (cycle_days cycle) (cycle_reset cycle)) (cycle_limit cycle)

-- in cycle 2, of duty since 24 hours of rest
abbrev pub without_day_off : ℕ → Asked
without_day_off cycle = asks (if nat_eq cycle CA_CYCLE_2 then AtDriving Duty (Rest CA_DAY_OFF) else Nothing) CA_WITHOUT_DAY_OFF_LIMIT

-- what the rule asks in Australia
abbrev pub au_asked : Rule → Asked
au_asked Au5h30 = work Short AU_5H30_PERIOD AU_5H30_DUTY
au_asked Au8h = work Short AU_8H_PERIOD AU_8H_DUTY
au_asked Au11h = work Short AU_11H_PERIOD AU_11H_DUTY
au_asked Au24h = work Long AU_24H_PERIOD AU_24H_DUTY
au_asked Au24hRest = rest AU_24H_PERIOD AU_24H_REST
au_asked Au7d = work Long AU_7D_PERIOD AU_7D_DUTY
au_asked Au7dRest = rest AU_7D_PERIOD AU_7D_REST
au_asked Au14d = work Long AU_14D_PERIOD AU_14D_DUTY
au_asked Au14dNights = asks PeriodNights AU_14D_NIGHTS
au_asked _ = asks Nothing 0

-- in Canada
abbrev pub ca_asked : Params → Rule → Asked
ca_asked params CaDay13 = counts Driving Day CA_DAY_DRIVING_LIMIT
ca_asked params CaDay14 = counts Duty Day CA_DAY_DUTY_LIMIT
ca_asked params CaShift13 = counts Driving (Base CA_FULL_REST) CA_SHIFT_DRIVING_LIMIT
ca_asked params CaShift14 = counts Duty (Base CA_FULL_REST) CA_SHIFT_DUTY_LIMIT
ca_asked params CaElapsed16 = counts Time (Base CA_FULL_REST) CA_ELAPSED_LIMIT
ca_asked params CaOff10 = asks Loss CA_LOST_LIMIT
ca_asked params CaDefer = asks DeferredLoss CA_BOTH_LOST_LIMIT
ca_asked params CaPair = asks (PairSum CA_FULL_REST) CA_PAIR_LEAST
ca_asked params Ca24in14 = counts TimeBefore (Rest CA_DAY_OFF) CA_SINCE_DAY_OFF_LIMIT
ca_asked params CaCycle = cycle_duty (cycle_of params)
ca_asked params Ca70without24 = without_day_off (cycle_of params)
ca_asked params rule = au_asked rule

-- what the rule asks, of whichever book
abbrev pub asked_of : Params → Rule → Asked
asked_of params UsWindow14 = counts Time (Base US_FULL_REST) US_WINDOW_LIMIT
asked_of params UsDrive11 = counts Driving (Base US_FULL_REST) US_DRIVING_LIMIT
asked_of params UsBreak8 = counts Driving Break US_UNBROKEN_LIMIT
asked_of params UsWeek = week (week_days params)
asked_of params UsPair = asks (PairSum US_FULL_REST) US_PAIR_LEAST
asked_of params rule = ca_asked params rule

-- which of the values a reading tells: the least where the rule asks for at least its limit, and else the greatest
abbrev pub order_of : Measure → Order
order_of (PairSum full) = Least
order_of (PeriodRest units) = Least
order_of PeriodNights = Least
order_of _ = Greatest
