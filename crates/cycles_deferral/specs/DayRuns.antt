-- Many equal minutes of one day, for the days: one by one, and at once.
use Rattle.std.proofs.Common.{ℕ, ◌+◌, ◌-◌, Bool, true, false, cond, min, zero, suc}
use Rattle.std.specs.Prelude.{ℤ, Option, None, Some}
use Rattle.duty_core.specs.declared.activity.Activity.{Activity}
use Rattle.duty_core.specs.declared.mark.Mark.{Mark}
use Rattle.duty_core.specs.declared.limits.TheConstants.{DAY_MINUTES}
use Rattle.duty_core.specs.Activity.{rests}
use Rattle.cycles_deferral.specs.declared.days.TheConstants.{NEEDED_LIMIT}
use Rattle.cycles_deferral.specs.declared.days.CanadaDays.{CanadaDays}
use Rattle.cycles_deferral.specs.DayMachine.{days_made, rested_day, worked_day, keeps_days, mark_between, days_after}

-- # One by one

-- the earlier mark, or else the later one
abbrev pub either : Option Mark → Option Mark → Option Mark
either None m = m
either (Some a) m = Some a

-- where days lead, after an earlier mark
abbrev pub days_with : Option Mark → Option (CanadaDays × Option Mark) → Option (CanadaDays × Option Mark)
days_with mark None = None
days_with mark (Some r) = Some (r.0, either mark r.1)

-- where so many more minutes of the day `date` lead
abbrev pub days_more : Option (CanadaDays × Option Mark) → Activity → ℤ → ℕ → Option (CanadaDays × Option Mark)
days_more None x date n = None
days_more (Some r) x date zero = Some r
days_more (Some r) x date (suc n) = days_more (days_with r.1 (days_after r.0 x false date)) x date n

-- The days after so many equal minutes of the day `date`, at least one, of which the first begins that day where `new`, and the mark that is chosen at one of them; or that no
-- days follow one of them.
abbrev pub days_run : CanadaDays → Activity → Bool → ℤ → ℕ → Option (CanadaDays × Option Mark)
days_run s x new date n = days_more (days_after s x new date) x date (n - 1)

-- # At once

abbrev pub days_rested_run : ℕ → CanadaDays → CanadaDays
days_rested_run n s =
    days_made s.way (min (s.minute + n) DAY_MINUTES) (min (s.rest + n) NEEDED_LIMIT)
    (rested_day (min (s.rest + n) NEEDED_LIMIT) n true s.today) (rested_day (min (s.rest + n) NEEDED_LIMIT) 0 s.reaches s.yesterday) s.before s.reaches

abbrev pub days_worked_run : ℕ → CanadaDays → CanadaDays
days_worked_run n s = days_made s.way (min (s.minute + n) DAY_MINUTES) 0 (worked_day n s.today) (worked_day 0 s.yesterday) s.before false

-- so many minutes of duty in the begun days
abbrev pub worked_at_once : CanadaDays → ℤ → ℕ → Option (CanadaDays × Option Mark)
worked_at_once s date n = cond (keeps_days (days_worked_run n s)) (Some (days_worked_run n s, mark_between s (days_worked_run n s) date)) None

-- so many minutes in the begun days
abbrev pub days_at_once : CanadaDays → Activity → ℤ → ℕ → Option (CanadaDays × Option Mark)
days_at_once s x date n = cond (rests x) (Some (days_rested_run n s, None)) (worked_at_once s date n)
