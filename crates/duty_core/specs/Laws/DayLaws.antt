-- The numbers of days.
use Rattle.std.proofs.Common.{◌≡◌, ℕ, ◌+◌, ◌-◌, ◌*◌, ◌/◌, ◌≤◌, arith}
use Rattle.std.specs.Prelude.{ℤ, pos, negsuc, ◌+ℤ◌, ◌-ℤ◌}
use Rattle.std.specs.Int.{int_div_euclid}
use Rattle.std.proofs.lemmas.Int.{ints}
use Rattle.duty_core.specs.declared.params.Params.{Params}
use Rattle.duty_core.specs.declared.limits.TheConstants.{DAY_MINUTES}
use Rattle.duty_core.specs.Params.{BookUnit, InMinutes, InQuarters, minutes_in, units_in_day, terms_of, unit_minutes}
use Rattle.duty_core.specs.History.{pad_days, pad_units}
use Rattle.duty_core.specs.Day.{day_start, minute_at, day_number, IsNumberOfDay}
use Rattle.duty_core.specs.Laws.Day.{day_at}

-- a quotient that is rounded down, by a number that is moved by whole days
quotient_moved : (z : ℤ) (k m : ℕ) → z +ℤ pos (k * DAY_MINUTES) ≡ pos m → int_div_euclid z (pos DAY_MINUTES) +ℤ pos k ≡ pos (m / DAY_MINUTES)
quotient_moved (pos a) k m h = omega (arith, ints)
quotient_moved (negsuc a) k m h = omega (arith, ints)

-- so many days, in minutes
unit_days : (u : BookUnit) (days : ℕ) → minutes_in u * (days * units_in_day u) ≡ days * DAY_MINUTES
unit_days InMinutes days = omega arith
unit_days InQuarters days = omega arith

-- the padding is whole days
pub padding_days : (params : Params) → unit_minutes params * pad_units params ≡ pad_days * DAY_MINUTES
padding_days params = unit_days (terms_of params).unit pad_days

-- the number of the day of a place is that of its day
pub number_of_day : (params : Params) (first i : ℕ) → day_start params ≤ DAY_MINUTES → IsNumberOfDay (day_at params first i) (day_number params first i)
number_of_day params first i l =
    let e = padding_days params in
    quotient_moved (minute_at params first i -ℤ pos (day_start params)) (pad_days + 1) (first + unit_minutes params * i + (DAY_MINUTES - day_start params)) (omega (arith, ints))
