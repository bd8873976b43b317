use Rattle.std.proofs.Common.{arith}
use Rattle.std.proofs.lemmas.Int.{ints}
use Rattle.jiff_core.proofs.CalendarLemmas.{days_in_month_bounds}
use Rattle.std.proofs.lemmas.Result.{err_from_is_err_and}
use Rattle.civil_minutes.proofs.StopPlaces.{bad_second_dash, bad_day}
use Rattle.civil_minutes.proofs.read.read_date.Goals as goal

pub returns-in_err-read_mark-clause-bad : goal.returns-in_err-read_mark-clause-bad
returns-in_err-read_mark-clause-bad c =
    let p = err_from_is_err_and c.from_residual-in_err-read_mark.result c.from_residual-in_err-read_mark.ensures.1 in
    rw (p.1, p.2) (bad_second_dash c.args.text.now c.in_ok-month.month _ c.in_ok-month.ensures.month c.in_err-read_mark.ensures.bad)

pub returns-in_err-day-clause-bad : goal.returns-in_err-day-clause-bad
returns-in_err-day-clause-bad c =
    let length = days_in_month_bounds c.in_ok-month.month.year c.in_ok-month.month.month in
    let p = err_from_is_err_and c.from_residual-in_err-day.result c.from_residual-in_err-day.ensures.1 in
    rw (p.1, p.2) (bad_day c.args.text.now c.in_ok-month.month _ _ c.in_ok-month.ensures.month (omega (arith, ints, length, c.days_in_month.ensures)) c.in_ok-read_mark.ensures.mark c.in_err-day.ensures.bad)
