use Rattle.std.proofs.lemmas.Result.{err_from_is_err_and}
use Rattle.civil_minutes.proofs.StopPlaces.{bad_first, bad_second, bad_year, bad_dash, bad_month}
use Rattle.civil_minutes.proofs.read.read_month.Goals as goal

pub returns-in_err-read_mark-clause-bad : goal.returns-in_err-read_mark-clause-bad
returns-in_err-read_mark-clause-bad c =
    let p = err_from_is_err_and c.from_residual.result c.from_residual.ensures.1 in
    rw (p.1, p.2) (bad_first c.args.text.now _ c.in_err-read_mark.ensures.bad)

pub returns-in_err-read_mark-2-clause-bad : goal.returns-in_err-read_mark-2-clause-bad
returns-in_err-read_mark-2-clause-bad c =
    let p = err_from_is_err_and c.from_residual-in_err-read_mark-2.result c.from_residual-in_err-read_mark-2.ensures.1 in
    rw (p.1, p.2) (bad_second c.args.text.now _ c.in_ok-read_mark.ensures.mark c.in_err-read_mark-2.ensures.bad)

pub returns-in_err-year-clause-bad : goal.returns-in_err-year-clause-bad
returns-in_err-year-clause-bad c =
    let p = err_from_is_err_and c.from_residual-in_err-year.result c.from_residual-in_err-year.ensures.1 in
    rw (p.1, p.2) (bad_year c.args.text.now _ c.in_ok-read_mark.ensures.mark c.in_ok-read_mark-2.ensures.mark c.in_err-year.ensures.bad)

pub returns-in_err-read_mark-3-clause-bad : goal.returns-in_err-read_mark-3-clause-bad
returns-in_err-read_mark-3-clause-bad c =
    let p = err_from_is_err_and c.from_residual-in_err-read_mark-3.result c.from_residual-in_err-read_mark-3.ensures.1 in
    rw (p.1, p.2) (bad_dash c.args.text.now c.in_ok-year.year _ c.in_ok-year.ensures.value.0.1 c.in_ok-read_mark.ensures.mark c.in_ok-read_mark-2.ensures.mark c.in_ok-year.ensures.value.1 c.in_err-read_mark-3.ensures.bad)

pub returns-in_err-month-clause-bad : goal.returns-in_err-month-clause-bad
returns-in_err-month-clause-bad c =
    let p = err_from_is_err_and c.from_residual-in_err-month.result c.from_residual-in_err-month.ensures.1 in
    rw (p.1, p.2) (bad_month c.args.text.now c.in_ok-year.year _ c.in_ok-year.ensures.value.0.1 c.in_ok-read_mark.ensures.mark c.in_ok-read_mark-2.ensures.mark c.in_ok-year.ensures.value.1 c.in_ok-read_mark-3.ensures.mark c.in_err-month.ensures.bad)
