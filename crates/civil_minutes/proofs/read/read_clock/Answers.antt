use Rattle.std.proofs.lemmas.Result.{err_from_is_err_and}
use Rattle.civil_minutes.proofs.StopPlaces.{bad_hour_mark, bad_hour, bad_minute_mark, bad_minute}
use Rattle.civil_minutes.proofs.read.read_clock.Goals as goal

pub returns-in_err-read_mark-clause-bad : goal.returns-in_err-read_mark-clause-bad
returns-in_err-read_mark-clause-bad c =
    let p = err_from_is_err_and c.from_residual.result c.from_residual.ensures.1 in
    rw (p.1, p.2) (bad_hour_mark c.args.text.now c.args.date _ c.requires c.in_err-read_mark.ensures.bad)

pub returns-in_err-hour-clause-bad : goal.returns-in_err-hour-clause-bad
returns-in_err-hour-clause-bad c =
    let p = err_from_is_err_and c.from_residual-in_err-hour.result c.from_residual-in_err-hour.ensures.1 in
    rw (p.1, p.2) (bad_hour c.args.text.now c.args.date _ c.requires c.in_ok-read_mark.ensures.mark c.in_err-hour.ensures.bad)

pub returns-in_err-read_mark-2-clause-bad : goal.returns-in_err-read_mark-2-clause-bad
returns-in_err-read_mark-2-clause-bad c =
    let p = err_from_is_err_and c.from_residual-in_err-read_mark-2.result c.from_residual-in_err-read_mark-2.ensures.1 in
    rw (p.1, p.2) (bad_minute_mark c.args.text.now c.args.date c.in_ok-hour.hour _ c.requires c.in_ok-read_mark.ensures.mark c.in_ok-hour.ensures.value.0.1 c.in_ok-hour.ensures.value.1 c.in_err-read_mark-2.ensures.bad)

pub returns-in_err-minute-clause-bad : goal.returns-in_err-minute-clause-bad
returns-in_err-minute-clause-bad c =
    let p = err_from_is_err_and c.from_residual-in_err-minute.result c.from_residual-in_err-minute.ensures.1 in
    rw (p.1, p.2) (bad_minute c.args.text.now c.args.date c.in_ok-hour.hour _ c.requires c.in_ok-read_mark.ensures.mark c.in_ok-hour.ensures.value.0.1 c.in_ok-hour.ensures.value.1 c.in_ok-read_mark-2.ensures.mark c.in_err-minute.ensures.bad)
