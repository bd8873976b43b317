use Rattle.std.proofs.Common.{ap, Ok}
use Rattle.civil_minutes.proofs.TimeTexts.{bad_end, time_read, one_minute}
use Rattle.civil_minutes.proofs.read.read_minute.Goals as goal

pub returns-in_err-date-clause-only : goal.returns-in_err-date-clause-only
returns-in_err-date-clause-only c =
    λ at h. absurd (c.in_err-date.ensures.bad.none at h)

pub returns-in_err-minutes-clause-only : goal.returns-in_err-minutes-clause-only
returns-in_err-minutes-clause-only c =
    λ at h. absurd (c.in_err-minutes.ensures.bad.none at h)

pub returns-then-text-gt16-clause-bad : goal.returns-then-text-gt16-clause-bad
returns-then-text-gt16-clause-bad c =
    bad_end c.args.text.now c.in_ok-date.date c.in_ok-minutes.minutes c.in_ok-minutes.ensures.time c.if-text-gt16.true

pub returns-clause-time : goal.returns-clause-time
returns-clause-time c =
    rw c.from.ensures (time_read c.args.text.now c.in_ok-date.date c.in_ok-minutes.minutes _ c.in_ok-minutes.ensures.time c.if-text-gt16.false c.minutes_before.ensures.value)

pub returns-clause-only : goal.returns-clause-only
returns-clause-only c =
    λ at h. rw c.from.ensures (ap Ok (one_minute c.args.text.now _ at (time_read c.args.text.now c.in_ok-date.date c.in_ok-minutes.minutes _ c.in_ok-minutes.ensures.time c.if-text-gt16.false c.minutes_before.ensures.value) h))
