use Rattle.std.proofs.Common.{refl}
use Rattle.duty_log.proofs.RowFacts.{fields_read}
use Rattle.duty_log.proofs.row.read_row.Goals as goal

pub returns-in_default-2 : goal.returns-in_default-2
returns-in_default-2 c =
    let from = c.read_minute.ensures in
    let to = c.read_minute-2.ensures in
    fields_read c.args.params c.args.number c.args.before _ _ _ c.in-Some.fields.status.now c.read_minute.result c.read_minute-2.result _ c.in-Some.ensures from.time from.bad to.time to.bad
    (rw (c.in_default-2.is-0, c.in_default-2.is-1) refl)

pub returns-in_default-2-2 : goal.returns-in_default-2-2
returns-in_default-2-2 c =
    let from = c.read_minute.ensures in
    let to = c.read_minute-2.ensures in
    fields_read c.args.params c.args.number c.args.before _ _ _ c.in-Some.fields.status.now c.read_minute.result c.read_minute-2.result _ c.in-Some.ensures from.time from.bad to.time to.bad
    (rw c.in_default-2.is-0 refl)

pub returns-in_default-activity_of : goal.returns-in_default-activity_of
returns-in_default-activity_of c =
    let from = c.read_minute.ensures in
    let to = c.read_minute-2.ensures in
    fields_read c.args.params c.args.number c.args.before _ _ _ c.in-Some.fields.status.now c.read_minute.result c.read_minute-2.result _ c.in-Some.ensures from.time from.bad to.time to.bad
    (rw (c.in-Ok-Ok.is-0, c.in-Ok-Ok.is-1, ← c.in_default-activity_of.ensures) refl)

pub returns : goal.returns
returns c =
    let from = c.read_minute.ensures in
    let to = c.read_minute-2.ensures in
    fields_read c.args.params c.args.number c.args.before _ _ _ c.in-Some.fields.status.now c.read_minute.result c.read_minute-2.result _ c.in-Some.ensures from.time from.bad to.time to.bad
    (rw (c.in-Ok-Ok.is-0, c.in-Ok-Ok.is-1, ← c.in-Some-activity_of.ensures) c.check.ensures)
