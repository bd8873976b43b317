use Rattle.std.proofs.Common.{◌∙◌, sym, inl, arith}
use Rattle.std.proofs.lemmas.Result.{err_from_is_err_and}
use Rattle.csv.specs.Records.{fields_of}
use Rattle.duty_log.proofs.RecordFacts.{mapped_ok, read_ends, read_moves}
use Rattle.duty_log.proofs.PlaceFacts.{sound_ends}
use Rattle.duty_log.proofs.LoopFacts.{ends_elsewhere, ends_there, goes_on, loop_row, stops}
use Rattle.duty_log.proofs.read.read_rows.Goals as goal

pub returns-in_err-row-clause-fault : goal.returns-in_err-row-clause-fault
returns-in_err-row-clause-fault c =
    let h = c.loop-record.invariant in
    let item = mapped_ok c.in-Some.record c.in_ok-record.record c.in_ok-record.ensures.cases in
    let step = rw (c.in-Some.is, item) at (c.next.ensures.steps h.turns_left h.between.untrimmed) in
    let s = step.0 h.between.ready in
    let moves = read_moves c.loop-record.record-iterator.rdr c.next.new.self.rdr (fields_of c.in_ok-record.record) h.between (inl s.1) step.3 s.0 in
    let p = err_from_is_err_and c.from_residual-in_err-row.result c.from_residual-in_err-row.ensures.1 in
    rw (p.1, p.2) (λ not_memory. stops c.args.params c.args.start _ _ _ _ _ _ c.in_err-row.field-0.0 h moves c.in_err-row.ensures)

pub units_of-requires : goal.units_of-requires
units_of-requires c =
    let r = loop_row c.args.params c.args.start c.loop-record.record-iterator.rdr c.loop-record.record-iterator.left _ _ _ c.in_ok-row.row c.loop-record.invariant c.in_ok-row.ensures in
    let some = r.0.some in
    omega arith

pub append-requires : goal.append-requires
append-requires c =
    let r = loop_row c.args.params c.args.start c.loop-record.record-iterator.rdr c.loop-record.record-iterator.left _ _ _ c.in_ok-row.row c.loop-record.invariant c.in_ok-row.ensures in
    rw c.units_of.ensures r.1.room

pub loop-record-preserved : goal.loop-record-preserved
loop-record-preserved c =
    let h = c.loop-record.invariant in
    let item = mapped_ok c.in-Some.record c.in_ok-record.record c.in_ok-record.ensures.cases in
    let step = rw (c.in-Some.is, item) at (c.next.ensures.steps h.turns_left h.between.untrimmed) in
    let s = step.0 h.between.ready in
    let moves = read_moves c.loop-record.record-iterator.rdr c.next.new.self.rdr (fields_of c.in_ok-record.record) h.between (inl s.1) step.3 s.0 in
    rw (c.first_of.ensures, c.in_ok-append.ensures, c.units_of.ensures) (goes_on c.args.params c.args.start _ _ _ _ _ _ _ c.in_ok-row.row h moves s.2 c.in_ok-row.ensures)

pub returns-then-ends_at-clause-log : goal.returns-then-ends_at-clause-log
returns-then-ends_at-clause-log c =
    let h = c.loop-record.invariant in
    let s = rw c.in-None.is at ((c.next.ensures.steps h.turns_left h.between.untrimmed).0 h.between.ready) in
    let none = read_ends c.loop-record.record-iterator.rdr c.next.new.self.rdr _ h.between s in
    ends_there c.args.params c.args.start c.loop-record.record-iterator.rdr _ _ _ h none (sym c.ends_at.ensures ∙ c.if-ends_at.true)

pub returns-else-ends_at-clause-fault : goal.returns-else-ends_at-clause-fault
returns-else-ends_at-clause-fault c not_memory =
    let h = c.loop-record.invariant in
    let s = rw c.in-None.is at ((c.next.ensures.steps h.turns_left h.between.untrimmed).0 h.between.ready) in
    let none = read_ends c.loop-record.record-iterator.rdr c.next.new.self.rdr _ h.between s in
    ends_elsewhere c.args.params c.args.start c.loop-record.record-iterator.rdr _ _ _ h none (sym c.ends_at.ensures ∙ c.if-ends_at.false)

pub returns-then-ends_at-clause-ends : goal.returns-then-ends_at-clause-ends
returns-then-ends_at-clause-ends c =
    sound_ends c.args.params c.loop-record.rows c.args.start c.loop-record.before c.loop-record.timeline c.loop-record.invariant.sound (sym c.ends_at.ensures ∙ c.if-ends_at.true)
