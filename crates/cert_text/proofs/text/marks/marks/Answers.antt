use Rattle.std.proofs.Common.{◌≡◌, ◌-◌, ◌+◌, arith}
use Rattle.std.proofs.lemmas.Result.{err_from_is_err_and}
use Rattle.cert_text.specs.declared.text.marks.Marked.{Marked}
use Rattle.cert_text.specs.Text.Reading.{mark_at, after_mark, marks_at}
use Rattle.cert_text.proofs.Loop.{goes_on, ends, is_done}
use Rattle.cert_text.proofs.text.marks.marks.Goals as goal

pub returns-in_err-next : goal.returns-in_err-next
returns-in_err-next c =
    let p = err_from_is_err_and c.from_residual.result c.from_residual.ensures.1 in
    rw (p.1, p.2) (ends (λ (m : Marked). m.mark) (mark_at c.args.params) after_mark (record { least = c.loop-done.least; left = c.args.count - c.loop-done.done }) c.in_err-next.field-0.0 c.loop-done.marks c.args.count c.loop-done.done c.loop-done.rest.now (marks_at c.args.params c.args.count c.args.bytes.now) c.loop-done-test.true c.in_err-next.ensures.value c.loop-done.invariant)

pub loop-done-preserved : goal.loop-done-preserved
loop-done-preserved c =
    let left : c.args.count - c.loop-done.done - 1 ≡ c.args.count - (c.loop-done.done + 1) = omega arith in
    let on = goes_on (λ (m : Marked). m.mark) (mark_at c.args.params) after_mark (record { least = c.loop-done.least; left = c.args.count - c.loop-done.done }) c.loop-done.marks c.args.count c.loop-done.done c.loop-done.rest.now c.in_ok-next.next c.in_ok-next.thereafter.now (marks_at c.args.params c.args.count c.args.bytes.now) c.loop-done-test.true c.in_ok-next.ensures.value c.loop-done.invariant in
    rw c.in_ok-push.ensures.ok (rw left at on)

pub returns : goal.returns
returns c = is_done (λ (m : Marked). m.mark) (mark_at c.args.params) after_mark (record { least = c.loop-done.least; left = c.args.count - c.loop-done.done }) c.loop-done.marks c.args.count c.loop-done.done c.loop-done.rest.now (marks_at c.args.params c.args.count c.args.bytes.now) c.loop-done-test.false c.loop-done.invariant
