use Rattle.std.proofs.lemmas.Result.{err_from_is_err_and}
use Rattle.rule_core.specs.declared.numbers.TheConstants.{MOST_NUMBERS}
use Rattle.cert_text.specs.Text.Reading.{numbers_at}
use Rattle.cert_text.proofs.NumbersLoop.{number_more, number_ends, numbers_full, numbers_done}
use Rattle.cert_text.proofs.text.layers.numbers.Goals as goal
use Rattle.cert_text.proofs.text.layers.numbers.Goals.{else-loop-test, then-loop-test+in_default}

pub returns-in_err-next : goal.returns-in_err-next
returns-in_err-next c =
    let p = err_from_is_err_and c.from_residual.result c.from_residual.ensures.1 in
    rw (p.1, p.2) (number_ends c.in_err-next.field-0.0 c.loop.numbers MOST_NUMBERS c.loop.counter c.loop.rest.now c.in-Some.digits.now (numbers_at MOST_NUMBERS c.args.bytes.now) c.loop-test.true c.in-Some.ensures c.in_err-next.ensures c.loop.invariant)

pub loop-preserved : goal.loop-preserved
loop-preserved c =
    rw c.in_ok-push.ensures.ok (number_more c.loop.numbers MOST_NUMBERS c.loop.counter c.loop.rest.now c.in-Some.digits.now c.in_ok-next.next c.in_ok-next.thereafter.now (numbers_at MOST_NUMBERS c.args.bytes.now) c.loop-test.true c.in-Some.ensures c.in_ok-next.ensures c.loop.invariant)

pub returns : goal.returns
returns c =
    elim c.loop-test.branch [
      | else-loop-test w ↦ numbers_full c.loop.numbers MOST_NUMBERS c.loop.counter c.loop.rest.now (numbers_at MOST_NUMBERS c.args.bytes.now) w.loop-test.false c.loop.invariant
      | then-loop-test+in_default w ↦ numbers_done c.loop.numbers MOST_NUMBERS c.loop.counter c.loop.rest.now (numbers_at MOST_NUMBERS c.args.bytes.now) w.loop-test.true w.in_default.ensures c.loop.invariant
    ]
