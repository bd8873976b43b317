use Rattle.std.proofs.lemmas.Result.{err_from_is_err_and}
use Rattle.cert_text.specs.declared.cert.StepRun.{StepRun}
use Rattle.cert_text.specs.Text.Reading.{run_at, after_run, runs_at}
use Rattle.cert_text.proofs.Loop.{goes_on, ends, is_done}
use Rattle.cert_text.proofs.text.runs.runs.Goals as goal

pub returns-in_err-next : goal.returns-in_err-next
returns-in_err-next c =
    let p = err_from_is_err_and c.from_residual.result c.from_residual.ensures.1 in
    rw (p.1, p.2) (ends (λ (r : StepRun). r) run_at after_run c.loop.before c.in_err-next.field-0.0 c.loop.runs c.args.count c.loop.counter c.loop.rest.now (runs_at c.args.count c.args.bytes.now) c.loop-test.true c.in_err-next.ensures c.loop.invariant)

pub loop-preserved : goal.loop-preserved
loop-preserved c = rw c.in_ok-push.ensures.ok (goes_on (λ (r : StepRun). r) run_at after_run c.loop.before c.loop.runs c.args.count c.loop.counter c.loop.rest.now c.in_ok-next.next c.in_ok-next.thereafter.now (runs_at c.args.count c.args.bytes.now) c.loop-test.true c.in_ok-next.ensures c.loop.invariant)

pub returns : goal.returns
returns c = is_done (λ (r : StepRun). r) run_at after_run c.loop.before c.loop.runs c.args.count c.loop.counter c.loop.rest.now (runs_at c.args.count c.args.bytes.now) c.loop-test.false c.loop.invariant
