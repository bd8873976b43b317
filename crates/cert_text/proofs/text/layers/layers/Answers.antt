use Rattle.std.proofs.Common.{◌+◌, List}
use Rattle.std.proofs.lemmas.Result.{err_from_is_err_and}
use Rattle.cert_text.specs.declared.cert.CertLabel.{CertLabel}
use Rattle.cert_text.specs.Text.Reading.{layer_at, layers_at}
use Rattle.cert_text.proofs.Loop.{goes_on, ends, is_done}
use Rattle.cert_text.proofs.text.layers.layers.Goals as goal

pub returns-in_err-next : goal.returns-in_err-next
returns-in_err-next c =
    let p = err_from_is_err_and c.from_residual.result c.from_residual.ensures.1 in
    rw (p.1, p.2) (ends (λ (l : List CertLabel). l) layer_at (λ s l. s + 1) c.loop-step.step c.in_err-next.field-0.0 c.loop-step.layers c.args.count c.loop-step.step c.loop-step.rest.now (layers_at c.args.count c.args.bytes.now) c.loop-step-test.true c.in_err-next.ensures c.loop-step.invariant)

pub loop-step-preserved : goal.loop-step-preserved
loop-step-preserved c = rw c.in_ok-push.ensures.ok (goes_on (λ (l : List CertLabel). l) layer_at (λ s l. s + 1) c.loop-step.step c.loop-step.layers c.args.count c.loop-step.step c.loop-step.rest.now c.in_ok-next.next c.in_ok-next.thereafter.now (layers_at c.args.count c.args.bytes.now) c.loop-step-test.true c.in_ok-next.ensures c.loop-step.invariant)

pub returns : goal.returns
returns c = is_done (λ (l : List CertLabel). l) layer_at (λ s l. s + 1) c.loop-step.step c.loop-step.layers c.args.count c.loop-step.step c.loop-step.rest.now (layers_at c.args.count c.args.bytes.now) c.loop-step-test.false c.loop-step.invariant
