use Rattle.std.proofs.Common.{ℕ}
use Rattle.std.proofs.lemmas.Result.{err_from_is_err_and}
use Rattle.cert_text.specs.declared.cert.CertLabel.{CertLabel}
use Rattle.cert_text.specs.Text.Reading.{label_at, labels_at}
use Rattle.cert_text.proofs.Loop.{goes_on, ends, is_done}
use Rattle.cert_text.proofs.text.layers.labels.Goals as goal

pub returns-in_err-next : goal.returns-in_err-next
returns-in_err-next c =
    let p = err_from_is_err_and c.from_residual.result c.from_residual.ensures.1 in
    rw (p.1, p.2) (ends (λ (l : CertLabel). l) (λ (s : ℕ). label_at) (λ s l. s) 0 c.in_err-next.field-0.0 c.loop.labels c.args.count c.loop.counter c.loop.rest.now (labels_at c.args.count c.args.bytes.now) c.loop-test.true c.in_err-next.ensures c.loop.invariant)

pub loop-preserved : goal.loop-preserved
loop-preserved c = rw c.in_ok-push.ensures.ok (goes_on (λ (l : CertLabel). l) (λ (s : ℕ). label_at) (λ s l. s) 0 c.loop.labels c.args.count c.loop.counter c.loop.rest.now c.in_ok-next.next c.in_ok-next.thereafter.now (labels_at c.args.count c.args.bytes.now) c.loop-test.true c.in_ok-next.ensures c.loop.invariant)

pub returns : goal.returns
returns c = is_done (λ (l : CertLabel). l) (λ (s : ℕ). label_at) (λ s l. s) 0 c.loop.labels c.args.count c.loop.counter c.loop.rest.now (labels_at c.args.count c.args.bytes.now) c.loop-test.false c.loop.invariant
