use Rattle.std.proofs.Common.{subst, IfOk}
use Rattle.std.specs.Prelude.{Result, Ok, Err}
use Rattle.cert_text.specs.Text.Form.{IsCertForm}
use Rattle.cert_text.specs.Text.Spelling.{IsCertText}
use Rattle.cert_checker.specs.Verdicts.{Proves}
use Rattle.cert_checker.specs.Checked.{IsVerdictFor, IsCheck, Follows}
use Rattle.cert_checker.proofs.CheckedLaws.{only_read, check_of, follows_of}
use Rattle.cert_checker.proofs.top.check_cert.Goals as goal

ok_also : {T E : Type 0} (r : Result T E) (P Q : T → Type 0) → ((v : T) → P v → Q v) → IfOk r P → IfOk r Q
ok_also (Ok v) P Q f h = f v h
ok_also (Err e) P Q f h = tt

pub returns-in-Ok-clause-verdict : goal.returns-in-Ok-clause-verdict
returns-in-Ok-clause-verdict c =
    let tour = c.args.tour.now in
    let log = c.args.log.now in
    let bytes = c.args.bytes.now in
    let cert = c.in-Ok.cert in
    let found = subst (λ r. IfOk r (λ k. IsCertForm tour.params k × IsCertText tour.params k bytes)) c.in-Ok.is c.read_cert.ensures.found in
    ok_also c.check_read.result (IsVerdictFor tour log cert) (IsCheck tour log bytes) (λ v h. check_of tour log bytes cert v found.1 found.0 (only_read tour bytes c.read_cert.result cert c.in-Ok.is c.read_cert.ensures.only) h)
    c.check_read.ensures.verdict

pub returns-in-Ok-clause-proves : goal.returns-in-Ok-clause-proves
returns-in-Ok-clause-proves c =
    let tour = c.args.tour.now in
    let log = c.args.log.now in
    let bytes = c.args.bytes.now in
    let cert = c.in-Ok.cert in
    ok_also c.check_read.result (Proves tour log cert) (Follows tour log bytes) (λ v p. follows_of tour log bytes cert v (only_read tour bytes c.read_cert.result cert c.in-Ok.is c.read_cert.ensures.only) p)
    c.check_read.ensures.proves
