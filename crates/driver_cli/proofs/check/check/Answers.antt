use Rattle.std.specs.Prelude.{Err}
use Rattle.std.proofs.Common.{inl, subst}
use Rattle.driver_cli.specs.Fetched.{IsFetched}
use Rattle.driver_cli.specs.Given.{GivesCert}
use Rattle.driver_cli.proofs.Stepped.{rebased, still_unfailed, still_given, still_lawful, check_unlawful, cert_halts, cert_checked, handed_on, memory_on}
use Rattle.driver_cli.proofs.check.check.Goals as goal

pub returns-in_err-require_lawful-clause-answer : goal.returns-in_err-require_lawful-clause-answer
returns-in_err-require_lawful-clause-answer g c =
    handed_on c.from_residual-in_err-require_lawful.result c.in_err-require_lawful.field-0.0 _ _ c.from_residual-in_err-require_lawful.ensures.1
    (check_unlawful c.args.tour.now c.args.log.now c.args.cert.now _ c.in_ok-inputs.inputs.tour c.in_ok-inputs.inputs.log c.in_err-require_lawful.field-0.0 c.in_ok-inputs.ensures.fetched.2 c.in_err-require_lawful.ensures)

pub returns-in_err-bytes-clause-answer : goal.returns-in_err-bytes-clause-answer
returns-in_err-bytes-clause-answer g c =
    let e = c.in_err-bytes.field-0.0 in
    let read = c.in_ok-inputs.ensures.fetched.2 in
    handed_on c.from_residual-in_err-bytes.result e _ _ c.from_residual-in_err-bytes.ensures.1
    (cert_halts c.args.tour.now c.args.log.now c.args.cert.now _ c.in_ok-inputs.inputs.tour c.in_ok-inputs.inputs.log 1010000001 e
    (still_given g.D.Desk _ _ _ c.args.tour.now c.args.log.now c.in_ok-inputs.inputs.tour c.in_ok-inputs.inputs.log read.given) c.in_ok-require_lawful.ensures
    (rebased g.D.Desk _ _ _ (λ r. IsFetched c.args.cert.now 1010000001 r (Err e)) c.in_ok-inputs.ensures.kept read.unfailed c.in_err-bytes.ensures.fetched))

pub returns-in_err-checked-clause-answer : goal.returns-in_err-checked-clause-answer
returns-in_err-checked-clause-answer g c =
    memory_on c.from_residual-in_err-checked.result _ _ c.from_residual-in_err-checked.ensures.1
    (inl (inl (still_unfailed g.D.Desk _ _ _ c.in_ok-inputs.ensures.fetched.2.unfailed c.in_ok-bytes.ensures.fetched.1)))

pub returns-clause-answer : goal.returns-clause-answer
returns-clause-answer g c =
    let bytes = c.in_ok-bytes.ensures.fetched in
    cert_checked c.args.tour.now c.args.log.now c.args.cert.now _ c.in_ok-inputs.inputs.tour c.in_ok-inputs.inputs.log c.in_ok-bytes.bytes.items _ _
    (still_lawful g.D.Desk _ _ _ c.args.tour.now c.args.log.now c.in_ok-inputs.inputs.tour c.in_ok-inputs.inputs.log c.in_ok-inputs.ensures.fetched.2 bytes.1 c.in_ok-require_lawful.ensures)
    (subst (λ files. GivesCert files c.args.cert.now c.in_ok-bytes.bytes.items) c.in_ok-inputs.ensures.kept.files bytes.0)
    (rw c.deref.ensures.value at c.in_ok-checked.ensures)
