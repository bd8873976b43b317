use Rattle.std.specs.Prelude.{Err}
use Rattle.driver_cli.specs.Sides.{HasPut}
use Rattle.driver_cli.specs.Steps.{IsFilePut}
use Rattle.driver_cli.proofs.Stepped.{rewritten, still_lawful, handed_on, plan_halts, plan_declines, put_halts, proved}
use Rattle.driver_cli.proofs.plan.plan.Goals as goal

pub returns-in_err-inputs : goal.returns-in_err-inputs
returns-in_err-inputs g c =
    let e = c.in_err-inputs.field-0.0 in
    let ens = c.in_err-inputs.ensures in
    record {
      answer = handed_on c.from_residual.result e _ _ c.from_residual.ensures.1 (plan_halts c.args.tour.now c.args.log.now c.args.cert.now c.args.budget _ _ e ens.kept ens.fetched);
    }

pub returns-in_err-proposal : goal.returns-in_err-proposal
returns-in_err-proposal g c =
    let e = c.in_err-proposal.field-0.0 in
    let ens = c.in_ok-inputs.ensures in
    record {
      answer = handed_on c.from_residual-in_err-proposal.result e _ _ c.from_residual-in_err-proposal.ensures.1
          (plan_declines c.args.tour.now c.args.log.now c.args.cert.now c.args.budget _ _ c.in_ok-inputs.inputs.tour c.in_ok-inputs.inputs.log e ens.kept ens.fetched.2 c.in_err-proposal.ensures);
    }

pub returns-in_err-put : goal.returns-in_err-put
returns-in_err-put g c =
    let e = c.in_err-put.field-0.0 in
    let ens = c.in_ok-inputs.ensures in
    let put = c.in_err-put.ensures in
    record {
      answer = handed_on c.from_residual-in_err-put.result e _ _ c.from_residual-in_err-put.ensures.1
          (put_halts c.args.tour.now c.args.log.now c.args.cert.now c.args.budget _ _ c.in_ok-inputs.inputs.tour c.in_ok-inputs.inputs.log c.deref.result.now e
          (still_lawful g.D.Desk _ _ _ c.args.tour.now c.args.log.now c.in_ok-inputs.inputs.tour c.in_ok-inputs.inputs.log ens.fetched.2 put.unfailed c.in_ok-proposal.ensures.0)
          (rewritten g.D.Desk _ _ _ (λ w. IsFilePut c.args.cert.now c.deref.result.now w (Err e)) ens.kept put.put));
    }

pub returns : goal.returns
returns g c =
    let ens = c.in_ok-inputs.ensures in
    let put = c.in_ok-put.ensures in
    let bytes = c.in_ok-proposal.proposal.cert.items in
    let held : HasPut _ c.args.cert.now bytes = rw c.deref.ensures.value at (rewritten g.D.Desk _ _ _ (λ w. HasPut w c.args.cert.now c.deref.result.now) ens.kept put.put) in
    record {
      answer = proved c.args.tour.now c.args.log.now c.args.cert.now c.args.budget _ _ c.in_ok-inputs.inputs.tour c.in_ok-inputs.inputs.log bytes _ _
          (still_lawful g.D.Desk _ _ _ c.args.tour.now c.args.log.now c.in_ok-inputs.inputs.tour c.in_ok-inputs.inputs.log ens.fetched.2 put.unfailed c.in_ok-proposal.ensures.0)
          c.in_ok-proposal.ensures.1 held;
    }
