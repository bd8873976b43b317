use Rattle.std.proofs.Common.{◌∙◌}
use Rattle.driver_cli.proofs.Stepped.{put_on, first_halts, second_halts}
use Rattle.driver_cli.proofs.make.put_both.Goals as goal

pub returns-in_err-put-clause-put : goal.returns-in_err-put-clause-put
returns-in_err-put-clause-put g c =
    let e = c.in_err-put.field-0.0 in
    put_on c.args.number c.args.tour.now c.args.log.now _ c.from_residual.result e c.from_residual.ensures.1 (first_halts c.args.number c.args.tour.now c.args.log.now c.as_bytes.result.now _ e c.in_err-put.ensures.put)

pub returns-clause-put : goal.returns-clause-put
returns-clause-put g c =
    second_halts c.args.number c.args.tour.now c.args.log.now g.D.Desk _ _ _ c.as_bytes.result.now c.as_bytes-2.result.now c.put-2.result
    (c.as_bytes.ensures ∙ c.requires.tour) (c.as_bytes-2.ensures ∙ c.requires.log) c.in_ok-put.ensures.put c.put-2.ensures.put
