use Rattle.std.specs.Prelude.{refl}
use Rattle.std.proofs.Common.{inl, inr}
use Rattle.driver_cli.proofs.Stepped.{handed_on, memory_on, make_halts, summarized}
use Rattle.driver_cli.proofs.make.make.Goals as goal

pub returns-in_err-made-clause-answer : goal.returns-in_err-made-clause-answer
returns-in_err-made-clause-answer g c = memory_on c.from_residual.result _ _ c.from_residual.ensures.1 (inl (record { files = refl; faults = refl; failed = refl }))

pub returns-in_err-put_both-clause-answer : goal.returns-in_err-put_both-clause-answer
returns-in_err-put_both-clause-answer g c =
    let e = c.in_err-put_both.field-0.0 in
    handed_on c.from_residual-in_err-put_both.result e _ _ c.from_residual-in_err-put_both.ensures.1 (make_halts c.args.number c.args.tour.now c.args.log.now _ e c.in_err-put_both.ensures.put)

pub returns-in_err-summary-clause-answer : goal.returns-in_err-summary-clause-answer
returns-in_err-summary-clause-answer g c = memory_on c.from_residual-in_err-summary.result _ _ c.from_residual-in_err-summary.ensures.1 (inr (inr (inl c.in_ok-put_both.ensures.put)))

pub returns-clause-answer : goal.returns-clause-answer
returns-clause-answer g c =
    let made = c.in_ok-made.made in
    summarized c.args.number c.args.tour.now c.args.log.now _ made.tour made.log _ _ c.in_ok-made.ensures.says c.in_ok-put_both.ensures.put c.in_ok-summary.ensures
