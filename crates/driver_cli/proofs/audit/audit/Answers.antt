use Rattle.std.proofs.Common.{inl}
use Rattle.driver_cli.proofs.Stepped.{audit_unlawful, handed_on, memory_on}
use Rattle.driver_cli.proofs.audit.audit.Goals as goal

pub returns-in_err-require_lawful-clause-answer : goal.returns-in_err-require_lawful-clause-answer
returns-in_err-require_lawful-clause-answer g c =
    handed_on c.from_residual-in_err-require_lawful.result c.in_err-require_lawful.field-0.0 _ _ c.from_residual-in_err-require_lawful.ensures.1
    (audit_unlawful c.args.tour.now c.args.log.now _ c.in_ok-inputs.inputs.tour c.in_ok-inputs.inputs.log c.in_err-require_lawful.field-0.0 c.in_ok-inputs.ensures.fetched.2 c.in_err-require_lawful.ensures)

pub returns-in_err-of-clause-answer : goal.returns-in_err-of-clause-answer
returns-in_err-of-clause-answer g c = memory_on c.from_residual-in_err-of.result _ _ c.from_residual-in_err-of.ensures.1 (inl c.in_ok-inputs.ensures.fetched.2.unfailed)

pub returns-clause-answer : goal.returns-clause-answer
returns-clause-answer g c =
    rw c.in_ok-of.ensures.0 (record {
      tour = c.in_ok-inputs.inputs.tour;
      log = c.in_ok-inputs.inputs.log;
      lawful = record { read = c.in_ok-inputs.ensures.fetched.2; lawful = c.in_ok-require_lawful.ensures };
      told = c.in_ok-of.ensures.1;
    })
