use Rattle.std.proofs.Common.{inl}
use Rattle.driver_cli.proofs.Stepped.{graph_halts, handed_on, memory_on}
use Rattle.driver_cli.proofs.graph.graph.Goals as goal

pub returns-in_err-inputs-clause-answer : goal.returns-in_err-inputs-clause-answer
returns-in_err-inputs-clause-answer g c =
    handed_on c.from_residual.result c.in_err-inputs.field-0.0 _ _ c.from_residual.ensures.1
    (graph_halts c.args.tour.now c.args.log.now _ c.in_err-inputs.field-0.0 c.in_err-inputs.ensures.fetched)

pub returns-in_err-drawn-clause-answer : goal.returns-in_err-drawn-clause-answer
returns-in_err-drawn-clause-answer g c = memory_on c.from_residual-in_err-drawn.result _ _ c.from_residual-in_err-drawn.ensures.1 (inl c.in_ok-inputs.ensures.fetched.2.unfailed)

pub returns-clause-answer : goal.returns-clause-answer
returns-clause-answer g c =
    rw c.in_ok-drawn.ensures.0 (record {
      tour = c.in_ok-inputs.inputs.tour;
      log = c.in_ok-inputs.inputs.log;
      read = c.in_ok-inputs.ensures.fetched.2;
      told = c.in_ok-drawn.ensures.1;
    })
