use Rattle.std.proofs.Common.{◌+◌, ◌≤◌, get_or, length, arith}
use Rattle.std.proofs.lemmas.List.{get_or_default}
use Rattle.duty_core.specs.declared.activity.Activity.TheVariants.{Drive}
use Rattle.cert_text.specs.declared.cert.StepRun.{StepRun}
use Rattle.cert_text.specs.Cert.{acts_of_runs}
use Rattle.cert_checker.proofs.ClaimLaws.{acts_long}
use Rattle.cert_checker.proofs.claim.steps_of.Goals as goal

pub returns-then-run-len-clause-steps : goal.returns-then-run-len-clause-steps
returns-then-run-len-clause-steps c =
    let runs = c.args.runs.now in
    let i = c.loop-run.run-index in
    let none : StepRun = record { count = 0; act = Drive } in
    let run = get_or runs i none in
    let many = c.if-run-len.true in
    let len = c.len.ensures in
    let few = c.loop-run.invariant.few in
    let all : length c.loop-run.steps.items + run.count ≤ length (acts_of_runs runs) = acts_long runs i run c.loop-run.steps.items c.loop-run-test.true (get_or_default runs i none run c.loop-run-test.true) c.loop-run.invariant.steps in
    omega arith
