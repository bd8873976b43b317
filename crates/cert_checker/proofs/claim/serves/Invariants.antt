use Rattle.cert_checker.proofs.ClaimLaws.{IsServing}
use Rattle.cert_checker.proofs.claim.serves.Given as goal

abbrev pub invariant-loop-step : goal.invariant-loop-step
invariant-loop-step l = IsServing l.tour l.steps l.step l.progress
