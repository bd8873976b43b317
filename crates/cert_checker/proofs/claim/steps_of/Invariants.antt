use Rattle.std.proofs.Common.{◌≡◌, ◌≤◌, take, length}
use Rattle.tour_model.specs.declared.limits.TheConstants.{LONGEST_TOUR}
use Rattle.cert_text.specs.Cert.{acts_of_runs}
use Rattle.cert_checker.proofs.claim.steps_of.Given as goal

abbrev pub invariant-loop-run : goal.invariant-loop-run
invariant-loop-run l = record {
  steps : l.steps.items ≡ acts_of_runs (take l.run-index l.runs);
  few : length l.steps.items ≤ LONGEST_TOUR;
}
