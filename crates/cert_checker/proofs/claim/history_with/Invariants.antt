use Rattle.std.proofs.Common.{◌≡◌, ◌++◌, take}
use Rattle.tour_model.specs.Schedule.{units_of, step_units}
use Rattle.cert_checker.proofs.claim.history_with.Given as goal

abbrev pub invariant-loop-act : goal.invariant-loop-act
invariant-loop-act l = l.history ≡ l.log ++ units_of (step_units l.tour) (take l.act-index l.steps)
