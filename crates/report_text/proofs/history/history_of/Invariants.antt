use Rattle.std.proofs.Common.{◌≡◌, ◌++◌, take}
use Rattle.tour_model.specs.Schedule.{units_of}
use Rattle.report_text.proofs.history.history_of.Given as goal

abbrev pub invariant-loop-act : goal.invariant-loop-act
invariant-loop-act l = l.history ≡ l.log ++ units_of l.each (take l.act-index l.schedule)
