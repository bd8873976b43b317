use Rattle.tour_model.specs.Laws.LengthLaws.{serves_short}
use Rattle.report_text.proofs.Placed.{solution_marks}
use Rattle.report_text.proofs.write.report.Goals as goal

pub told-requires-clause-steps : goal.told-requires-clause-steps
told-requires-clause-steps c =
    rw c.items.ensures (serves_short c.args.tour.now c.requires.tour c.args.schedule.now.steps c.requires.solution.serves)

pub told-requires-clause-marks : goal.told-requires-clause-marks
told-requires-clause-marks c =
    solution_marks c.args.tour.now c.requires.tour c.args.log.now c.args.schedule.now.steps c.args.schedule.now.marks c.requires.short c.requires.solution
