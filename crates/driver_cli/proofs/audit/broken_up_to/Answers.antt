use Rattle.std.proofs.Common.{length, subst, sym}
use Rattle.duty_core.specs.Params.{BeginsUnit}
use Rattle.tour_model.specs.Laws.LengthLaws.{begins_sooner}
use Rattle.driver_cli.proofs.audit.broken_up_to.Goals as goal

pub broken-requires-clause-begins : goal.broken-requires-clause-begins
broken-requires-clause-begins c =
    let tour = c.args.inputs.now.tour in
    subst (BeginsUnit tour.params) (sym c.log_start-first.ensures.value) (begins_sooner tour.params tour.start (length c.args.inputs.now.log) c.requires.tour.whole_start)
