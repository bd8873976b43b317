use Rattle.std.proofs.Common.{sym, subst}
use Rattle.duty_core.specs.History.{IsTimed}
use Rattle.tour_model.specs.Laws.LengthLaws.{log_timed}
use Rattle.tour_plan.proofs.audit.first_by.Goals as goal

-- the log is one that the book's rules may be asked of
pub replay-requires : goal.replay-requires
replay-requires g c =
    let tour = c.args.tour.now in
    let log = c.args.log.now in
    let timed = subst (λ at. IsTimed tour.params at log) (sym c.log_start.ensures.value) (log_timed tour c.requires.tour log c.requires.short) in
    record { timed = subst (λ p. IsTimed p c.log_start.result log) (sym c.requires.params) timed }
