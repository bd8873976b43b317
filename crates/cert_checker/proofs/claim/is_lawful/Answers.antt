use Rattle.std.proofs.Common.{◌≡◌, ◌-◌, ◌*◌, length, sym, ◌∙◌, ap, subst}
use Rattle.duty_core.specs.History.{IsTimed}
use Rattle.duty_core.specs.Params.{unit_minutes}
use Rattle.tour_model.specs.Schedule.{history_of, log_start}
use Rattle.tour_model.specs.Laws.LengthLaws.{history_timed}
use Rattle.cert_checker.proofs.claim.is_lawful.Goals as goal

pub is_lawful_with-requires : goal.is_lawful_with-requires
is_lawful_with-requires g c =
    let tour = c.args.tour.now in
    let log = c.args.log.now in
    let xs = c.args.steps.now in
    let params = (g.B.RuleBook.machine c.args.book.now).params in
    let start : c.unit_of.result * c.len.result ≡ unit_minutes tour.params * length log = ap (λ u. u * c.len.result) c.unit_of.ensures ∙ ap (λ n. unit_minutes tour.params * n) c.len.ensures.value in
    subst (λ h. IsTimed params (tour.start - c.unit_of.result * c.len.result) h) (sym c.in_ok-history.ensures)
    (subst (λ n. IsTimed params (tour.start - n) (history_of tour log xs)) (sym start)
    (subst (λ p. IsTimed p (log_start tour log) (history_of tour log xs)) (sym c.requires.params) (history_timed tour c.requires.tour log xs c.requires.short c.requires.serves)))
