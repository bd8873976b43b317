use Rattle.std.proofs.Common.{◌≡◌, ◌-◌, ◌*◌, length, sym, ◌∙◌, ap, subst}
use Rattle.duty_core.specs.History.{IsTimed}
use Rattle.duty_core.specs.Params.{unit_minutes}
use Rattle.rule_core.specs.Replay.{IfUnlawful, IsFirstUnlawful}
use Rattle.tour_model.specs.Schedule.{log_start}
use Rattle.tour_model.specs.Laws.LengthLaws.{log_timed}
use Rattle.cert_checker.proofs.CheckedLaws.{lawful_replayed}
use Rattle.cert_checker.proofs.top.check_by.Goals as goal

pub replay-requires : goal.replay-requires
replay-requires g c =
    let tour = c.args.tour.now in
    let log = c.args.log.now in
    let params = (g.B.RuleBook.machine c.args.book.now).params in
    let start : c.unit_of.result * c.len.result ≡ unit_minutes tour.params * length log = ap (λ u. u * c.len.result) c.unit_of.ensures ∙ ap (λ n. unit_minutes tour.params * n) c.len.ensures.value in
    record {
      timed = subst (λ n. IsTimed params (tour.start - n) log) (sym start)
          (subst (λ p. IsTimed p (log_start tour log) log) (sym c.requires.params) (log_timed tour c.requires.tour log c.requires.short));
    }

pub unreachable-requires : goal.unreachable-requires
unreachable-requires g c =
    let tour = c.args.tour.now in
    let log = c.args.log.now in
    let params = (g.B.RuleBook.machine c.args.book.now).params in
    let unit = c.in-Unlawful.unit in
    let start : c.unit_of.result * c.len.result ≡ unit_minutes tour.params * length log = ap (λ u. u * c.len.result) c.unit_of.ensures ∙ ap (λ n. unit_minutes tour.params * n) c.len.ensures.value in
    let found = subst (λ o. IfUnlawful o (IsFirstUnlawful params (tour.start - c.unit_of.result * c.len.result) log)) c.in-Unlawful.is c.in_ok-roots.ensures.unlawful in
    lawful_replayed tour.params (log_start tour log) log unit c.requires.lawful
    (subst (λ n. IsFirstUnlawful tour.params (tour.start - n) log unit) start (subst (λ p. IsFirstUnlawful p (tour.start - c.unit_of.result * c.len.result) log unit) c.requires.params found))
