use Rattle.std.proofs.Common.{◌≡◌, ◌/◌, ◌∙◌, ap, subst, IfSome}
use Rattle.rule_core.specs.Reach.{IsOneOf, listed}
use Rattle.rule_core.specs.Book.{IsBook}
use Rattle.tour_model.specs.Schedule.{step_units}
use Rattle.cert_text.specs.CoverLists.Planning.{minute_of}
use Rattle.cert_text.specs.CoverLists.Laws.ProblemOf.{step_state}
use Rattle.label_examples.proofs.tests.state_after.Goals as goal

pub returns-in-Some : goal.returns-in-Some
returns-in-Some g c =
    let machine = g.B.RuleBook.machine c.args.book.now in
    let tour = c.args.tour.now in
    let advances = machine.advances c.args.state.now in
    let ns = c.in_ok-nexts.nexts in
    let next = c.in-Some.next in
    let first : IsOneOf (listed ns) next = subst (λ o. IfSome o (λ n. IsOneOf (listed ns) n)) c.in-Some.is c.first_of.ensures in
    let are : listed ns ≡ advances (minute_of tour c.args.step) c.args.act (step_units tour) =
    c.in_ok-nexts.ensures.nexts ∙ (ap (λ m. advances m c.args.act (tour.grid / c.unit_of.result)) c.minute_at.ensures
    ∙ ap (λ u. advances (minute_of tour c.args.step) c.args.act (tour.grid / u)) c.unit_of.ensures) in
    step_state tour machine (subst (λ p. IsBook p machine) c.requires.params (g.met.B.RuleBook.laws c.args.book.now)) c.requires.tour
    c.args.state.now c.args.step c.args.act next c.requires.state (subst (λ list. IsOneOf list next) are first)
