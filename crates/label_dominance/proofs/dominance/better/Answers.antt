use Rattle.std.proofs.Common.{sym, subst, ◌∙◌}
use Rattle.duty_core.specs.Params.{allows}
use Rattle.rule_core.specs.Book.{IsBook}
use Rattle.cert_text.specs.CoverLists.Planning.{problem_of, state_at}
use Rattle.cert_text.specs.CoverLists.Laws.ProblemOf.{problem_laws}
use Rattle.cert_text.specs.CoverLists.Laws.ContinuationLaws.{better_answers}
use Rattle.label_dominance.proofs.dominance.better.Goals as goal

pub returns-then-may_keep_up-clause-answers : goal.returns-then-may_keep_up-clause-answers
returns-then-may_keep_up-clause-answers g c holds i j =
    let book = c.args.book.now in
    let tour = c.args.tour.now in
    let m = g.B.RuleBook.machine book in
    let law = subst (λ params. IsBook params m) c.requires.params (g.met.B.RuleBook.laws book) in
    better_answers (problem_of tour m) (state_at tour m) (allows tour.params)
    (problem_laws tour m law c.requires.tour)
    c.args.step c.args.a.now c.args.b.now i j (sym c.stands_for.ensures ∙ holds)
