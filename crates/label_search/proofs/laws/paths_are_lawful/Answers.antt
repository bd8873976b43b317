use Rattle.std.proofs.Common.{subst}
use Rattle.rule_core.specs.Book.{IsBook}
use Rattle.label_search.proofs.AnswerLaws.{path_solves}
use Rattle.label_search.proofs.laws.paths_are_lawful.Goals as goal

pub returns : goal.returns
returns g c roots layers step index k reached sound there done =
    let book = c.args.book.now in
    let tour = c.args.tour.now in
    let log = c.args.log.now in
    let m = g.B.RuleBook.machine book in
    let law = subst (λ params. IsBook params m) c.requires.params (g.met.B.RuleBook.laws book) in
    (path_solves tour log m law c.requires.tour c.requires.short roots reached layers step index k sound there done).0
