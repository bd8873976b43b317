use Rattle.std.proofs.Common.{subst}
use Rattle.rule_core.specs.Book.{IsBook}
use Rattle.cert_text.specs.CoverLists.Laws.SolutionLaws.{solution_at_least, no_solution, valid_shortest, valid_infeasible}
use Rattle.cert_text.proofs.cover_lists.laws.cover_lists_prove.Goals as goal

pub returns : goal.returns
returns g c =
    let tour = c.args.tour.now in
    let log = c.args.log.now in
    let m = g.B.RuleBook.machine c.args.book.now in
    let law = subst (λ params. IsBook params m) c.requires.params (g.met.B.RuleBook.laws c.args.book.now) in
    record {
      least = solution_at_least tour log m law c.requires.tour c.requires.short;
      none = no_solution tour log m law c.requires.tour c.requires.short;
      shortest = valid_shortest tour log m law c.requires.tour c.requires.short;
      infeasible = valid_infeasible tour log m law c.requires.tour c.requires.short;
    }
