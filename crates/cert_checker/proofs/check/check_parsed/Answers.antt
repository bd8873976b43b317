use Rattle.cert_text.specs.CoverLists.Laws.ProblemOf.{eta_obeys, eta_is_bound}
use Rattle.cert_checker.proofs.check.check_parsed.Goals as goal

pub check_by_terms-requires-clause-bound : goal.check_by_terms-requires-clause-bound
check_by_terms-requires-clause-bound g c = eta_is_bound c.args.tour.now (g.B.RuleBook.machine c.args.book.now) c.requires.tour

pub check_by_terms-requires-clause-obeys : goal.check_by_terms-requires-clause-obeys
check_by_terms-requires-clause-obeys g c = eta_obeys c.args.tour.now (g.B.RuleBook.machine c.args.book.now)
