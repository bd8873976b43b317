use Rattle.duty_core.specs.Params.{allows}
use Rattle.cert_text.specs.CoverLists.Planning.{problem_of, state_at}
use Rattle.label_search.specs.Searching.{IsRootState}
use Rattle.label_search.specs.Ways.{AreReached}
use Rattle.label_search.proofs.guess.root_beam.Given as goal

abbrev pub invariant-loop-root : goal.invariant-loop-root
invariant-loop-root g l = AreReached (problem_of l.terms.tour.now (g.B.RuleBook.machine l.terms.book.now)) (state_at l.terms.tour.now (g.B.RuleBook.machine l.terms.book.now)) (allows l.terms.tour.now.params) (IsRootState l.terms.roots.now) 0 l.beam.items
