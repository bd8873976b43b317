use Rattle.std.proofs.Common.{◌+◌}
use Rattle.duty_core.specs.Params.{allows}
use Rattle.cert_text.specs.CoverLists.Planning.{problem_of, state_at}
use Rattle.label_search.specs.Searching.{IsRootState}
use Rattle.label_search.specs.Ways.{AreRankedReached}
use Rattle.label_search.proofs.guess.grow_beam.Given as goal

abbrev pub invariant-loop-label : goal.invariant-loop-label
invariant-loop-label g l = AreRankedReached (problem_of l.terms.tour.now (g.B.RuleBook.machine l.terms.book.now)) (state_at l.terms.tour.now (g.B.RuleBook.machine l.terms.book.now)) (allows l.terms.tour.now.params) (IsRootState l.terms.roots.now) (l.step + 1) l.list.items
