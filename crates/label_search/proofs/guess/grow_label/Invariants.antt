use Rattle.std.proofs.Common.{◌+◌}
use Rattle.duty_core.specs.Params.{allows}
use Rattle.cert_text.specs.CoverLists.Planning.{problem_of, state_at}
use Rattle.label_search.specs.Searching.{IsRootState}
use Rattle.label_search.specs.Ways.{AreRankedReached}
use Rattle.label_search.proofs.guess.grow_label.Given as goal

abbrev pub invariant-loop-grown : goal.invariant-loop-grown
invariant-loop-grown g l = record {
  can : (goal.iterator-loop-grown g).can_next l.grown-iterator;
  finite : (goal.iterator-loop-grown g).is_finite l.grown-iterator;
  reached : AreRankedReached (problem_of l.terms.tour.now (g.B.RuleBook.machine l.terms.book.now)) (state_at l.terms.tour.now (g.B.RuleBook.machine l.terms.book.now)) (allows l.terms.tour.now.params) (IsRootState l.terms.roots.now) (l.step + 1) l.list.items;
}
