use Rattle.duty_core.specs.Params.{allows}
use Rattle.cert_text.specs.CoverLists.Planning.{problem_of, state_at}
use Rattle.label_search.specs.Searching.{IsRootState}
use Rattle.label_search.specs.Ways.{AreReached}
use Rattle.label_search.proofs.guess.thinned.Given as goal

abbrev pub invariant-loop-ranked : goal.invariant-loop-ranked
invariant-loop-ranked g l = record {
  can : (goal.iterator-loop-ranked g).can_next l.ranked-iterator;
  finite : (goal.iterator-loop-ranked g).is_finite l.ranked-iterator;
  reached : AreReached (problem_of l.terms.tour.now (g.B.RuleBook.machine l.terms.book.now)) (state_at l.terms.tour.now (g.B.RuleBook.machine l.terms.book.now)) (allows l.terms.tour.now.params) (IsRootState l.terms.roots.now) l.step l.beam.items;
}
