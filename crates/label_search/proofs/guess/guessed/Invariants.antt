use Rattle.label_search.specs.Terms.{IsGuessBy}
use Rattle.label_search.proofs.guess.guessed.Given as goal

abbrev pub invariant-loop-departure : goal.invariant-loop-departure
invariant-loop-departure g l = record {
  can : (goal.iterator-loop-departure g).can_next l.departure-iterator;
  finite : (goal.iterator-loop-departure g).is_finite l.departure-iterator;
  guess : IsGuessBy l.terms (g.B.RuleBook.machine l.terms.book.now) l.guess.best;
}
