use Rattle.cert_text.specs.CoverLists.Planning.{problem_of}
use Rattle.label_dominance.proofs.OfferLaws.{NoneSoFar}
use Rattle.label_dominance.proofs.dominance.first_among.Given as goal

abbrev pub invariant-loop-place : goal.invariant-loop-place
invariant-loop-place g l =
    NoneSoFar (problem_of l.tour (g.B.RuleBook.machine l.book)) l.step l.layer l.places l.label l.place-index
