use Rattle.label_state.specs.Layers.{last_step, last_layer}
use Rattle.cert_text.specs.CoverLists.Planning.{problem_of}
use Rattle.label_dominance.proofs.OfferLaws.{Looked}
use Rattle.label_dominance.proofs.dominance.first_cover.Given as goal

abbrev pub invariant-loop-progress : goal.invariant-loop-progress
invariant-loop-progress g l =
    Looked (problem_of l.tour (g.B.RuleBook.machine l.book)) (last_step l.layers) (last_layer l.layers) l.label l.progress l.before l.first
