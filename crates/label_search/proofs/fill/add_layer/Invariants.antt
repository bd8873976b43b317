use Rattle.cert_text.specs.CoverLists.Planning.{problem_of}
use Rattle.label_state.specs.Layers.{last_layer}
use Rattle.label_dominance.specs.Offers.{AreAheadBelow}
use Rattle.label_search.specs.Searching.{AddsLayer}
use Rattle.label_search.proofs.fill.add_layer.Given as goal

abbrev pub invariant-loop-kept : goal.invariant-loop-kept
invariant-loop-kept g l = record {
  can : (goal.iterator-loop-kept g).can_next l.kept-iterator;
  finite : (goal.iterator-loop-kept g).is_finite l.kept-iterator;
  added : AddsLayer (problem_of l.tour (g.B.RuleBook.machine l.book)) l.budget l.yielded l.fn.layers l.layers;
  ahead : AreAheadBelow (g.B.RuleBook.machine l.book).ahead l.ahead_end (last_layer l.layers);
}
