use Rattle.std.proofs.Common.{◌-◌}
use Rattle.label_state.specs.Layers.{label_count}
use Rattle.cert_text.specs.CoverLists.Planning.{problem_of, state_at}
use Rattle.label_search.proofs.SearchLaws.{IsSearching}
use Rattle.label_search.proofs.by_layers.search.Given as goal

abbrev pub invariant-loop-alloc : goal.invariant-loop-alloc
invariant-loop-alloc g l =
    IsSearching (problem_of l.tour (g.B.RuleBook.machine l.book)) l.roots (state_at l.tour (g.B.RuleBook.machine l.book))
    l.budget l.step l.initial.best.limit l.best l.layers

abbrev pub decreases-loop-alloc : goal.decreases-loop-alloc
decreases-loop-alloc g l = l.budget - label_count l.layers
