use Rattle.std.proofs.Common.{◌+◌}
use Rattle.cert_text.specs.CoverLists.Planning.{problem_of}
use Rattle.label_search.specs.Searching.{Gathers}
use Rattle.label_search.proofs.gather.gather_from.Given as goal

abbrev pub invariant-loop-grown : goal.invariant-loop-grown
invariant-loop-grown g l = record {
  can : (goal.iterator-loop-grown g).can_next l.grown-iterator;
  finite : (goal.iterator-loop-grown g).is_finite l.grown-iterator;
  gathered : Gathers (problem_of l.tour (g.B.RuleBook.machine l.book)) l.limit (l.parent.place.layer + 1) l.parent.place.index
      l.yielded l.initial.list.items l.list.items;
}
