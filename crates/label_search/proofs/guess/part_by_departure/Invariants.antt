use Rattle.label_search.specs.Ways.{ArePartsOf}
use Rattle.label_search.proofs.guess.part_by_departure.Given as goal

abbrev pub invariant-loop-ranked : goal.invariant-loop-ranked
invariant-loop-ranked g l = record {
  can : (goal.iterator-loop-ranked g).can_next l.ranked-iterator;
  finite : (goal.iterator-loop-ranked g).is_finite l.ranked-iterator;
  parts : ArePartsOf l.yielded l.departed.items l.others.items;
}
