use Rattle.std.proofs.Common.{[], ◌∷◌, ◌++◌, sym, subst}
use Rattle.label_search.specs.Ways.{ArePartsOf}
use Rattle.label_search.proofs.GuessLaws.{parts_departed, parts_others}
use Rattle.label_search.proofs.guess.part_by_departure.Goals as goal

pub loop-ranked-preserved-in-Continue-1 : goal.loop-ranked-preserved-in-Continue-1
loop-ranked-preserved-in-Continue-1 g c = record {
  can = tt;
  finite = tt;
  parts = subst (λ ys. ArePartsOf (c.loop-ranked.yielded ++ c.in-Some.ranked ∷ []) ys c.loop-ranked.others.items) (sym c.in_ok-push.ensures.items) (parts_departed c.loop-ranked.yielded c.loop-ranked.departed.items c.loop-ranked.others.items c.in-Some.ranked c.loop-ranked.invariant.parts);
}

pub loop-ranked-preserved : goal.loop-ranked-preserved
loop-ranked-preserved g c = record {
  can = tt;
  finite = tt;
  parts = subst (λ ys. ArePartsOf (c.loop-ranked.yielded ++ c.in-Some.ranked ∷ []) c.loop-ranked.departed.items ys) (sym c.in_ok-push-2.ensures.items) (parts_others c.loop-ranked.yielded c.loop-ranked.departed.items c.loop-ranked.others.items c.in-Some.ranked c.loop-ranked.invariant.parts);
}
