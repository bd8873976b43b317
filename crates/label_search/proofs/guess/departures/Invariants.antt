use Rattle.std.proofs.Common.{◌-◌, ◌<◌}
use Rattle.tour_model.specs.declared.limits.TheConstants.{STEP_LIMIT}
use Rattle.label_search.specs.Terms.{AreReachedBy, AreDeparturesBy}
use Rattle.label_search.proofs.guess.departures.Given as goal

abbrev pub invariant-loop-depart : goal.invariant-loop-depart
invariant-loop-depart g l = record {
  waiting : AreReachedBy l.terms (g.B.RuleBook.machine l.terms.book.now) l.depart l.waiting.items;
  list : AreDeparturesBy l.terms (g.B.RuleBook.machine l.terms.book.now) l.list.items;
  within : l.depart < STEP_LIMIT;
}

abbrev pub decreases-loop-depart : goal.decreases-loop-depart
decreases-loop-depart g l = STEP_LIMIT - l.depart
