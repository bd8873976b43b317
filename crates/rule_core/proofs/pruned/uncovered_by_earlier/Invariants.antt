use Rattle.std.proofs.Common.{◌≡◌, true}
use Rattle.rule_core.specs.Replay.{AreRootStates}
use Rattle.rule_core.specs.Pruned.{ArePruned, AreApart}
use Rattle.rule_core.proofs.pruned.uncovered_by_earlier.Given as goal

abbrev pub invariant-loop-root : goal.invariant-loop-root
invariant-loop-root g l = record {
  can : (goal.iterator-loop-root g).can_next l.root-iterator;
  finite : (goal.iterator-loop-root g).is_finite l.root-iterator;
  kept : ArePruned (λ a b. (g.B.RuleBook.machine l.book).covers a b l.at ≡ true) l.yielded l.kept;
  apart : AreApart (λ a b. (g.B.RuleBook.machine l.book).covers a b l.at ≡ true) l.kept;
  states : AreRootStates (g.B.RuleBook.machine l.book) l.at l.kept;
}
