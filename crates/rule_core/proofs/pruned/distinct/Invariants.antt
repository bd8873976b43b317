use Rattle.std.proofs.Common.{◌≡◌}
use Rattle.std.specs.Prelude.{map}
use Rattle.rule_core.specs.Replay.{AreRootStates}
use Rattle.rule_core.specs.Pruned.{ArePruned, AreApart}
use Rattle.rule_core.proofs.pruned.distinct.Given as goal

abbrev pub invariant-loop-root : goal.invariant-loop-root
invariant-loop-root g l = record {
  can : (goal.iterator-loop-root g).can_next l.root-iterator;
  finite : (goal.iterator-loop-root g).is_finite l.root-iterator;
  kept : ArePruned (λ a b. a ≡ b) l.yielded l.kept;
  apart : AreApart (λ a b. a ≡ b) l.kept;
  states : AreRootStates (g.B.RuleBook.machine l.book) l.at l.kept;
  listed : l.lists.items ≡ map (λ root. (g.B.RuleBook.machine l.book).numbers root.state l.at) l.kept;
}
