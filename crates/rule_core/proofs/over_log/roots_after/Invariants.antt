use Rattle.std.proofs.Common.{◌≡◌}
use Rattle.rule_core.specs.Replay.{roots_over}
use Rattle.rule_core.proofs.over_log.roots_after.Given as goal

abbrev pub invariant-loop-root : goal.invariant-loop-root
invariant-loop-root g l = record {
  can : (goal.iterator-loop-root g).can_next l.root-iterator;
  finite : (goal.iterator-loop-root g).is_finite l.root-iterator;
  grown : l.after ≡ roots_over (g.B.RuleBook.machine l.book) l.at l.act l.n l.yielded;
}
