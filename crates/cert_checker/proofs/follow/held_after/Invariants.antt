use Rattle.cert_checker.specs.Followed.{AreAfter}
use Rattle.cert_checker.proofs.follow.held_after.Given as goal

abbrev pub invariant-loop-one : goal.invariant-loop-one
invariant-loop-one g l = record {
  can : (goal.iterator-loop-one g).can_next l.one-iterator;
  finite : (goal.iterator-loop-one g).is_finite l.one-iterator;
  after : AreAfter (g.B.RuleBook.machine l.book).nexts l.at l.act l.marks l.yielded l.after.items;
}
