use Rattle.std.proofs.Common.{ℕ, ◌<◌, get_or}
use Rattle.duty_core.specs.Marks.{IsSplitAt}
use Rattle.rule_readings.specs.declared.padded.RestRun.{RestRun}
use Rattle.rule_readings.specs.Pairs.{IsPair, IsPairedRun}
use Rattle.rule_readings.proofs.pairs.are_paired.Given as goal

abbrev pub invariant-loop-next : goal.invariant-loop-next
invariant-loop-next l =
    (k : ℕ) (e : RestRun) → k < l.next-index → IsPairedRun l.terms.full (IsPair l.terms l.history.padded.now) l.history.padded.now (IsSplitAt l.history.scope.params l.history.scope.first l.history.marks.now) (get_or l.next-items k e).from (get_or l.next-items k e).to
