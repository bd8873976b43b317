-- The marks so far may split their rests.
use Rattle.std.proofs.Common.{ℕ, ◌<◌, get_or}
use Rattle.duty_core.specs.declared.mark.Mark.{Mark}
use Rattle.rule_readings.specs.Splits.{MeetsSplitMark}
use Rattle.rule_readings.proofs.ca_pair.meets_split_marks.Given as goal

abbrev pub invariant-loop-mark : goal.invariant-loop-mark
invariant-loop-mark l = (k : ℕ) (d : Mark) → k < l.mark-index → MeetsSplitMark l.history.scope.params l.history.scope.first l.history.padded.now (get_or l.marks k d)
