-- The marks so far keep the rule.
use Rattle.std.proofs.Common.{ℕ, ◌<◌, get_or}
use Rattle.duty_core.specs.declared.mark.Mark.{Mark}
use Rattle.duty_core.specs.Day.{day_number}
use Rattle.rule_readings.specs.Deferring.{MeetsMark}
use Rattle.rule_readings.proofs.deferral.keeps_defer.Given as goal

abbrev pub invariant-loop-mark : goal.invariant-loop-mark
invariant-loop-mark l = (k : ℕ) (d : Mark) → k < l.mark-index → MeetsMark l.history.scope.params (day_number l.history.scope.params l.history.scope.first) l.history.padded.now l.history.marks.now (get_or l.mark-items k d)
