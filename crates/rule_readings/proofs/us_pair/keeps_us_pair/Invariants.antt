use Rattle.std.proofs.Common.{ℕ, ◌<◌, get_or}
use Rattle.duty_core.specs.declared.mark.Mark.{Mark}
use Rattle.rule_readings.specs.Splits.{IsUsMark}
use Rattle.rule_readings.proofs.us_pair.keeps_us_pair.Given as goal

abbrev pub invariant-loop-mark : goal.invariant-loop-mark
invariant-loop-mark l = (k : ℕ) (d : Mark) → k < l.mark-index → IsUsMark l.history.scope.params l.history.scope.first l.history.padded.now (get_or l.mark-items k d)
