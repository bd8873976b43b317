-- No mark so far defers the day.
use Rattle.std.proofs.Common.{ℕ, ◌<◌, get_or}
use Rattle.duty_core.specs.declared.mark.Mark.{Mark}
use Rattle.rule_readings.specs.Deferring.{DefersDay}
use Rattle.rule_readings.proofs.deferral.is_deferred.Given as goal

abbrev pub invariant-loop-mark : goal.invariant-loop-mark
invariant-loop-mark l = (k : ℕ) (d : Mark) → k < l.mark-index → DefersDay l.number (get_or l.mark-items k d) → ⊥
