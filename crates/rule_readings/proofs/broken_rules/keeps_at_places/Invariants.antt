-- the values so far are within the limit
use Rattle.std.proofs.Common.{ℕ, ◌<◌}
use Rattle.rule_readings.specs.Values.{IsMeasured, MeetsAsked}
use Rattle.rule_readings.proofs.broken_rules.keeps_at_places.Given as goal

abbrev pub invariant-loop-i : goal.invariant-loop-i
invariant-loop-i l = (k n : ℕ) → k < l.i → IsMeasured l.asked.measure l.history.scope l.history.padded.now l.history.marks.now k n → MeetsAsked l.asked n
