use Rattle.rule_readings.proofs.BreakLaws.{NoneBehind}
use Rattle.rule_readings.proofs.breaks.last_break.Given as goal

abbrev pub invariant-loop-to : goal.invariant-loop-to
invariant-loop-to l = NoneBehind l.padded l.i l.to

abbrev pub decreases-loop-to : goal.decreases-loop-to
decreases-loop-to l = l.to
