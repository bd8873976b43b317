-- The counts before each place so far, and the rest right before this one.
use Rattle.rule_readings.proofs.LostFacts.{AreCountsTo}
use Rattle.rule_readings.proofs.lost.LostMinutes.new.Given as goal

abbrev pub invariant-loop-i : goal.invariant-loop-i
invariant-loop-i l = AreCountsTo l.padded l.counts.items l.total l.before l.i
