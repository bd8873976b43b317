use Rattle.timeline.specs.Kinds.{test_of}
use Rattle.rule_readings.proofs.Counts.{AreCountsUpTo}
use Rattle.rule_readings.proofs.padded.counts.Given as goal

abbrev pub invariant-loop-unit : goal.invariant-loop-unit
invariant-loop-unit l = AreCountsUpTo (test_of l.kind) l.units l.unit-index l.total l.counts.items
