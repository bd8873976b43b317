use Rattle.rule_readings.proofs.Quarters.{begins_at_quarter}
use Rattle.rule_readings.proofs.reading_tests.assert_reads.Goals as goal

pub readings-requires-clause-begins : goal.readings-requires-clause-begins
readings-requires-clause-begins g c = begins_at_quarter c.args.params c.args.planned.quarter
