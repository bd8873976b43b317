use Rattle.rule_readings.proofs.Quarters.{begins_at_quarter}
use Rattle.rule_readings.proofs.cases.broken_by.Goals as goal

pub broken-requires-clause-begins : goal.broken-requires-clause-begins
broken-requires-clause-begins c = begins_at_quarter c.args.params c.args.case.now.quarter
