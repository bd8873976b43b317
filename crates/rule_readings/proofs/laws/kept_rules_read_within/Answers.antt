use Rattle.rule_readings.proofs.ReadingLaws.{reading_within}
use Rattle.rule_readings.proofs.laws.kept_rules_read_within.Goals as goal

pub returns : goal.returns
returns c = reading_within c.args.params
