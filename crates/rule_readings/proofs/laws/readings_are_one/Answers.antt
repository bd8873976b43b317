use Rattle.rule_readings.proofs.ReadingLaws.{readings_once}
use Rattle.rule_readings.proofs.laws.readings_are_one.Goals as goal

pub returns : goal.returns
returns c = readings_once c.args.params
