use Rattle.duty_core.specs.History.{padded}
use Rattle.rule_readings.proofs.ReadingLaws.{day_off_two_ways}
use Rattle.rule_readings.proofs.laws.day_off_is_told_two_ways.Goals as goal

pub returns : goal.returns
returns c = λ h. day_off_two_ways (padded c.args.params h)
