use Rattle.duty_core.specs.declared.params.Params.TheVariants.{Hvnl}
use Rattle.rule_readings.proofs.Quarters.{begins_at_quarter}
use Rattle.rule_readings.proofs.au_tests.first_of_nights.Goals as goal

pub returns-clause-begins : goal.returns-clause-begins
returns-clause-begins c = begins_at_quarter Hvnl 917528
