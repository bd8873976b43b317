use Rattle.log_graph.proofs.DayFacts.{days_shown, days_in_order}
use Rattle.log_graph.proofs.laws.days_with_units_are_shown.Goals as goal

pub returns-clause-shown : goal.returns-clause-shown
returns-clause-shown c = days_shown c.args.params

pub returns-clause-in_order : goal.returns-clause-in_order
returns-clause-in_order c = days_in_order c.args.params
