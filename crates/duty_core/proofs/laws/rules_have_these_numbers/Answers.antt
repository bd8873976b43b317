use Rattle.std.proofs.Common.{arith}
use Rattle.duty_core.specs.History.{pad_days}
use Rattle.duty_core.specs.Laws.DayLaws.{padding_days}
use Rattle.duty_core.proofs.laws.rules_have_these_numbers.Goals as goal

pub returns-clause-padding_units : goal.returns-clause-padding_units
unfolding pad_days
returns-clause-padding_units c params = let e = padding_days params in omega arith
