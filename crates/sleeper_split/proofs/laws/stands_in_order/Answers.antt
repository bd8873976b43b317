use Rattle.sleeper_split.specs.Laws.BetterLaws.{us_pair_rule, canada_pair_rule}
use Rattle.sleeper_split.specs.Laws.CoverLaws.{covers_same, covers_over}
use Rattle.sleeper_split.proofs.laws.stands_in_order.Goals as goal

pub returns-clause-rules : goal.returns-clause-rules
returns-clause-rules c = (us_pair_rule, canada_pair_rule)

pub returns-clause-same : goal.returns-clause-same
returns-clause-same c rule may a = covers_same rule may a

pub returns-clause-over : goal.returns-clause-over
returns-clause-over k rule may a b c good va h g = covers_over rule may a b c good va h g
