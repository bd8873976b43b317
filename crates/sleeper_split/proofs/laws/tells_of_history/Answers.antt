use Rattle.sleeper_split.specs.declared.rule.TheConstants.SplitRule.{US, CANADA}
use Rattle.sleeper_split.specs.Laws.CountryLaws.{us_rule, canada_rule}
use Rattle.sleeper_split.specs.Laws.ExactLaws.{split_tracks}
use Rattle.sleeper_split.proofs.laws.tells_of_history.Goals as goal

pub returns-clause-us : goal.returns-clause-us
returns-clause-us c may ok n h starts t long short r = split_tracks US may ok n h starts t us_rule long short r

pub returns-clause-canada : goal.returns-clause-canada
returns-clause-canada c may ok n h starts t long short r = split_tracks CANADA may ok n h starts t canada_rule long short r
