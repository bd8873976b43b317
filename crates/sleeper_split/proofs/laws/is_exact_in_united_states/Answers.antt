use Rattle.sleeper_split.specs.declared.rule.TheConstants.SplitRule.{US}
use Rattle.sleeper_split.specs.Promises.{us_keeps, MeetsUsShift}
use Rattle.sleeper_split.specs.Laws.CountryLaws.{us_rule, us_limit}
use Rattle.sleeper_split.specs.Laws.ExactLaws.{split_exact}
use Rattle.sleeper_split.proofs.laws.is_exact_in_united_states.Goals as goal

pub returns : goal.returns
returns c may n h starts long short = split_exact US may us_keeps MeetsUsShift n h starts us_rule us_limit long short
