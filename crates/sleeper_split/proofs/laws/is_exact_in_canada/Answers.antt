use Rattle.sleeper_split.specs.declared.rule.TheConstants.SplitRule.{CANADA}
use Rattle.sleeper_split.specs.Promises.{canada_keeps, MeetsCanadaShift}
use Rattle.sleeper_split.specs.Laws.CountryLaws.{canada_rule, canada_limit}
use Rattle.sleeper_split.specs.Laws.ExactLaws.{split_exact}
use Rattle.sleeper_split.proofs.laws.is_exact_in_canada.Goals as goal

pub returns : goal.returns
returns c may n h starts long short = split_exact CANADA may canada_keeps MeetsCanadaShift n h starts canada_rule canada_limit long short
