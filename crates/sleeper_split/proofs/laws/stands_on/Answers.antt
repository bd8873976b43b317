use Rattle.sleeper_split.specs.Laws.CoverLaws.{choices_cover}
use Rattle.sleeper_split.proofs.laws.stands_on.Goals as goal

pub returns : goal.returns
returns k rule may berth ok a b x c good m va mb l h g = choices_cover rule may berth ok a b x c good m va mb l h g
