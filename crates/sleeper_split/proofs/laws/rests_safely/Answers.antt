use Rattle.sleeper_split.specs.Laws.CoverLaws.{choices_ahead}
use Rattle.sleeper_split.proofs.laws.rests_safely.Goals as goal

pub returns : goal.returns
returns k rule may berth ok s x c good vs mb h l g = choices_ahead rule may berth ok s x c good vs mb h l g
