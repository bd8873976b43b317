use Rattle.sleeper_split.specs.Laws.ChoiceLaws.{declares_once}
use Rattle.sleeper_split.proofs.laws.is_told_by_places.Goals as goal

pub returns : goal.returns
returns c rule may ok s i h starts t u some a b = declares_once rule may ok s i h starts t u some a b
