use Rattle.std.specs.Prelude.{Contains}
use Rattle.sleeper_split.specs.Laws.BetterLaws.{better_covers}
use Rattle.sleeper_split.proofs.laws.stands_for_plainly_worse.Goals as goal

pub returns : goal.returns
returns k rule may berth pad p m q o a b mb va vb t u front g = better_covers rule may berth pad p (Contains m) q (Contains o) a b mb va vb t u front g
