use Rattle.hvnl_rules.specs.Laws.Steps.{nexts_one, advances_one}
use Rattle.hvnl_rules.proofs.laws.successor_is_one_at_most.Goals as goal

pub returns : goal.returns
returns c = record {
  step = nexts_one;
  advance = advances_one;
}
