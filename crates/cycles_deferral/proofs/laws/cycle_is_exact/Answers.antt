use Rattle.cycles_deferral.specs.Laws.CycleExact.{cycle_exact}
use Rattle.cycles_deferral.proofs.laws.cycle_is_exact.Goals as goal

pub returns : goal.returns
returns c = cycle_exact
