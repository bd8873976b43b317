use Rattle.cycles_deferral.specs.Laws.CycleCovers.{cycle_covers_self, cycle_covers_over, cycle_simulates, cycle_rest_ahead}
use Rattle.cycles_deferral.proofs.laws.cycle_stands_on.Goals as goal

pub returns-clause-same : goal.returns-clause-same
returns-clause-same c = cycle_covers_self

pub returns-clause-over : goal.returns-clause-over
returns-clause-over c = cycle_covers_over

pub returns-clause-steps : goal.returns-clause-steps
returns-clause-steps c = cycle_simulates

pub returns-clause-rest : goal.returns-clause-rest
returns-clause-rest c = cycle_rest_ahead
