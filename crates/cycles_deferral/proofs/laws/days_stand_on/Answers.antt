use Rattle.cycles_deferral.specs.Laws.DayCovers.{days_cover_self, days_cover_over, cover_begun, days_simulate, days_rest_ahead}
use Rattle.cycles_deferral.proofs.laws.days_stand_on.Goals as goal

pub returns-clause-same : goal.returns-clause-same
returns-clause-same c = days_cover_self

pub returns-clause-over : goal.returns-clause-over
returns-clause-over c = days_cover_over

pub returns-clause-begun : goal.returns-clause-begun
returns-clause-begun c = cover_begun

pub returns-clause-steps : goal.returns-clause-steps
returns-clause-steps c = days_simulate

pub returns-clause-rest : goal.returns-clause-rest
returns-clause-rest c = days_rest_ahead
