use Rattle.duty_core.specs.declared.params.Params.TheVariants.{Hvnl}
use Rattle.cycles_deferral.specs.Laws.DaysExact.{days_once, days_lead}
use Rattle.cycles_deferral.proofs.laws.days_have_one_path.Goals as goal

pub returns-clause-one : goal.returns-clause-one
returns-clause-one c = days_once

pub returns-clause-tells : goal.returns-clause-tells
returns-clause-tells c = λ day days way h marks t r. (days_lead Hvnl way day days h marks t r).stands
