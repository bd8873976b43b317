use Rattle.duty_core.specs.declared.params.Params.TheVariants.{Hvnl}
use Rattle.cycles_deferral.specs.Laws.DaysExact.{days_exact_split}
use Rattle.cycles_deferral.proofs.laws.split_days_are_exact.Goals as goal

pub returns : goal.returns
returns c = λ day days h marks. days_exact_split day days Hvnl h marks
