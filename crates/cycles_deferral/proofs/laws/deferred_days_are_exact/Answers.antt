use Rattle.cycles_deferral.specs.Laws.DaysExact.{days_exact_defer}
use Rattle.cycles_deferral.proofs.laws.deferred_days_are_exact.Goals as goal

pub returns : goal.returns
returns c = λ way day days h marks. days_exact_defer day days c.args.params way h marks
