use Rattle.rest_bound.proofs.TableLaws.{by_least}
use Rattle.rest_bound.proofs.least_end.end_by.Goals as goal

pub returns : goal.returns
returns g c = by_least _ _ _ _ _ _ _ c.close_run_step.result _ _ c.walk_end-best.ensures c.close_run_step.ensures.close c.with_rest.ensures
