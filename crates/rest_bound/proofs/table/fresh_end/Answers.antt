use Rattle.std.proofs.Common.{arith}
use Rattle.rest_bound.proofs.TableLaws.{fresh_past}
use Rattle.rest_bound.proofs.table.fresh_end.Goals as goal

pub returns-then-step-table : goal.returns-then-step-table
returns-then-step-table g c = fresh_past _ _ _ _ _ _ (omega arith)
