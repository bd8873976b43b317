use Rattle.std.proofs.Common.{◌≡◌, length}
use Rattle.rest_bound.specs.Table.{AreRows}
use Rattle.rest_bound.proofs.table.make_table.Given as goal

abbrev pub invariant-loop-left : goal.invariant-loop-left
invariant-loop-left g l = record {
  limits_are : l.table.limits ≡ l.fn.limits;
  pieces_are : l.table.pieces ≡ l.fn.pieces;
  horizon_is : l.table.horizon ≡ l.fn.horizon;
  filled : length l.table.rows.items ≡ l.left;
  rows : AreRows (g.T.Tour.plan l.fn.tour) l.table;
}
