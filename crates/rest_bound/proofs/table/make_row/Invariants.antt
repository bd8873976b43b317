use Rattle.std.proofs.Common.{◌≡◌, ◌+◌, ◌-◌, length}
use Rattle.rest_bound.specs.CanEnd.{EndsFresh}
use Rattle.rest_bound.specs.Table.{IsLeast, IsRow}
use Rattle.rest_bound.proofs.table.make_row.Given as goal

abbrev pub invariant-loop-back : goal.invariant-loop-back
invariant-loop-back g l =
    let plan = g.T.Tour.plan l.fn.tour in let t = l.fn.table in
    record {
      long : length l.row.items ≡ l.back;
      least : IsRow plan t l.fn.left l.row.items;
      later : IsLeast (EndsFresh plan t.limits l.fn.left (t.pieces - l.fn.left) (t.horizon + 1 - l.back)) t.horizon l.later;
    }
