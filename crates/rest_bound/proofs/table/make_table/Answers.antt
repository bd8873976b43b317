use Rattle.std.proofs.Common.{[], ◌∷◌, sym, subst, ap, arith, length, length-append}
use Rattle.rest_bound.specs.Table.{IsWhole}
use Rattle.rest_bound.proofs.TableLaws.{rows_more}
use Rattle.rest_bound.proofs.table.make_table.Goals as goal

pub loop-left-preserved : goal.loop-left-preserved
loop-left-preserved g c =
    let plan = g.T.Tour.plan c.args.tour.now in let t = c.loop-left.table in let i = c.loop-left.invariant in
    record {
      limits_are = i.limits_are;
      pieces_are = i.pieces_are;
      horizon_is = i.horizon_is;
      filled = (let a = i.filled in omega (arith, ap length c.in_ok-push.ensures.items, length-append t.rows.items (c.in_ok-row.row ∷ [])));
      rows = rows_more plan t c.push.new.self c.in_ok-row.row c.in_ok-push.ensures.items i.rows (subst (λ n. IsWhole plan t n c.in_ok-row.row.items) (sym i.filled) c.in_ok-row.ensures);
    }
