use Rattle.std.proofs.Common.{◌≡◌, ◌+◌, ◌-◌, length, [], ◌∷◌, sym, subst, ap, arith, length-append}
use Rattle.rest_bound.specs.Ends.{open_mode, fresh_walk, Ends}
use Rattle.rest_bound.specs.CanEnd.{EndsFresh}
use Rattle.rest_bound.specs.Table.{IsLeast, IsRow}
use Rattle.rest_bound.proofs.TableLaws.{fresh_past, fresh_now, row_more}
use Rattle.rest_bound.proofs.table.make_row.Goals as goal

pub loop-back-init : goal.loop-back-init
loop-back-init g c =
    let none : length c.new-row.result.items ≡ 0 = ap length c.new-row.ensures.items in
    record {
      long = none;
      least = λ j h. absurd (omega arith);
      later = fresh_past _ _ _ _ _ _ (omega arith);
    }

pub loop-back-preserved : goal.loop-back-preserved
loop-back-preserved g c =
    let plan = g.T.Tour.plan c.args.tour.now in let t = c.args.table.now in let l = t.limits in
    let n = c.args.left in let p = t.pieces - n in let k = t.horizon - c.loop-back.back in
    let e0 : t.pieces - p ≡ n = omega arith in
    let e1 : t.horizon + 1 - c.loop-back.back ≡ k + 1 = omega arith in
    let e2 : k ≡ t.horizon + 1 - (c.loop-back.back + 1) = omega arith in
    let walk : IsLeast (Ends plan l (open_mode l) n p (fresh_walk l k)) t.horizon c.walk_end-now.result =
    subst (λ x. IsLeast (Ends plan l (open_mode l) x p (fresh_walk l k)) t.horizon c.walk_end-now.result) e0
    (subst (λ w. IsLeast (Ends plan l (open_mode l) (t.pieces - p) p w) t.horizon c.walk_end-now.result) c.walk_afresh-start.ensures
    (subst (λ m. IsLeast (Ends plan l m (t.pieces - p) p c.walk_afresh-start.result) t.horizon c.walk_end-now.result) c.mode_open.ensures c.walk_end-now.ensures)) in
    let now : IsLeast (EndsFresh plan l n p k) t.horizon c.sooner_end-later.result =
    subst (IsLeast (EndsFresh plan l n p k) t.horizon) (sym c.sooner_end-later.ensures)
    (fresh_now plan l n p k t.horizon c.loop-back.later c.walk_end-now.result (subst (λ x. IsLeast (EndsFresh plan l n p x) t.horizon c.loop-back.later) e1 c.loop-back.invariant.later) walk) in
    record {
      long = (let a = c.loop-back.invariant.long in omega (arith, ap length c.in_ok-push.ensures.items, length-append c.loop-back.row.items (c.sooner_end-later.result ∷ [])));
      least = subst (IsRow plan t n) (sym c.in_ok-push.ensures.items)
          (row_more plan t n c.loop-back.row.items c.sooner_end-later.result c.loop-back.invariant.least
          (subst (λ j. IsLeast (EndsFresh plan l n p (t.horizon - j)) t.horizon c.sooner_end-later.result) (sym c.loop-back.invariant.long) now));
      later = subst (λ x. IsLeast (EndsFresh plan l n p x) t.horizon c.sooner_end-later.result) e2 now;
    }
