use Rattle.std.proofs.Common.{◌+◌, ◌-◌, sym, subst, arith, ap, ◌∙◌}
use Rattle.rest_bound.specs.Table.{IsLeast, IsClose}
use Rattle.rest_bound.specs.Ends.{Ends, idle_by}
use Rattle.rest_bound.proofs.WalkLaws.{IsWalk, walk_stop, walk_done, walk_more}
use Rattle.rest_bound.proofs.terms.Terms.walk_end.Goals as goal

pub returns-in-None : goal.returns-in-None
returns-in-None g c =
    walk_stop _ _ _ _ _ (c.args.self.now.table.now.pieces - (c.loop-next.next + 1)) _ _ _ _ _ (omega arith) c.loop-next.invariant.walk c.begin_of.ensures c.in-None.is

pub loop-next-preserved : goal.loop-next-preserved
loop-next-preserved g c =
    let plan = g.T.Tour.plan c.args.self.now.tour.now in let t = c.args.self.now.table.now in let m = c.args.self.now.mode in
    let p = c.args.piece in let q = c.loop-next.next + 1 in
    let e = c.walk_on-walk.ensures in
    let a = ap (λ x. x.at) e in let b = ap (λ x. x.idle) e in
    let later = c.begin_of.ensures.later c.in-Some.begin c.in-Some.is in
    let within = c.begin_of.ensures.within c.in-Some.begin c.in-Some.is in
    let close : IsClose m (c.in-Some.begin + 1) (idle_by c.loop-next.walk c.in-Some.begin) c.close_step.result = subst (λ x. IsClose m x.at x.idle c.close_step.result) e c.close_step.ensures.close in
    record {
      walk = subst (λ x. IsWalk (Ends plan t.limits m (t.pieces - p) p c.args.start) plan t.limits m (t.pieces - q) q x t.horizon c.with_rest-best.result) (sym e)
          (walk_more _ _ _ _ _ _ _ _ _ _ _ _ _ _ (omega arith) c.loop-next.invariant.walk c.begin_of.ensures c.in-Some.is close c.with_rest-best.ensures);
      within = omega arith;
      latest = ap (λ x. x.latest) e ∙ c.loop-next.invariant.latest;
      few = omega arith;
      early = omega arith;
    }

pub returns : goal.returns
returns g c = subst (IsLeast _ _) (sym c.sooner_end.ensures) (walk_done _ _ _ _ _ _ _ _ _ (omega arith) c.loop-next.invariant.early c.loop-next.invariant.walk)
