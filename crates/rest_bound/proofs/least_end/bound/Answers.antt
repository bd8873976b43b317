use Rattle.std.proofs.Common.{◌-◌, subst, sym, arith}
use Rattle.rest_bound.specs.CanEnd.{EndsBy, CanEnd, walk_from}
use Rattle.rest_bound.specs.Table.{IsLeast}
use Rattle.rest_bound.specs.Laws.StepLaws.{reaches_end}
use Rattle.rest_bound.proofs.TableLaws.{bound_past, bound_rested, bound_open, bound_waiting}
use Rattle.rest_bound.proofs.least_end.bound.Goals as goal

pub returns-then-step-table-clause-least : goal.returns-then-step-table-clause-least
returns-then-step-table-clause-least g c = bound_past _ _ _ _ _ _ c.args.counts (omega arith)

pub returns-then-step-table-clause-lawful : goal.returns-then-step-table-clause-lawful
returns-then-step-table-clause-lawful g c = λ ds e r h.
    (bound_past _ _ _ _ _ _ c.args.counts (omega arith)).below e (reaches_end _ _ ds _ _ _ e _ c.requires.limits c.requires.counts r) h

pub returns-then-counts-limits-clause-lawful : goal.returns-then-counts-limits-clause-lawful
returns-then-counts-limits-clause-lawful g c = λ ds e r h.
    (bound_rested _ _ _ _ _ _ c.args.counts _ (omega arith) c.fresh_end.ensures).below e (reaches_end _ _ ds _ _ _ e _ c.requires.limits c.requires.counts r) h

pub returns-in-None-clause-lawful : goal.returns-in-None-clause-lawful
returns-in-None-clause-lawful g c = λ ds e r h.
    let plan = g.T.Tour.plan c.args.tour.now in let t = c.args.table.now in let n = t.pieces - c.args.piece in let p = c.args.piece in
    let k = c.args.counts in let since = walk_from t.limits c.args.step k k.since k.driven in
    (bound_open _ _ _ _ _ _ k _ (omega arith) c.in-None.is
    (subst (λ m. IsLeast (EndsBy plan t.limits m n p since) t.horizon c.end_by-end.result) c.mode_open.ensures
    (subst (λ w. IsLeast (EndsBy plan t.limits c.mode_open.result n p w) t.horizon c.end_by-end.result) c.walk_of-walk.ensures c.end_by-end.ensures))).below
    e (reaches_end _ _ ds _ _ _ e _ c.requires.limits c.requires.counts r) h

pub returns-in-Some-clause-least : goal.returns-in-Some-clause-least
returns-in-Some-clause-least g c =
    let plan = g.T.Tour.plan c.args.tour.now in let t = c.args.table.now in let n = t.pieces - c.args.piece in let p = c.args.piece in
    let k = c.args.counts in let since = walk_from t.limits c.args.step k k.since k.driven in let base = walk_from t.limits c.args.step k k.elapsed k.driving in
    subst (IsLeast (CanEnd plan t.limits n p c.args.step k) t.horizon) (sym c.later_end.ensures)
    (bound_waiting plan t.limits n p c.args.step t.horizon c.in-Some.waiting k c.end_by-end.result c.end_by-paired.result (omega arith) c.in-Some.is
    (subst (λ m. IsLeast (EndsBy plan t.limits m n p since) t.horizon c.end_by-end.result) c.mode_open.ensures
    (subst (λ w. IsLeast (EndsBy plan t.limits c.mode_open.result n p w) t.horizon c.end_by-end.result) c.walk_of-walk.ensures c.end_by-end.ensures))
    (subst (λ m. IsLeast (EndsBy plan t.limits m n p base) t.horizon c.end_by-paired.result) c.mode_credit.ensures
    (subst (λ w. IsLeast (EndsBy plan t.limits c.mode_credit.result n p w) t.horizon c.end_by-paired.result) c.walk_of-walk-in-Some.ensures c.end_by-paired.ensures)))

pub returns-in-Some-clause-lawful : goal.returns-in-Some-clause-lawful
returns-in-Some-clause-lawful g c = λ ds e r h.
    (returns-in-Some-clause-least g c).below e (reaches_end _ _ ds _ _ _ e _ c.requires.limits c.requires.counts r) h
