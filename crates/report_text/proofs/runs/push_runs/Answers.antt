use Rattle.std.proofs.Common.{◌+◌, ◌≤◌, get_or, drop, length, arith, rules, refl, ap}
use Rattle.std.proofs.lemmas.List.{drop_more, drop_all}
use Rattle.std.proofs.lemmas.Result.{on_ok_weaker}
use Rattle.duty_core.specs.declared.activity.Activity.TheVariants.{Drive}
use Rattle.report_text.specs.Report.{doings}
use Rattle.report_text.proofs.RunLines.{told_first, told_more, told_other, told_whole, doings_front, done_most, minute_within, steps_few}
use Rattle.report_text.proofs.runs.push_runs.Goals as goal
use Rattle.report_text.proofs.runs.push_runs.Goals.{then-not-is_same+in_ok-push_run, else-not-is_same}

pub loop-act-init : goal.loop-act-init
loop-act-init c = record {
  step = refl;
  from = omega arith;
  progress = omega (arith, c.done-progress.ensures, done_most 0 c.in-Some.first.now);
  told = rw (c.doing_at-doing.ensures, c.done-progress.ensures) (told_first c.args.tour.now c.args.text.now c.in-Some.first.now c.in-Some.others.now c.args.schedule.now c.in-Some.ensures.cases.0);
}

pub done-progress-requires-in-loop-act : goal.done-progress-requires-in-loop-act
done-progress-requires-in-loop-act c = omega (arith, c.loop-act.invariant.progress, c.loop-act.invariant.step, c.loop-act-test.true, c.in-Some.ensures.cases.1, steps_few c.args.tour.now (length c.args.schedule.now) c.requires.tour c.requires.short)

pub overflow_add-step : goal.overflow_add-step
overflow_add-step c = omega (arith, c.loop-act.invariant.step, c.loop-act-test.true, c.in-Some.ensures.cases.1, steps_few c.args.tour.now (length c.args.schedule.now) c.requires.tour c.requires.short)

pub push_run-requires-clause-from : goal.push_run-requires-clause-from
push_run-requires-clause-from c = minute_within c.args.tour.now (length c.args.schedule.now) c.loop-act.from c.requires.tour c.requires.short (omega (arith, c.loop-act.invariant.from, c.loop-act.invariant.step, c.loop-act-test.true, c.in-Some.ensures.cases.1))

pub push_run-requires-clause-to : goal.push_run-requires-clause-to
push_run-requires-clause-to c = minute_within c.args.tour.now (length c.args.schedule.now) c.loop-act.step c.requires.tour c.requires.short (omega (arith, c.loop-act.invariant.step, c.loop-act-test.true, c.in-Some.ensures.cases.1))

pub loop-act-preserved : goal.loop-act-preserved
loop-act-preserved c =
    let others = c.in-Some.others.now in
    let i = c.loop-act.act-index in
    let before = c.loop-act.invariant in
    let front = doings_front c.args.tour.now c.loop-act.progress c.done-progress-in-loop-act.result (get_or others i Drive) (drop i others) (drop (i + 1) others) c.doing_at-next.result (drop_more others i Drive c.loop-act-test.true) c.doing_at-next.ensures c.done-progress-in-loop-act.ensures in
    let progress : c.done-progress-in-loop-act.result ≤ c.loop-act.step + 1 = omega (arith, before.progress, c.done-progress-in-loop-act.ensures, done_most c.loop-act.progress (get_or others i Drive)) in
    elim c.if-not-is_same.branch [
      | then-not-is_same+in_ok-push_run w ↦ record {
        step = omega (arith, before.step);
        from = omega (arith, w.from-is);
        progress = progress;
        told = rw (w.text-is, w.doing-is, w.from-is) (told_other _ _ _ _ _ _ _ _ _ _ _ front (λ e. let z = w.if-not-is_same.ensures.1 e in grind (arith, z)) w.in_ok-push_run.ensures before.told);
      }
      | else-not-is_same w ↦ record {
        step = omega (arith, before.step);
        from = omega (arith, w.from-is, before.from);
        progress = progress;
        told = rw (w.text-is, w.doing-is, w.from-is) (told_more _ _ _ _ _ _ _ _ _ _ front (w.if-not-is_same.ensures.0 (search rules)) before.told);
      }
    ]

pub returns : goal.returns
returns c =
    let others = c.in-Some.others.now in
    on_ok_weaker c.push_run-2.result (λ line. told_whole _ _ _ _ _ _ _ _ _ (ap (doings c.args.tour.now c.loop-act.progress) (drop_all c.loop-act.act-index others c.loop-act-test.false)) line c.loop-act.invariant.told) c.push_run-2.ensures
