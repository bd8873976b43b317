use Rattle.duty_core.specs.declared.activity.Activity.TheVariants.{Drive}
use Rattle.report_text.proofs.Histories.{history_more, history_fits}
use Rattle.report_text.proofs.history.history_of.Goals as goal

pub append-requires : goal.append-requires
append-requires c = history_fits _ _ c.args.log.now c.args.schedule.now c.loop-act.history c.loop-act.act-index Drive c.step_units-each.ensures c.loop-act-test.true c.loop-act.invariant c.requires

pub loop-act-preserved : goal.loop-act-preserved
loop-act-preserved c = history_more _ c.args.log.now c.args.schedule.now c.loop-act.history c.append.new.history c.loop-act.act-index Drive c.loop-act-test.true c.loop-act.invariant c.in_ok-append.ensures
