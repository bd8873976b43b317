use Rattle.std.proofs.Common.{sym, subst}
use Rattle.rule_readings.specs.Count.{IsCount}
use Rattle.rule_readings.specs.Values.{IsMeasured}
use Rattle.rule_readings.proofs.values.value_at.Goals as goal

pub returns-in-AtDriving : goal.returns-in-AtDriving
returns-in-AtDriving c = subst (λ measure. IsCount (IsMeasured measure c.args.history.now.scope c.args.history.now.padded.now c.args.history.now.marks.now c.args.i) c.planned_count.result) (sym c.in-AtDriving.is) c.planned_count.ensures

pub returns-in-DeferredLoss : goal.returns-in-DeferredLoss
returns-in-DeferredLoss c = subst (λ measure. IsCount (IsMeasured measure c.args.history.now.scope c.args.history.now.padded.now c.args.history.now.marks.now c.args.i) c.deferred_loss.result) (sym c.in-DeferredLoss.is) c.deferred_loss.ensures

pub returns-in-PeriodNights : goal.returns-in-PeriodNights
returns-in-PeriodNights c = subst (λ measure. IsCount (IsMeasured measure c.args.history.now.scope c.args.history.now.padded.now c.args.history.now.marks.now c.args.i) c.period_nights.result) (sym c.in-PeriodNights.is) c.period_nights.ensures
