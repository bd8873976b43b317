use Rattle.std.proofs.Common.{sym, subst}
use Rattle.duty_core.specs.Counting.{IsDaysBase}
use Rattle.duty_core.specs.Day.{day_number}
use Rattle.rule_readings.proofs.DayBases.{days_base_since, days_base_first}
use Rattle.rule_readings.proofs.days.days_base.Goals as goal

pub returns-in-Some-clause-base : goal.returns-in-Some-clause-base
returns-in-Some-clause-base c =
    subst (IsDaysBase (day_number c.args.params c.args.first) c.args.days c.args.restart c.args.padded.now c.args.i) (sym c.max.ensures)
    (days_base_since c.args.params c.args.first c.args.days c.args.restart c.args.padded.now c.args.i c.first_of_days-day.result c.in-Some.end c.requires.some c.first_of_days-day.ensures.first c.in-Some.ensures)

pub returns-in-None-clause-base : goal.returns-in-None-clause-base
returns-in-None-clause-base c =
    days_base_first c.args.params c.args.first c.args.days c.args.restart c.args.padded.now c.args.i c.first_of_days-day.result c.requires.some c.first_of_days-day.ensures.first c.in-None.ensures
