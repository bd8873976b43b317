use Rattle.std.proofs.Common.{refl}
use Rattle.rule_readings.proofs.AuNightLaws.{next_now, next_later}
use Rattle.rule_readings.proofs.au_nights.next_midnight.Goals as goal

pub returns-then-since-eq0 : goal.returns-then-since-eq0
returns-then-since-eq0 c = next_now c.args.first c.requires.begins.units c.unit_of.result c.quarters_of_day-day.result c.args.place c.unit_of.ensures c.quarters_of_day-day.ensures c.requires.begins.whole c.if-since-eq0.true

pub returns-else-since-eq0 : goal.returns-else-since-eq0
returns-else-since-eq0 c =
    next_later c.args.first c.requires.begins.units c.unit_of.result c.quarters_of_day-day.result c.args.place _ _ c.unit_of.ensures c.quarters_of_day-day.ensures c.requires.begins.whole refl c.if-since-eq0.false refl
