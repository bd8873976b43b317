use Rattle.canada_rules.specs.Laws.NumberLaws.{days_read}
use Rattle.canada_rules.proofs.numbers.parts_of_days.Goals as goal

pub returns : goal.returns
returns c =
    days_read c.args.way c.args.numbers.now c.day_by.result c.day_by-2.result c.of_parts.result
    c.day_by.ensures c.day_by-2.ensures c.of_parts.ensures.some c.of_parts.ensures.parts
