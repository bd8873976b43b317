use Rattle.std.proofs.Common.{◌∙◌, sym, ap}
use Rattle.std.specs.Prelude.{pos, nat_abs}
use Rattle.std.specs.Int.{w32}
use lib.Signed.{lt_z}
use Rattle.std.proofs.lemmas.Int.{to_z-of_z}
use Rattle.rule_readings.proofs.DayNumbers.{number_after, number_before}
use Rattle.rule_readings.proofs.deferral.number_of.Goals as goal

pub returns-then-day-lt0-clause-value : goal.returns-then-day-lt0-clause-value
returns-then-day-lt0-clause-value c =
    let e = to_z-of_z w32 c.args.day c.ranges.day in
    number_before c.args.day c.unsigned_abs-days.result c.checked_sub.result (c.unsigned_abs-days.ensures.value ∙ ap nat_abs e) (ap (λ z. lt_z z (pos 0)) (sym e) ∙ c.if-day-lt0.true) c.checked_sub.ensures

pub returns-else-day-lt0-clause-value : goal.returns-else-day-lt0-clause-value
returns-else-day-lt0-clause-value c =
    let e = to_z-of_z w32 c.args.day c.ranges.day in
    number_after c.args.day c.unsigned_abs-days.result (c.unsigned_abs-days.ensures.value ∙ ap nat_abs e) (ap (λ z. lt_z z (pos 0)) (sym e) ∙ c.if-day-lt0.false)
