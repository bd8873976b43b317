use Rattle.std.proofs.Common.{◌≡◌, true, false, sym, subst}
use Rattle.std.proofs.lemmas.Int.{to_z-of_z}
use Rattle.std.specs.Int.{w32}
use Rattle.duty_core.specs.Day.{IsNumberOfDay}
use Rattle.rule_readings.proofs.DayNumbers.{number_told}
use Rattle.rule_readings.proofs.deferral.is_number_of.Goals as goal

pub returns-in-Some : goal.returns-in-Some
returns-in-Some c =
    let e = to_z-of_z w32 c.args.day c.ranges.day in
    number_told c.args.day c.in-Some.own c.args.number (subst (λ z. IsNumberOfDay z c.in-Some.own) e c.in-Some.ensures.value)

pub returns-in-None : goal.returns-in-None
returns-in-None c =
    let e = to_z-of_z w32 c.args.day c.ranges.day in (
      λ t. absurd (let z : false ≡ true = t in cc),
      λ h. absurd (c.in-None.ensures.value c.args.number (subst (λ z. IsNumberOfDay z c.args.number) (sym e) h)),
    )
