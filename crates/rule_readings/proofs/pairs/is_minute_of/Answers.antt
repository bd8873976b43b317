use Rattle.std.proofs.Common.{◌≡◌, Some, None, refl, subst, eq-eqb}
use Rattle.std.proofs.lemmas.Bool.{eqb-true}
use Rattle.duty_core.specs.Marks.{IsMinuteOf}
use Rattle.rule_readings.proofs.pairs.is_minute_of.Goals as goal

pub returns-in-Some : goal.returns-in-Some
returns-in-Some c =
    let m = (c.in-Some.ensures c.in-Some.minute).1 refl in (
      (λ e. subst (λ n. IsMinuteOf c.args.params c.args.first n c.args.place) (eqb-true c.in-Some.minute c.args.at e) m),
      (λ h. let z : Some c.in-Some.minute ≡ Some c.args.at = (c.in-Some.ensures c.args.at).0 h in eq-eqb c.in-Some.minute c.args.at (cc)),
    )

pub returns-in-None : goal.returns-in-None
returns-in-None c = ((λ e. absurd (cc)), (λ h. absurd (let z : None ≡ Some c.args.at = (c.in-None.ensures c.args.at).0 h in cc)))
