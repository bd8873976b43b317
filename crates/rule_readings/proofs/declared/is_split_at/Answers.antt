use Rattle.std.proofs.Common.{◌≡◌, Some, None, refl, Contains, subst, sym}
use Rattle.duty_core.specs.declared.mark.Mark.TheVariants.{SplitRest}
use Rattle.rule_readings.proofs.DeclaredRuns.{split_found}
use Rattle.rule_readings.proofs.declared.is_split_at.Goals as goal

pub returns-in-Some : goal.returns-in-Some
returns-in-Some c =
    let m = (c.in-Some.ensures c.in-Some.at).1 refl in
    let s = split_found c.args.history.now.scope.params c.args.history.now.scope.first c.args.history.now.marks.now c.args.place c.in-Some.at m in
    let same = c.items.ensures in
    let f = c.has_split.ensures in (
      (λ e. s.0 (subst (λ marks. Contains marks (SplitRest c.in-Some.at)) same (f.0 e))),
      (λ a. f.1 (subst (λ marks. Contains marks (SplitRest c.in-Some.at)) (sym same) (s.1 a))),
    )

pub returns-in-None : goal.returns-in-None
returns-in-None c = ((λ e. absurd (cc)), (λ s. absurd (let z : None ≡ Some s.at = (c.in-None.ensures s.at).0 s.minute in cc)))
