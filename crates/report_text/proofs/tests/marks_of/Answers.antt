use Rattle.std.proofs.Common.{◌≡◌, false, pos, List, [], ◌∷◌, ◌++◌, All, arith, refl, sym, ◌∙◌, ap, subst}
use Rattle.std.proofs.lemmas.List.Elements.{All-nil, All-push}
use Rattle.cert_text.specs.Text.Form.{IsMarkForm}
use Rattle.duty_core.specs.declared.mark.Mark.TheVariants.{DeferDay}
use Rattle.duty_core.specs.declared.params.Params.TheVariants.{Canada}
use Rattle.duty_core.specs.declared.params.RestWay.TheVariants.{Defer}
use Rattle.report_text.proofs.tests.marks_of.Goals as goal

pub returns : goal.returns
returns c =
    let e = c.in_ok-push.ensures.ok ∙ ap (λ xs. xs ++ DeferDay (pos 9557) ∷ []) c.new-marks.ensures in
    let here : IsMarkForm (Canada false Defer 1 0) 0 (DeferDay (pos 9557)) = record { at = 13762080; minute = refl; late = omega arith; century = omega arith } in
    subst (All (IsMarkForm (Canada false Defer 1 0) 0)) (sym e)
    (All-push (IsMarkForm (Canada false Defer 1 0) 0) [] (DeferDay (pos 9557)) (All-nil (IsMarkForm (Canada false Defer 1 0) 0)) here)
