-- The texts of marks and layers, with one more at the end.
use Rattle.std.proofs.Common.{◌≡◌, ℕ, suc, ◌+◌, ◌<◌, List, [], ◌∷◌, ◌++◌, length, All, Option, refl, sym, ap, ◌∙◌, append_assoc, arith}
use Rattle.std.specs.List.{AllByRecursion}
use Rattle.std.proofs.lemmas.List.{append-nil}
use Rattle.std.proofs.lemmas.List.Elements.{All-from_recursion}
use Rattle.duty_core.specs.declared.mark.Mark.{Mark}
use Rattle.duty_core.specs.declared.params.Params.{Params}
use Rattle.cert_text.specs.declared.cert.CertKind.{CertKind}
use Rattle.cert_text.specs.declared.cert.CertKind.TheVariants.{Shortest, Infeasible}
use Rattle.cert_text.specs.declared.cert.CertLabel.{CertLabel}
use Rattle.cert_text.specs.declared.cert.StepRun.{StepRun}
use Rattle.rule_core.specs.declared.numbers.TheConstants.{NUMBER_LIMIT}
use Rattle.cert_text.specs.Text.Form.{IsMarkForm, AreMarkForms, IsClaimForm}
use Rattle.cert_text.specs.Text.Spelling.{IsMarkLine, AreMarkLines, layer_lines, layers_lines}

-- a mark line more
pub mark_lines_more : (params : Params) (marks : List Mark) (mark : Mark) (text line : List ℕ) → AreMarkLines params marks text → IsMarkLine params mark line → AreMarkLines params (marks ++ mark ∷ []) (text ++ line)
mark_lines_more params [] mark text line are is = (line, [], ap (λ (t : List ℕ). t ++ line) are ∙ sym (append-nil line), is, refl)
mark_lines_more params (m ∷ marks) mark text line are is =
    (are.0, are.1 ++ line, ap (λ (t : List ℕ). t ++ line) are.2 ∙ append_assoc are.0 are.1 line, are.3, mark_lines_more params marks mark are.1 line are.4 is)

-- a layer more
pub layers_lines_more : (step : ℕ) (layers : List (List CertLabel)) (layer : List CertLabel) → layers_lines step (layers ++ layer ∷ []) ≡ layers_lines step layers ++ layer_lines (step + length layers) layer
layers_lines_more step [] layer =
    let same : step ≡ step + 0 = omega arith in
    append-nil (layer_lines step layer) ∙ ap (λ k. layer_lines k layer) same
layers_lines_more step (first ∷ layers) layer =
    let same : step + 1 + length layers ≡ step + suc (length layers) = omega arith in
    ap (λ (t : List ℕ). layer_lines step first ++ t) (layers_lines_more (step + 1) layers layer ∙ ap (λ k. layers_lines (step + 1) layers ++ layer_lines k layer) same)
    ∙ sym (append_assoc (layer_lines step first) (layers_lines (step + 1) layers) (layer_lines (step + suc (length layers)) layer))

each_mark : (params : Params) (least : ℕ) (marks : List Mark) → AreMarkForms params least marks → AllByRecursion (IsMarkForm params 0) marks
each_mark params least [] forms = tt
each_mark params least (mark ∷ marks) forms =
    (record { at = forms.0.at; minute = forms.0.minute; late = omega arith; century = forms.0.century }, each_mark params (forms.0.at + 1) marks forms.1)

-- each mark has a minute of the century
pub mark_forms : (params : Params) (marks : List Mark) → AreMarkForms params 0 marks → All (IsMarkForm params 0) marks
mark_forms params marks forms = All-from_recursion (IsMarkForm params 0) marks (each_mark params 0 marks forms)

-- what a claim holds has few runs and marks
pub record HasFew (params : Params) (schedule : List StepRun) (marks : List Mark) : Type 0 where
  pub few_runs : length schedule < NUMBER_LIMIT
  pub few_marks : length marks < NUMBER_LIMIT
  pub forms : AreMarkForms params 0 marks

pub claim_few : (params : Params) (kind : CertKind) (target : Option ℕ) (schedule : List StepRun) (marks : List Mark) → IsClaimForm params kind target schedule marks → HasFew params schedule marks
claim_few params Shortest target schedule marks h = record { few_runs = h.4; few_marks = h.6; forms = h.7 }
claim_few params Infeasible target schedule marks h = record {
  few_runs = rw h.1 (omega arith);
  few_marks = rw h.2 (omega arith);
  forms = rw h.2 tt;
}

-- five pieces, each put after what stands there
pub five_pieces : (o a b c d e s1 s2 s3 s4 s5 : List ℕ) → s1 ≡ o ++ a → s2 ≡ s1 ++ b → s3 ≡ s2 ++ c → s4 ≡ s3 ++ d → s5 ≡ s4 ++ e → s5 ≡ o ++ (a ++ (b ++ (c ++ (d ++ e))))
five_pieces o a b c d e s1 s2 s3 s4 s5 h1 h2 h3 h4 h5 = h5 ∙ rw (h4, h3, h2, h1) (simp append_assoc)
