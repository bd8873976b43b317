-- How long the text of a certificate is at most.
use Rattle.std.proofs.Common.{◌≡◌, ℕ, ◌+◌, ◌*◌, ◌<◌, ◌≤◌, List, [], ◌∷◌, ◌++◌, length, codes, Option, None, Some, refl, sym, ap, subst, ◌∙◌, arith, length-append}
use Rattle.std.specs.Prelude.{IfSome, sum_by}
use Rattle.std.specs.Fmt.{decimal}
use Rattle.std.specs.List.{flat_map, AllByRecursion}
use Rattle.std.proofs.lemmas.Fmt.{length-decimal-le}
use Rattle.std.proofs.lemmas.List.Concat.{length-flat_map}
use Rattle.std.proofs.lemmas.List.Elements.{All-from_recursion}
use Rattle.std.proofs.lemmas.List.Sums.{sum_by-cons, sum_by-le}
use Rattle.duty_core.specs.declared.activity.Activity.{Activity}
use Rattle.duty_core.specs.declared.activity.Activity.TheVariants.{Drive, Serve, Wait, Off, Berth}
use Rattle.duty_core.specs.declared.mark.Mark.{Mark}
use Rattle.duty_core.specs.declared.mark.Mark.TheVariants.{SplitRest, DeferDay}
use Rattle.duty_core.specs.declared.params.Params.{Params}
use Rattle.rule_core.specs.declared.numbers.TheConstants.{NUMBER_LIMIT}
use Rattle.cert_text.specs.declared.cert.Cert.{Cert}
use Rattle.cert_text.specs.declared.cert.CertKind.{CertKind}
use Rattle.cert_text.specs.declared.cert.CertKind.TheVariants.{Shortest, Infeasible}
use Rattle.cert_text.specs.declared.cert.CertLabel.{CertLabel}
use Rattle.cert_text.specs.declared.cert.StepRun.{StepRun}
use Rattle.cert_text.specs.declared.text.limits.TheConstants.{CERT_LIMIT, MOST_LABELS}
use Rattle.cert_text.specs.Text.Form.{AreRunForms, IsLabelForm, IsLayerForm, IsClaimForm, IsCertForm}
use Rattle.cert_text.specs.Text.Spelling.{letter, number_line, kind_line, number_or_dash, target_line, run_line, IsMarkLine, AreMarkLines, state_number, label_line, layer_head, layer_lines, layers_lines, schedule_lines, claim_lines, cover_lines, IsCertText}

short_number : (n : ℕ) → n < NUMBER_LIMIT → length (decimal n) ≤ 6
short_number n lt = length-decimal-le 6 n (omega arith) lt (omega arith)

-- what holds of each item
each : {X : Type 0} (P Q : X → Type 0) → ((x : X) → P x → Q x) → (xs : List X) → AllByRecursion P xs → AllByRecursion Q xs
each P Q f [] h = tt
each P Q f (x ∷ xs) h = (f x h.0, each P Q f xs h.1)

-- lines of at most so many bytes each
short_lines : {X : Type 0} (f : X → List ℕ) (m : ℕ) (xs : List X) → AllByRecursion (λ x. length (f x) ≤ m) xs → length (flat_map f xs) ≤ length xs * m
short_lines f m xs h = subst (λ n. n ≤ length xs * m) (sym (length-flat_map f xs)) (sum_by-le (λ x. length (f x)) m xs (All-from_recursion (λ x. length (f x) ≤ m) xs h))

-- ---- lines

one_letter : (act : Activity) → length (letter act) ≡ 1
one_letter Drive = refl
one_letter Serve = refl
one_letter Wait = refl
one_letter Off = refl
one_letter Berth = refl

short_run : (run : StepRun) → run.count < NUMBER_LIMIT → length (run_line run) ≤ 11
short_run run lt =
    let number = short_number run.count lt in
    let word = one_letter run.act in
    let a : length (decimal run.count ++ (codes " " ++ (letter run.act ++ codes "\n"))) ≡ length (decimal run.count) + length (codes " " ++ (letter run.act ++ codes "\n")) = length-append (decimal run.count) (codes " " ++ (letter run.act ++ codes "\n")) in
    let b : length (letter run.act ++ codes "\n") ≡ length (letter run.act) + 1 = length-append (letter run.act) (codes "\n") in
    omega (arith, number, word, a, b)

short_runs : (before : Option Activity) (runs : List StepRun) → AreRunForms before runs → AllByRecursion (λ r. length (run_line r) ≤ 11) runs
short_runs before [] forms = tt
short_runs before (run ∷ runs) forms = (short_run run forms.0.few, short_runs (Some run.act) runs forms.1)

short_dash : (o : Option ℕ) → IfSome o (λ d. d < NUMBER_LIMIT) → length (number_or_dash o) ≤ 6
short_dash None few = omega arith
short_dash (Some n) few = short_number n few

short_state_number : (n : ℕ) → n < NUMBER_LIMIT → length (state_number n) ≤ 7
short_state_number n lt = let number = short_number n lt in omega (arith, number)

short_label : (label : CertLabel) → IsLabelForm label → length (label_line label) ≤ 1906
short_label label form =
    let depart = short_dash label.depart form.depart in
    let progress = short_number label.progress form.progress in
    let numbers = short_lines state_number 7 label.numbers (each (λ n. n < NUMBER_LIMIT) (λ n. length (state_number n) ≤ 7) short_state_number label.numbers form.numbers) in
    let few = form.few in
    let c = flat_map state_number label.numbers ++ codes "\n" in
    let a : length (number_or_dash label.depart ++ (codes " " ++ (decimal label.progress ++ c))) ≡ length (number_or_dash label.depart) + length (codes " " ++ (decimal label.progress ++ c)) = length-append (number_or_dash label.depart) (codes " " ++ (decimal label.progress ++ c)) in
    let b : length (decimal label.progress ++ c) ≡ length (decimal label.progress) + length c = length-append (decimal label.progress) c in
    let d : length c ≡ length (flat_map state_number label.numbers) + 1 = length-append (flat_map state_number label.numbers) (codes "\n") in
    omega (arith, depart, progress, numbers, few, a, b, d)

short_head : (step count : ℕ) → step < NUMBER_LIMIT → count < NUMBER_LIMIT → length (layer_head step count) ≤ 20
short_head step count low few =
    let first = short_number step low in
    let second = short_number count few in
    let a : length (decimal step ++ (codes " " ++ (decimal count ++ codes "\n"))) ≡ length (decimal step) + length (codes " " ++ (decimal count ++ codes "\n")) = length-append (decimal step) (codes " " ++ (decimal count ++ codes "\n")) in
    let b : length (decimal count ++ codes "\n") ≡ length (decimal count) + 1 = length-append (decimal count) (codes "\n") in
    omega (arith, first, second, a, b)

short_layers : (step : ℕ) (layers : List (List CertLabel)) → step + length layers ≤ NUMBER_LIMIT → AllByRecursion IsLayerForm layers → length (layers_lines step layers) ≤ 20 * length layers + 1906 * sum_by length layers
short_layers step [] few forms = omega arith
short_layers step (layer ∷ layers) few forms =
    let head = short_head step (length layer) (omega (arith, few)) forms.0.few in
    let labels = short_lines label_line 1906 layer (each IsLabelForm (λ l. length (label_line l) ≤ 1906) short_label layer forms.0.labels) in
    let later = short_layers (step + 1) layers (omega (arith, few)) forms.1 in
    let count = sum_by-cons length layer layers in
    let a = length-append (layer_lines step layer) (layers_lines (step + 1) layers) in
    let b = length-append (layer_head step (length layer)) (flat_map label_line layer) in
    omega (arith, head, labels, later, count, a, b)

mark_length : (params : Params) (mark : Mark) (line : List ℕ) → IsMarkLine params mark line → length line ≡ 25
mark_length params (SplitRest at) line is = ap (λ (t : List ℕ). length t) (is.spelled ∙ ap (λ (t : List ℕ). codes "m split " ++ (t ++ codes "\n")) is.time_is.spelled)
mark_length params (DeferDay day) line is = ap (λ (t : List ℕ). length t) (is.spelled ∙ ap (λ (t : List ℕ). codes "m defer " ++ (t ++ codes "\n")) is.time_is.spelled)

mark_lengths : (params : Params) (marks : List Mark) (text : List ℕ) → AreMarkLines params marks text → length text ≡ 25 * length marks
mark_lengths params [] text are = ap (λ (t : List ℕ). length t) are
mark_lengths params (mark ∷ marks) text are =
    let line = mark_length params mark are.0 are.3 in
    let later = mark_lengths params marks are.1 are.4 in
    let a : length text ≡ length are.0 + length are.1 = ap (λ (t : List ℕ). length t) are.2 ∙ length-append are.0 are.1 in
    omega (arith, line, later, a)

-- ---- what a certificate claims

-- how long the parts of a claim are
record HasShort (target : Option ℕ) (schedule : List StepRun) (marks : List Mark) : Type 0 where
  target_short : length (target_line target) ≤ 14
  few_runs : length schedule < NUMBER_LIMIT
  runs_short : length (flat_map run_line schedule) ≤ length schedule * 11
  few_marks : length marks < NUMBER_LIMIT

short_target : (n : ℕ) → n < NUMBER_LIMIT → length (target_line (Some n)) ≤ 14
short_target n lt =
    let number = short_number n lt in
    let a : length (decimal n ++ codes "\n") ≡ length (decimal n) + 1 = length-append (decimal n) (codes "\n") in
    omega (arith, number, a)

short_claim : (params : Params) (kind : CertKind) (target : Option ℕ) (schedule : List StepRun) (marks : List Mark) → IsClaimForm params kind target schedule marks → HasShort target schedule marks
short_claim params Shortest target schedule marks h = record {
  target_short = subst (λ o. length (target_line o) ≤ 14) (sym h.1) (short_target h.0 h.3);
  few_runs = h.4;
  runs_short = short_lines run_line 11 schedule (short_runs None schedule h.5);
  few_marks = h.6;
}
short_claim params Infeasible target schedule marks h = record {
  target_short = rw h.0 (omega arith);
  few_runs = rw h.1 (omega arith);
  runs_short = rw h.1 (omega arith);
  few_marks = rw h.2 (omega arith);
}

short_line : (word : List ℕ) (n : ℕ) → n < NUMBER_LIMIT → length (number_line word n) ≤ length word + 7
short_line word n lt =
    let number = short_number n lt in
    let a = length-append word (decimal n ++ codes "\n") in
    let b : length (decimal n ++ codes "\n") ≡ length (decimal n) + 1 = length-append (decimal n) (codes "\n") in
    omega (arith, number, a, b)

short_kind : (kind : CertKind) → length (kind_line kind) ≤ 16
short_kind Shortest = omega arith
short_kind Infeasible = omega arith

-- the text of a certificate of few labels fits
pub cert_fits : (params : Params) (cert : Cert) (text : List ℕ) → IsCertForm params cert → IsCertText params cert text → sum_by length cert.layers ≤ MOST_LABELS → length text ≤ CERT_LIMIT
cert_fits params cert text form is few =
    let claim = short_claim params cert.kind cert.target cert.schedule cert.marks form.claim in
    let kind = short_kind cert.kind in
    let target = claim.target_short in
    let few_runs = claim.few_runs in
    let runs = claim.runs_short in
    let few_marks = claim.few_marks in
    let run_count = short_line (codes "schedule ") (length cert.schedule) few_runs in
    let mark_count = short_line (codes "marks ") (length cert.marks) few_marks in
    let marks = mark_lengths params cert.marks is.marks is.mark_lines in
    let few_layers = form.few in
    let layer_count = short_line (codes "layers ") (length cert.layers) few_layers in
    let layers = short_layers 0 cert.layers (omega (arith, few_layers)) form.layers in
    let m = number_line (codes "marks ") (length cert.marks) in
    let s = schedule_lines cert.schedule in
    let t = target_line cert.target in
    let a : length text ≡ length (claim_lines cert) + length (is.marks ++ cover_lines cert.layers) = ap (λ (z : List ℕ). length z) is.spelled ∙ length-append (claim_lines cert) (is.marks ++ cover_lines cert.layers) in
    let b = length-append is.marks (cover_lines cert.layers) in
    let c : length (kind_line cert.kind ++ (t ++ (s ++ m))) ≡ length (kind_line cert.kind) + length (t ++ (s ++ m)) = length-append (kind_line cert.kind) (t ++ (s ++ m)) in
    let d : length (t ++ (s ++ m)) ≡ length t + length (s ++ m) = length-append t (s ++ m) in
    let e : length (s ++ m) ≡ length s + length m = length-append s m in
    let f : length s ≡ length (number_line (codes "schedule ") (length cert.schedule)) + length (flat_map run_line cert.schedule) = length-append (number_line (codes "schedule ") (length cert.schedule)) (flat_map run_line cert.schedule) in
    let g : length (cover_lines cert.layers) ≡ length (number_line (codes "layers ") (length cert.layers)) + length (layers_lines 0 cert.layers ++ codes "end\n") = length-append (number_line (codes "layers ") (length cert.layers)) (layers_lines 0 cert.layers ++ codes "end\n") in
    let h : length (layers_lines 0 cert.layers ++ codes "end\n") ≡ length (layers_lines 0 cert.layers) + 4 = length-append (layers_lines 0 cert.layers) (codes "end\n") in
    omega (arith, kind, target, few_runs, runs, few_marks, run_count, mark_count, marks, few_layers, layer_count, layers, a, b, c, d, e, f, g, h, few)
