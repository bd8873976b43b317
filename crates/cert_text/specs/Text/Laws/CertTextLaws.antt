-- The text of a certificate: what is read is spelled so, and what is spelled so is read.
use Rattle.std.proofs.Common.{◌≡◌, ℕ, ◌<◌, ◌≤◌, cond, ltb, List, [], ◌∷◌, ◌++◌, length, codes, Option, None, Some, Ok, Err, refl, sym, ap, subst, ◌∙◌, append_assoc, arith}
use Rattle.std.specs.Fmt.{decimal}
use Rattle.std.specs.List.{flat_map}
use Rattle.std.proofs.lemmas.Bool.{lt-ltb}
use Rattle.std.proofs.lemmas.Bool.Decides.{nat_tests}
use Rattle.std.proofs.lemmas.Fmt.{decimal_digit}
use Rattle.std.proofs.lemmas.List.{append-nil}
use Rattle.duty_core.specs.declared.mark.Mark.{Mark}
use Rattle.duty_core.specs.declared.params.Params.{Params}
use Rattle.duty_core.specs.Day.{day_start}
use Rattle.cert_text.specs.declared.cert.Cert.{Cert}
use Rattle.cert_text.specs.declared.cert.CertKind.{CertKind}
use Rattle.cert_text.specs.declared.cert.CertKind.TheVariants.{Shortest, Infeasible}
use Rattle.cert_text.specs.declared.cert.StepRun.{StepRun}
use Rattle.cert_text.specs.declared.text.claim.Claim.{Claim}
use Rattle.rule_core.specs.declared.numbers.TheConstants.{NUMBER_LIMIT}
use Rattle.cert_text.specs.Text.Form.{IsClaimForm, IsCertForm}
use Rattle.cert_text.specs.Text.Spelling.{number_line, kind_line, target_line, run_line, AreMarkLines, layers_lines, schedule_lines, claim_lines, cover_lines, IsCertText}
use Rattle.cert_text.specs.Text.Reading.{◌>>=◌, word_at, strip_at, number_line_at, runs_at, marks_at, target_at, shortest_at, infeasible_at, or_infeasible, kind_at, claim_of, claim_at, layers_at, whole_at, ended, cert_at}
use Rattle.cert_text.specs.Text.Laws.WordLaws.{bind_ok, bind_is, ok_is, guard_ok, strip_takes, strip_again, word_takes, then_takes}
use Rattle.cert_text.specs.Text.Laws.ItemLaws.{number_line_takes, number_line_again}
use Rattle.cert_text.specs.Text.Laws.RunLaws.{runs_take, runs_again}
use Rattle.cert_text.specs.Text.Laws.MarkTextLaws.{marks_take, marks_again}
use Rattle.cert_text.specs.Text.Laws.LayerLaws.{layers_take, layers_again}

-- the claim's lines after that of its kind, up to the number of the marks
abbrev held_lines : Option ℕ → List StepRun → List Mark → List ℕ
held_lines target schedule marks = target_line target ++ (schedule_lines schedule ++ number_line (codes "marks ") (length marks))

-- what a claim takes of the bytes after the line of its kind
record TakesHeld (params : Params) (kind : CertKind) (bytes : List ℕ) (claim : Claim) (rest : List ℕ) : Type 0 where
  kind_is : claim.kind ≡ kind
  form : IsClaimForm params kind claim.target claim.schedule claim.marks
  text : List ℕ
  lines : AreMarkLines params claim.marks text
  parts : bytes ≡ held_lines claim.target claim.schedule claim.marks ++ (text ++ rest)

pub target_takes : (bytes : List ℕ) (x : ℕ × List ℕ) → target_at bytes ≡ Ok x → (bytes ≡ target_line (Some x.0) ++ x.1) × (1 ≤ x.0) × (x.0 < NUMBER_LIMIT)
unfolding target_at
target_takes bytes x e =
    let t = bind_ok (number_line_at (codes "target ") bytes) (λ t. cond (ltb 0 t.0) (Ok t) (Err (length bytes))) x e in
    let g = guard_ok (ltb 0 t.0.0) (length bytes) (Ok t.0) x t.2 in
    let some : 1 ≤ t.0.0 = (let z = g.0 in grind (arith, nat_tests)) in
    let line = number_line_takes (codes "target ") bytes t.0.0 t.0.1 t.1 in
    subst (λ (y : ℕ × List ℕ). (bytes ≡ target_line (Some y.0) ++ y.1) × (1 ≤ y.0) × (y.0 < NUMBER_LIMIT)) (ok_is t.0 x g.1) (line.0, some, line.1)

pub target_again : (n : ℕ) (rest : List ℕ) → 1 ≤ n → n < NUMBER_LIMIT → target_at (target_line (Some n) ++ rest) ≡ Ok (n, rest)
unfolding target_at
target_again n rest some lt = rw (number_line_again (codes "target ") n rest lt, lt-ltb 0 n some) refl

shortest_takes : (params : Params) (bytes : List ℕ) (x : Claim × List ℕ) → day_start params < 1440 → shortest_at params bytes ≡ Ok x → TakesHeld params Shortest bytes x.0 x.1
unfolding shortest_at
shortest_takes params bytes x low e =
    let t = bind_ok (target_at bytes) (λ t. number_line_at (codes "schedule ") t.1 >>= λ r. runs_at r.0 r.1 >>= λ runs. number_line_at (codes "marks ") runs.1 >>= λ m. marks_at params m.0 m.1 >>= λ marks. Ok (record { kind = Shortest; target = Some t.0; schedule = runs.0; marks = marks.0 }, marks.1)) x e in
    let r = bind_ok (number_line_at (codes "schedule ") t.0.1) (λ r. runs_at r.0 r.1 >>= λ runs. number_line_at (codes "marks ") runs.1 >>= λ m. marks_at params m.0 m.1 >>= λ marks. Ok (record { kind = Shortest; target = Some t.0.0; schedule = runs.0; marks = marks.0 }, marks.1)) x t.2 in
    let runs = bind_ok (runs_at r.0.0 r.0.1) (λ runs. number_line_at (codes "marks ") runs.1 >>= λ m. marks_at params m.0 m.1 >>= λ marks. Ok (record { kind = Shortest; target = Some t.0.0; schedule = runs.0; marks = marks.0 }, marks.1)) x r.2 in
    let m = bind_ok (number_line_at (codes "marks ") runs.0.1) (λ m. marks_at params m.0 m.1 >>= λ marks. Ok (record { kind = Shortest; target = Some t.0.0; schedule = runs.0.0; marks = marks.0 }, marks.1)) x runs.2 in
    let marks = bind_ok (marks_at params m.0.0 m.0.1) (λ marks. Ok (record { kind = Shortest; target = Some t.0.0; schedule = runs.0.0; marks = marks.0 }, marks.1)) x m.2 in
    let made : Claim × List ℕ = (record { kind = Shortest; target = Some t.0.0; schedule = runs.0.0; marks = marks.0.0 }, marks.0.1) in
    let target = target_takes bytes t.0 t.1 in
    let run_count = number_line_takes (codes "schedule ") t.0.1 r.0.0 r.0.1 r.1 in
    let schedule = runs_take r.0.0 r.0.1 runs.0 runs.1 in
    let mark_count = number_line_takes (codes "marks ") runs.0.1 m.0.0 m.0.1 m.1 in
    let taken = marks_take params m.0.0 m.0.1 marks.0 low marks.1 in
    let head : t.0.1 ≡ number_line (codes "schedule ") (length runs.0.0) ++ r.0.1 = run_count.0 ∙ ap (λ k. number_line (codes "schedule ") k ++ r.0.1) (sym schedule.2) in
    let count : runs.0.1 ≡ number_line (codes "marks ") (length marks.0.0) ++ (taken.text ++ marks.0.1) =
    mark_count.0 ∙ ap (λ k. number_line (codes "marks ") k ++ m.0.1) (sym taken.count) ∙ ap (λ (z : List ℕ). number_line (codes "marks ") (length marks.0.0) ++ z) taken.parts in
    let whole : bytes ≡ held_lines (Some t.0.0) runs.0.0 marks.0.0 ++ (taken.text ++ marks.0.1) =
    then_takes bytes (target_line (Some t.0.0)) t.0.1 (schedule_lines runs.0.0 ++ number_line (codes "marks ") (length marks.0.0)) (taken.text ++ marks.0.1) target.0
    (then_takes t.0.1 (schedule_lines runs.0.0) runs.0.1 (number_line (codes "marks ") (length marks.0.0)) (taken.text ++ marks.0.1)
    (then_takes t.0.1 (number_line (codes "schedule ") (length runs.0.0)) r.0.1 (flat_map run_line runs.0.0) runs.0.1 head schedule.0) count) in
    subst (λ (y : Claim × List ℕ). TakesHeld params Shortest bytes y.0 y.1) (ok_is made x marks.2) (record {
      kind_is = refl;
      form = (t.0.0, refl, target.1, target.2, rw schedule.2 run_count.1, schedule.1, rw taken.count mark_count.1, taken.forms);
      text = taken.text;
      lines = taken.lines;
      parts = whole;
    })

no_items : codes "target -\n" ++ (codes "schedule 0\n" ++ codes "marks 0\n") ≡ held_lines None [] []
no_items =
    let nought : decimal 0 ≡ 48 ∷ [] = decimal_digit 0 (omega arith) in
    let whole : codes "target -\n" ++ (codes "schedule 0\n" ++ codes "marks 0\n") ≡ target_line None ++ (((codes "schedule " ++ ((48 ∷ []) ++ codes "\n")) ++ []) ++ (codes "marks " ++ ((48 ∷ []) ++ codes "\n"))) = refl in
    whole ∙ ap (λ (d : List ℕ). target_line None ++ (((codes "schedule " ++ (d ++ codes "\n")) ++ []) ++ (codes "marks " ++ (d ++ codes "\n")))) (sym nought)

infeasible_takes : (params : Params) (bytes : List ℕ) (x : Claim × List ℕ) → infeasible_at bytes ≡ Ok x → TakesHeld params Infeasible bytes x.0 x.1
unfolding infeasible_at
infeasible_takes params bytes x e =
    let a = bind_ok (word_at (codes "target -\n") bytes) (λ a. word_at (codes "schedule 0\n") a >>= λ b. word_at (codes "marks 0\n") b >>= λ c. Ok (record { kind = Infeasible; target = None; schedule = []; marks = [] }, c)) x e in
    let b = bind_ok (word_at (codes "schedule 0\n") a.0) (λ b. word_at (codes "marks 0\n") b >>= λ c. Ok (record { kind = Infeasible; target = None; schedule = []; marks = [] }, c)) x a.2 in
    let c = bind_ok (word_at (codes "marks 0\n") b.0) (λ c. Ok (record { kind = Infeasible; target = None; schedule = []; marks = [] }, c)) x b.2 in
    let made : Claim × List ℕ = (record { kind = Infeasible; target = None; schedule = []; marks = [] }, c.0) in
    let whole : bytes ≡ (codes "target -\n" ++ (codes "schedule 0\n" ++ codes "marks 0\n")) ++ c.0 =
    then_takes bytes (codes "target -\n") a.0 (codes "schedule 0\n" ++ codes "marks 0\n") c.0 (word_takes (codes "target -\n") bytes a.0 a.1)
    (then_takes a.0 (codes "schedule 0\n") b.0 (codes "marks 0\n") c.0 (word_takes (codes "schedule 0\n") a.0 b.0 b.1) (word_takes (codes "marks 0\n") b.0 c.0 c.1)) in
    subst (λ (y : Claim × List ℕ). TakesHeld params Infeasible bytes y.0 y.1) (ok_is made x c.2) (record {
      kind_is = refl;
      form = (refl, refl, refl);
      text = [];
      lines = refl;
      parts = whole ∙ ap (λ (z : List ℕ). z ++ c.0) no_items;
    })

pub kind_takes : (bytes : List ℕ) (x : CertKind × List ℕ) → kind_at bytes ≡ Ok x → bytes ≡ kind_line x.0 ++ x.1
unfolding kind_at
kind_takes bytes x e = go (strip_at (codes "kind shortest\n") bytes) refl e
  where
    go : (o : Option (List ℕ)) → strip_at (codes "kind shortest\n") bytes ≡ o → or_infeasible bytes o ≡ Ok x → bytes ≡ kind_line x.0 ++ x.1
    go (Some rest) is e = subst (λ (y : CertKind × List ℕ). bytes ≡ kind_line y.0 ++ y.1) (ok_is (Shortest, rest) x e) (strip_takes (codes "kind shortest\n") bytes rest is)
    go None is e =
        let b = bind_ok (word_at (codes "kind infeasible\n") bytes) (λ rest. Ok (Infeasible, rest)) x e in
        subst (λ (y : CertKind × List ℕ). bytes ≡ kind_line y.0 ++ y.1) (ok_is (Infeasible, b.0) x b.2) (word_takes (codes "kind infeasible\n") bytes b.0 b.1)

not_shortest : (rest : List ℕ) → strip_at (codes "kind shortest\n") (codes "kind infeasible\n" ++ rest) ≡ None
unfolding strip_at
not_shortest rest = refl

pub kind_again : (kind : CertKind) (rest : List ℕ) → kind_at (kind_line kind ++ rest) ≡ Ok (kind, rest)
unfolding kind_at
kind_again Shortest rest = rw (strip_again (codes "kind shortest\n") rest) refl
kind_again Infeasible rest = rw (not_shortest rest, strip_again (codes "kind infeasible\n") rest) refl

held_takes : (params : Params) (kind : CertKind) (bytes : List ℕ) (x : Claim × List ℕ) → day_start params < 1440 → claim_of params kind bytes ≡ Ok x → TakesHeld params kind bytes x.0 x.1
held_takes params Shortest bytes x low e = shortest_takes params bytes x low e
held_takes params Infeasible bytes x low e = infeasible_takes params bytes x e

-- what a certificate takes of the bytes
pub record TakesCert (params : Params) (bytes : List ℕ) (cert : Cert) (rest : List ℕ) : Type 0 where
  pub text : List ℕ
  pub form : IsCertForm params cert
  pub spelled : IsCertText params cert text
  pub parts : bytes ≡ text ++ rest

pub whole_takes : (params : Params) (bytes : List ℕ) (x : Cert × List ℕ) → day_start params < 1440 → whole_at params bytes ≡ Ok x → TakesCert params bytes x.0 x.1
unfolding whole_at claim_at
whole_takes params bytes x low e =
    let c = bind_ok (claim_at params bytes) (λ claim. number_line_at (codes "layers ") claim.1 >>= λ n. layers_at n.0 n.1 >>= λ layers. word_at (codes "end\n") layers.1 >>= λ rest. Ok (record { kind = claim.0.kind; target = claim.0.target; schedule = claim.0.schedule; marks = claim.0.marks; layers = layers.0 }, rest)) x e in
    let n = bind_ok (number_line_at (codes "layers ") c.0.1) (λ n. layers_at n.0 n.1 >>= λ layers. word_at (codes "end\n") layers.1 >>= λ rest. Ok (record { kind = c.0.0.kind; target = c.0.0.target; schedule = c.0.0.schedule; marks = c.0.0.marks; layers = layers.0 }, rest)) x c.2 in
    let l = bind_ok (layers_at n.0.0 n.0.1) (λ layers. word_at (codes "end\n") layers.1 >>= λ rest. Ok (record { kind = c.0.0.kind; target = c.0.0.target; schedule = c.0.0.schedule; marks = c.0.0.marks; layers = layers.0 }, rest)) x n.2 in
    let w = bind_ok (word_at (codes "end\n") l.0.1) (λ rest. Ok (record { kind = c.0.0.kind; target = c.0.0.target; schedule = c.0.0.schedule; marks = c.0.0.marks; layers = l.0.0 }, rest)) x l.2 in
    let cert : Cert = record { kind = c.0.0.kind; target = c.0.0.target; schedule = c.0.0.schedule; marks = c.0.0.marks; layers = l.0.0 } in
    let made : Cert × List ℕ = (cert, w.0) in
    let a = bind_ok (word_at (codes "duty-cert 1\n") bytes) (λ a. kind_at a >>= λ kind. claim_of params kind.0 kind.1) c.0 c.1 in
    let k = bind_ok (kind_at a.0) (λ kind. claim_of params kind.0 kind.1) c.0 a.2 in
    let held = held_takes params k.0.0 k.0.1 c.0 low k.2 in
    let count = number_line_takes (codes "layers ") c.0.1 n.0.0 n.0.1 n.1 in
    let layers = layers_take n.0.0 n.0.1 l.0 l.1 in
    let head : bytes ≡ claim_lines cert ++ (held.text ++ c.0.1) =
    then_takes bytes (codes "duty-cert 1\n") a.0 (kind_line cert.kind ++ held_lines cert.target cert.schedule cert.marks) (held.text ++ c.0.1) (word_takes (codes "duty-cert 1\n") bytes a.0 a.1)
    (then_takes a.0 (kind_line cert.kind) k.0.1 (held_lines cert.target cert.schedule cert.marks) (held.text ++ c.0.1) (kind_takes a.0 k.0 k.1 ∙ ap (λ q. kind_line q ++ k.0.1) (sym held.kind_is)) held.parts) in
    let thereafter : c.0.1 ≡ cover_lines cert.layers ++ w.0 =
    then_takes c.0.1 (number_line (codes "layers ") (length l.0.0)) n.0.1 (layers_lines 0 l.0.0 ++ codes "end\n") w.0 (count.0 ∙ ap (λ q. number_line (codes "layers ") q ++ n.0.1) (sym layers.2))
    (then_takes n.0.1 (layers_lines 0 l.0.0) l.0.1 (codes "end\n") w.0 layers.0 (word_takes (codes "end\n") l.0.1 w.0 w.1)) in
    let whole : bytes ≡ (claim_lines cert ++ (held.text ++ cover_lines cert.layers)) ++ w.0 =
    then_takes bytes (claim_lines cert) (held.text ++ c.0.1) (held.text ++ cover_lines cert.layers) w.0 head
    (then_takes (held.text ++ c.0.1) held.text c.0.1 (cover_lines cert.layers) w.0 refl thereafter) in
    subst (λ (y : Cert × List ℕ). TakesCert params bytes y.0 y.1) (ok_is made x w.2) (record {
      text = claim_lines cert ++ (held.text ++ cover_lines cert.layers);
      form = record { claim = subst (λ q. IsClaimForm params q cert.target cert.schedule cert.marks) (sym held.kind_is) held.form; few = rw layers.2 count.1; layers = layers.1 };
      spelled = record { marks = held.text; mark_lines = held.lines; spelled = refl };
      parts = whole;
    })

-- what is read is a certificate that has a text, and its text
pub cert_takes : (params : Params) (bytes : List ℕ) (cert : Cert) → day_start params < 1440 → cert_at params bytes ≡ Ok cert → IsCertForm params cert × IsCertText params cert bytes
unfolding cert_at
cert_takes params bytes cert low e =
    let c = bind_ok (whole_at params bytes) (λ c. ended c.1 c.0) cert e in
    let t = whole_takes params bytes c.0 low c.1 in
    let end = is_end c.0.1 c.0.0 cert c.2 in
    let same : bytes ≡ t.text = t.parts ∙ ap (λ (r : List ℕ). t.text ++ r) end.0 ∙ append-nil t.text in
    subst (λ z. IsCertForm params z × IsCertText params z bytes) end.1 (t.form, subst (λ (b : List ℕ). IsCertText params c.0.0 b) (sym same) t.spelled)
  where
    is_end : (rest : List ℕ) (made cert : Cert) → ended rest made ≡ Ok cert → (rest ≡ []) × (made ≡ cert)
    is_end [] made cert e = (refl, ok_is made cert e)
    is_end (b ∷ rest) made cert e = absurd cc

shortest_again : (params : Params) (target : Option ℕ) (schedule : List StepRun) (marks : List Mark) (text rest : List ℕ) → day_start params < 1440 → IsClaimForm params Shortest target schedule marks → AreMarkLines params marks text
    → shortest_at params (held_lines target schedule marks ++ (text ++ rest)) ≡ Ok (record { kind = Shortest; target = target; schedule = schedule; marks = marks }, rest)
unfolding shortest_at
shortest_again params target schedule marks text rest low form lines =
    let steps = form.0 in
    let tail = text ++ rest in
    let t3 = number_line (codes "marks ") (length marks) ++ tail in
    let t2 = flat_map run_line schedule ++ t3 in
    let t1 = number_line (codes "schedule ") (length schedule) ++ t2 in
    let regrouped : held_lines target schedule marks ++ tail ≡ number_line (codes "target ") steps ++ t1 =
    ap (λ o. held_lines o schedule marks ++ tail) form.1
    ∙ append_assoc (number_line (codes "target ") steps) (schedule_lines schedule ++ number_line (codes "marks ") (length marks)) tail
    ∙ ap (λ (z : List ℕ). number_line (codes "target ") steps ++ z) (append_assoc (schedule_lines schedule) (number_line (codes "marks ") (length marks)) tail
    ∙ append_assoc (number_line (codes "schedule ") (length schedule)) (flat_map run_line schedule) t3) in
    ap (shortest_at params) regrouped
    ∙ rw (
      target_again steps t1 form.2 form.3,
      number_line_again (codes "schedule ") (length schedule) t2 form.4,
      runs_again schedule t3 form.5,
      number_line_again (codes "marks ") (length marks) tail form.6,
      marks_again params marks text rest low form.7 lines,
      form.1,
    ) refl

infeasible_again : (params : Params) (target : Option ℕ) (schedule : List StepRun) (marks : List Mark) (text rest : List ℕ) → IsClaimForm params Infeasible target schedule marks → AreMarkLines params marks text
    → infeasible_at (held_lines target schedule marks ++ (text ++ rest)) ≡ Ok (record { kind = Infeasible; target = target; schedule = schedule; marks = marks }, rest)
unfolding infeasible_at
infeasible_again params target schedule marks text rest form lines =
    let nothing : text ≡ [] = subst (λ ms. AreMarkLines params ms text) form.2 lines in
    let same : held_lines target schedule marks ≡ codes "target -\n" ++ (codes "schedule 0\n" ++ codes "marks 0\n") = rw (form.0, form.1, form.2) (sym no_items) in
    let regrouped : held_lines target schedule marks ++ (text ++ rest) ≡ codes "target -\n" ++ (codes "schedule 0\n" ++ (codes "marks 0\n" ++ rest)) = ap (λ (h : List ℕ). h ++ (text ++ rest)) same ∙ ap (λ (z : List ℕ). codes "target -\n" ++ (codes "schedule 0\n" ++ (codes "marks 0\n" ++ (z ++ rest)))) nothing in
    ap infeasible_at regrouped ∙ rw (strip_again (codes "target -\n") (codes "schedule 0\n" ++ (codes "marks 0\n" ++ rest)), strip_again (codes "schedule 0\n") (codes "marks 0\n" ++ rest), strip_again (codes "marks 0\n") rest, form.0, form.1, form.2) refl

held_again : (params : Params) (kind : CertKind) (target : Option ℕ) (schedule : List StepRun) (marks : List Mark) (text rest : List ℕ) → day_start params < 1440 → IsClaimForm params kind target schedule marks → AreMarkLines params marks text
    → claim_of params kind (held_lines target schedule marks ++ (text ++ rest)) ≡ Ok (record { kind = kind; target = target; schedule = schedule; marks = marks }, rest)
held_again params Shortest target schedule marks text rest low form lines = shortest_again params target schedule marks text rest low form lines
held_again params Infeasible target schedule marks text rest low form lines = infeasible_again params target schedule marks text rest form lines

-- the text of a certificate is read as that certificate, whatever follows
pub whole_again : (params : Params) (text : List ℕ) (cert : Cert) (rest : List ℕ) → day_start params < 1440 → IsCertForm params cert → IsCertText params cert text → whole_at params (text ++ rest) ≡ Ok (cert, rest)
unfolding whole_at claim_at
whole_again params text cert rest low form is =
    let held = held_lines cert.target cert.schedule cert.marks in
    let tail4 = codes "end\n" ++ rest in
    let tail3 = layers_lines 0 cert.layers ++ tail4 in
    let tail2 = number_line (codes "layers ") (length cert.layers) ++ tail3 in
    let thereafter = held ++ (is.marks ++ tail2) in
    let cover : cover_lines cert.layers ++ rest ≡ tail2 =
    append_assoc (number_line (codes "layers ") (length cert.layers)) (layers_lines 0 cert.layers ++ codes "end\n") rest
    ∙ ap (λ (z : List ℕ). number_line (codes "layers ") (length cert.layers) ++ z) (append_assoc (layers_lines 0 cert.layers) (codes "end\n") rest) in
    let regrouped : text ++ rest ≡ codes "duty-cert 1\n" ++ (kind_line cert.kind ++ thereafter) =
    ap (λ (t : List ℕ). t ++ rest) is.spelled
    ∙ append_assoc (claim_lines cert) (is.marks ++ cover_lines cert.layers) rest
    ∙ ap (λ (z : List ℕ). claim_lines cert ++ z) (append_assoc is.marks (cover_lines cert.layers) rest ∙ ap (λ (z : List ℕ). is.marks ++ z) cover)
    ∙ ap (λ (z : List ℕ). codes "duty-cert 1\n" ++ z) (append_assoc (kind_line cert.kind) held (is.marks ++ tail2)) in
    ap (whole_at params) regrouped
    ∙ rw (
      strip_again (codes "duty-cert 1\n") (kind_line cert.kind ++ thereafter),
      kind_again cert.kind thereafter,
      held_again params cert.kind cert.target cert.schedule cert.marks is.marks tail2 low form.claim is.mark_lines,
      number_line_again (codes "layers ") (length cert.layers) tail3 form.few,
      layers_again cert.layers tail4 form.few form.layers,
      strip_again (codes "end\n") rest,
    ) refl

-- the text of a certificate is read as that certificate
pub cert_again : (params : Params) (bytes : List ℕ) (cert : Cert) → day_start params < 1440 → IsCertForm params cert → IsCertText params cert bytes → cert_at params bytes ≡ Ok cert
unfolding cert_at
cert_again params bytes cert low form text =
    ap (cert_at params) (sym (append-nil bytes)) ∙ bind_is (whole_at params (bytes ++ [])) (λ c. ended c.1 c.0) (cert, []) (Ok cert) (whole_again params bytes cert [] low form text) refl
