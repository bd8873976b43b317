-- From what is read of the bytes to what a check of them finds.
use Rattle.std.proofs.Common.{◌≡◌, ℕ, ◌+◌, ◌<◌, List, [], ◌∷◌, length, get_or, take, drop, sym, ap, subst, arith, inl, inr}
use Rattle.std.specs.Prelude.{zero, suc, Option, None, Some, Result, Ok, Err, MatchResult, IfErr}
use Rattle.std.specs.List.{AllByRecursion}
use Rattle.std.proofs.lemmas.List.{take-append-drop}
use Rattle.duty_core.specs.declared.activity.Activity.{Activity}
use Rattle.duty_core.specs.declared.params.Params.{Params}
use Rattle.duty_core.specs.Laws.BookLaws.{front_lawful}
use Rattle.duty_core.specs.Lawful.{IsLawful}
use Rattle.rule_core.specs.Machine.{Machine}
use Rattle.rule_core.specs.Replay.{IsFirstUnlawful}
use Rattle.tour_model.specs.declared.label.Label.{Label}
use Rattle.tour_model.specs.declared.limits.TheConstants.{STEP_LIMIT}
use Rattle.tour_model.specs.declared.tour.Tour.{Tour}
use Rattle.cert_text.specs.declared.cert.Cert.{Cert}
use Rattle.cert_text.specs.declared.cert.CertKind.{CertKind}
use Rattle.cert_text.specs.declared.cert.CertKind.TheVariants.{Shortest, Infeasible}
use Rattle.cert_text.specs.declared.cert.CertLabel.{CertLabel}
use Rattle.cert_text.specs.declared.text.fault.CertFault.{CertFault}
use Rattle.cert_text.specs.declared.text.fault.CertFault.TheVariants as fault
use Rattle.cert_text.specs.CoverLists.Planning.{problem_of, state_at}
use Rattle.cert_text.specs.CoverLists.Problem.{Problem}
use Rattle.cert_text.specs.Text.Form.{IsCertForm, IsClaimForm, IsLayerForm}
use Rattle.cert_text.specs.Text.Spelling.{IsCertText}
use Rattle.cert_text.specs.Text.BadLine.{IsFault}
use Rattle.cert_checker.specs.declared.verdict.Reason.{Reason}
use Rattle.cert_checker.specs.declared.verdict.Reason.TheVariants as reason
use Rattle.cert_checker.specs.declared.verdict.Verdict.{Verdict}
use Rattle.cert_checker.specs.declared.verdict.Verdict.TheVariants as verdict
use Rattle.rule_books.specs.Books.{book_for}
use Rattle.cert_checker.specs.Parsed.{there}
use Rattle.cert_checker.specs.Conditions.{FailsBy, IsFirstLabel, layer_of}
use Rattle.cert_checker.specs.Verdicts.{IsSmallCert, IsFirstFailure, IsOwnShortest, Proves, first_line}
use Rattle.cert_checker.specs.Checked.{IsVerdictFor, IsValidFor, IsNoText, IsFaultyText, IsWhy, IsCheck, Follows}

-- ---- a certificate that has a text is not large

few_labels : (layers : List (List CertLabel)) (step : ℕ) → AllByRecursion IsLayerForm layers → length (get_or layers step []) < STEP_LIMIT
few_labels [] step h = omega arith
few_labels (layer ∷ more) zero h = let few = h.0.few in omega arith
few_labels (layer ∷ more) (suc step) h = few_labels more step h.1

claim_none : (params : Params) (kind : CertKind) (cert : Cert) → IsClaimForm params kind cert.target cert.schedule cert.marks → kind ≡ Infeasible → (cert.target ≡ None) × (cert.schedule ≡ []) × (cert.marks ≡ [])
claim_none params Infeasible cert h e = h
claim_none params Shortest cert h e = absurd (let f : Shortest ≡ Infeasible = e in cc)

few_runs : (params : Params) (kind : CertKind) (cert : Cert) → IsClaimForm params kind cert.target cert.schedule cert.marks → length cert.schedule < STEP_LIMIT
few_runs params Shortest cert h = let few = h.4 in omega arith
few_runs params Infeasible cert h = let none : length cert.schedule ≡ 0 = ap length h.1 in omega arith

few_marks : (params : Params) (kind : CertKind) (cert : Cert) → IsClaimForm params kind cert.target cert.schedule cert.marks → length cert.marks < STEP_LIMIT
few_marks params Shortest cert h = let few = h.6 in omega arith
few_marks params Infeasible cert h = let none : length cert.marks ≡ 0 = ap length h.2 in omega arith

pub small_of : (params : Params) (cert : Cert) → IsCertForm params cert → IsSmallCert cert
small_of params cert h = record {
  none = claim_none params cert.kind cert h.claim;
  runs = few_runs params cert.kind cert h.claim;
  marks = few_marks params cert.kind cert h.claim;
  layers = (let few = h.few in omega arith);
  labels = λ step. few_labels cert.layers step h.layers;
}

-- ---- the log

pub lawful_replayed : (params : Params) (first : ℕ) (log : List Activity) (unit : ℕ) → IsLawful params first log → IsFirstUnlawful params first log unit → ⊥
lawful_replayed params first log unit l u =
    u.unlawful (front_lawful params first (take (unit + 1) log) (drop (unit + 1) log) (subst (IsLawful params first) (sym (take-append-drop (unit + 1) log)) l))

-- ---- the bytes

-- Each certificate that has these bytes as its text is this one.
abbrev pub IsOnly : Tour → List ℕ → Cert → Type 0
IsOnly tour bytes cert = (other : Cert) → IsCertForm tour.params other → IsCertText tour.params other bytes → cert ≡ other

abbrev pub ReadsOnly : Tour → List ℕ → Result Cert CertFault → Type 0
ReadsOnly tour bytes r = (cert : Cert) → IsCertForm tour.params cert → IsCertText tour.params cert bytes → MatchResult r (λ found. found ≡ cert) (λ f. f ≡ fault.Memory)

pub only_read : (tour : Tour) (bytes : List ℕ) (r : Result Cert CertFault) (cert : Cert) → r ≡ Ok cert → ReadsOnly tour bytes r → IsOnly tour bytes cert
only_read tour bytes r cert e h other form text = subst (λ o. MatchResult o (λ found. found ≡ other) (λ f. f ≡ fault.Memory)) e (h other form text)

pub no_text : (tour : Tour) (bytes : List ℕ) (r : Result Cert CertFault) (line : ℕ) → r ≡ Err (fault.Bad line) → ReadsOnly tour bytes r → IfErr r (IsFault tour.params bytes) → IsNoText tour bytes line
no_text tour bytes r line e h bad = record {
  none = λ cert text form. (let f : fault.Bad line ≡ fault.Memory = subst (λ o. MatchResult o (λ found. found ≡ cert) (λ g. g ≡ fault.Memory)) e (h cert form text) in absurd cc);
  bad = subst (λ o. IfErr o (IsFault tour.params bytes)) e bad;
}

pub grammar_check : (tour : Tour) (log : List Activity) (bytes : List ℕ) (line : ℕ) → IsNoText tour bytes line → IsCheck tour log bytes (verdict.Rejected line reason.Grammar)
grammar_check tour log bytes line h = ((λ cert c. h.none cert c.0 c.1), h)

-- ---- the verdict

-- no condition on a label fails by the reason that a text has
no_fault : {S : Type 0} (problem : Problem S) (is_state : S → ℕ → Type 0) (target : Option ℕ) (step : ℕ) (earlier next : List (Label S)) (o : Option (Label S)) → FailsBy problem is_state target step earlier next o reason.Grammar → ⊥
no_fault problem is_state target step earlier next None h = h
no_fault problem is_state target step earlier next (Some l) h = h

not_label : {S : Type 0} (problem : Problem S) (is_state : S → ℕ → Type 0) (state_of : List ℕ → ℕ → Option S) (tour : Tour) (target : Option ℕ) (layers : List (List CertLabel)) (first line : ℕ) → IsFirstLabel problem is_state state_of tour target layers first (record { line = line; reason = reason.Grammar }) → ⊥
not_label problem is_state state_of tour target layers first line h =
    let os = layer_of state_of tour problem.goal layers h.step in
    no_fault problem is_state target h.step (there (take h.fault.index os)) (there (layer_of state_of tour problem.goal layers (h.step + 1))) (get_or os h.fault.index None)
    (subst (λ why. FailsBy problem is_state target h.step (there (take h.fault.index os)) (there (layer_of state_of tour problem.goal layers (h.step + 1))) (get_or os h.fault.index None) why) (sym h.reason) h.here.fails)

not_failure : {S : Type 0} (tour : Tour) (log : List Activity) (m : Machine S) (cert : Cert) (line : ℕ) →
    IsFirstFailure tour log m cert (record { line = line; reason = reason.Grammar }) → ⊥
not_failure tour log m cert line h = elim h [
  | inl claim ↦ claim.1
  | inr more ↦ elim more.1 [
    | inl root ↦ (let e : reason.Grammar ≡ reason.Root = root.0 in absurd (let f = e in cc))
    | inr label ↦ not_label (problem_of tour m) (state_at tour m) m.state_of tour cert.target cert.layers (first_line cert) line label.1
  ]
]

faulty : (tour : Tour) (log : List Activity) (bytes : List ℕ) (cert : Cert) (line : ℕ) (why : Reason) → IsCertText tour.params cert bytes → IsCertForm tour.params cert → IsVerdictFor tour log cert (verdict.Rejected line why) → IsFaultyText tour log bytes line why
faulty tour log bytes cert line why text form v = record { cert = cert; text = text; form = form; first = v.1 }

why_of : (tour : Tour) (log : List Activity) (bytes : List ℕ) (cert : Cert) (line : ℕ) (why : Reason) → IsCertText tour.params cert bytes → IsCertForm tour.params cert → IsVerdictFor tour log cert (verdict.Rejected line why) → IsWhy tour log bytes line why
why_of tour log bytes cert line reason.Grammar text form v =
    absurd (not_failure tour log (book_for tour.params) cert line v.1)
why_of tour log bytes cert line reason.TooBig text form v = faulty tour log bytes cert line reason.TooBig text form v
why_of tour log bytes cert line reason.Serves text form v = faulty tour log bytes cert line reason.Serves text form v
why_of tour log bytes cert line reason.Length text form v = faulty tour log bytes cert line reason.Length text form v
why_of tour log bytes cert line reason.Lawful text form v = faulty tour log bytes cert line reason.Lawful text form v
why_of tour log bytes cert line reason.Root text form v = faulty tour log bytes cert line reason.Root text form v
why_of tour log bytes cert line reason.State text form v = faulty tour log bytes cert line reason.State text form v
why_of tour log bytes cert line reason.Finished text form v = faulty tour log bytes cert line reason.Finished text form v
why_of tour log bytes cert line reason.Repeated text form v = faulty tour log bytes cert line reason.Repeated text form v
why_of tour log bytes cert line reason.Successor text form v = faulty tour log bytes cert line reason.Successor text form v

pub check_of : (tour : Tour) (log : List Activity) (bytes : List ℕ) (cert : Cert) (v : Verdict) → IsCertText tour.params cert bytes → IsCertForm tour.params cert → IsOnly tour bytes cert → IsVerdictFor tour log cert v → IsCheck tour log bytes v
check_of tour log bytes cert (verdict.Shortest steps) text form only h = (cert, (text, form, h.0), h.1, h.2)
check_of tour log bytes cert verdict.Infeasible text form only h = (cert, (text, form, h.0), h.1)
check_of tour log bytes cert (verdict.Rejected line why) text form only h =
    ((λ other c. h.0 (subst (IsValidFor tour log) (sym (only other c.1 c.0)) c.2)), why_of tour log bytes cert line why text form h)

-- what follows of the certificate that is read follows of the bytes, which are the text of no other
pub follows_of : (tour : Tour) (log : List Activity) (bytes : List ℕ) (cert : Cert) (v : Verdict) → IsOnly tour bytes cert → Proves tour log cert v → Follows tour log bytes v
follows_of tour log bytes cert (verdict.Shortest steps) only p = λ other c. subst (λ k. IsOwnShortest tour log k steps) (only other c.1 c.0) p
follows_of tour log bytes cert verdict.Infeasible only p = p
follows_of tour log bytes cert (verdict.Rejected line why) only p = tt
