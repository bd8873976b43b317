-- From the parts of a check to its verdict.
use Rattle.std.proofs.Common.{◌≡◌, ℕ, ◌*◌, ◌≤◌, true, List, [], length, refl, sym, ◌∙◌, ap, subst, inl}
use Rattle.std.specs.Prelude.{Option, None, Some}
use Rattle.duty_core.specs.declared.activity.Activity.{Activity}
use Rattle.duty_core.specs.declared.limits.TheConstants.{LONGEST_LOG}
use Rattle.duty_core.specs.Params.{unit_minutes, allows}
use Rattle.rule_core.specs.declared.roots.Root.{Root}
use Rattle.rule_core.specs.Machine.{Machine}
use Rattle.rule_core.specs.Book.{IsBook}
use Rattle.rule_core.specs.Reach.{IsOneOf}
use Rattle.rule_core.specs.Replay.{AreRootsOf, AreRootStates}
use Rattle.tour_model.specs.declared.label.Label.{Label}
use Rattle.tour_model.specs.declared.tour.Tour.{Tour}
use Rattle.tour_model.specs.Tour.{IsTour}
use Rattle.tour_model.specs.Schedule.{duration, log_start}
use Rattle.cert_text.specs.declared.cert.Cert.{Cert}
use Rattle.cert_text.specs.declared.cert.CertKind.{CertKind}
use Rattle.cert_text.specs.declared.cert.CertKind.TheVariants.{Shortest, Infeasible}
use Rattle.cert_text.specs.CoverLists.Problem.{Problem, root_label, is_better}
use Rattle.cert_text.specs.CoverLists.Planning.{problem_by, problem_of, state_at, minute_of, IsLogState}
use Rattle.cert_text.specs.CoverLists.Laws.ProblemOf.{problem_laws}
use Rattle.cert_text.specs.CoverLists.Laws.BetterLaws.{better_from, better_on}
use Rattle.cert_text.specs.CoverLists.Laws.SolutionLaws.{log_ends, log_state, valid_shortest_by, valid_infeasible_by}
use Rattle.cert_text.specs.CoverLists.Bound.{ObeysBound}
use Rattle.cert_text.specs.Cert.{acts_of_runs, IsClaim, IsValidCertBy}
use Rattle.cert_checker.specs.declared.verdict.Reason.{Reason}
use Rattle.cert_checker.specs.declared.verdict.Reason.TheVariants as reason
use Rattle.cert_checker.specs.declared.verdict.Rejection.{Rejection}
use Rattle.cert_checker.specs.declared.verdict.Verdict.{Verdict}
use Rattle.cert_checker.specs.declared.verdict.Verdict.TheVariants as verdict
use Rattle.cert_checker.specs.Conditions.{Passes, FailsBy, IsFirstLabel}
use Rattle.cert_checker.specs.Rooted.{AreRooted}
use Rattle.cert_checker.specs.Verdicts.{IsSmallCert, StepsHold, StepsFail, ClaimHolds, IsStarted, IsVerdictBy, Proves, verdict_of}
use Rattle.cert_checker.proofs.ValidLaws.{valid_passes}

-- ---- the roots

pub root_states : {S : Type 0} (tour : Tour) (log : List Activity) (m : Machine S) → IsBook tour.params m → IsTour tour → unit_minutes tour.params * length log ≤ LONGEST_LOG →
    (roots : List (Root S)) → AreRootsOf (unit_minutes tour.params) m (log_start tour log) log roots → AreRootStates m (minute_of tour 0) roots
root_states tour log m law t l roots r one o =
    log_state tour log m law t l one.state (one.marks, r.reached one o)

pub rooted_started : {S : Type 0} (tour : Tour) (log : List Activity) (m : Machine S) → IsBook tour.params m → IsTour tour → unit_minutes tour.params * length log ≤ LONGEST_LOG →
    (roots : List (Root S)) → AreRootsOf (unit_minutes tour.params) m (log_start tour log) log roots →
    (layer : List (Label S)) → ((x : Label S) → IsOneOf layer x → m.is_state x.state (minute_of tour 0)) →
    AreRooted (problem_of tour m) layer roots → IsStarted (problem_of tour m) (IsLogState tour log m) layer
rooted_started tour log m law t l roots r layer states h s o =
    let problem = problem_of tour m in
    let q = r.all s o.0 o.1 in
    let c = h q.0 q.1 in
    let cov : m.covers q.0.state s (minute_of tour 0) ≡ true = subst (λ n. m.covers q.0.state s n ≡ true) (log_ends tour t log l) q.2 in
    let mid : is_better problem 0 (root_label q.0.state) (root_label s) ≡ true = better_from problem 0 (root_label q.0.state) (root_label s) (record { depart = refl; progress = inl refl; state = cov }) in (
      c.0,
      c.1,
      better_on problem (state_at tour m) (allows tour.params) (problem_laws tour m law t) 0 c.0 (root_label q.0.state) (root_label s)
          (states c.0 c.1) (log_state tour log m law t l q.0.state (q.0.marks, r.reached q.0 q.1)) (log_state tour log m law t l s o) refl c.2 mid,
    )

pub started_rooted : {S : Type 0} (tour : Tour) (log : List Activity) (m : Machine S) (roots : List (Root S)) →
    AreRootsOf (unit_minutes tour.params) m (log_start tour log) log roots → (layer : List (Label S)) → IsStarted (problem_of tour m) (IsLogState tour log m) layer → AreRooted (problem_of tour m) layer roots
started_rooted tour log m roots r layer h one o = h one.state (one.marks, r.reached one o)

-- ---- the claim

pub claim_of_steps : (tour : Tour) (log : List Activity) (cert : Cert) → cert.kind ≡ Shortest → StepsHold tour log cert (acts_of_runs cert.schedule) → ClaimHolds tour log cert
claim_of_steps tour log cert k h = subst (λ kind. IsClaim tour log kind cert.target (acts_of_runs cert.schedule) cert.marks) (sym k) (record { serves = h.0; lawful = h.2 }, h.1)

pub claim_of_none : (tour : Tour) (log : List Activity) (cert : Cert) → cert.kind ≡ Infeasible → (cert.target ≡ None) × (cert.schedule ≡ []) × (cert.marks ≡ []) → ClaimHolds tour log cert
claim_of_none tour log cert k h = subst (λ kind. IsClaim tour log kind cert.target (acts_of_runs cert.schedule) cert.marks) (sym k) (h.0, ap acts_of_runs h.1, h.2)

steps_of_claim : (tour : Tour) (log : List Activity) (cert : Cert) → cert.kind ≡ Shortest → ClaimHolds tour log cert → StepsHold tour log cert (acts_of_runs cert.schedule)
steps_of_claim tour log cert k h = let c = subst (λ kind. IsClaim tour log kind cert.target (acts_of_runs cert.schedule) cert.marks) k h in (c.0.serves, c.1, c.0.lawful)

steps_fail : (tour : Tour) (log : List Activity) (cert : Cert) (xs : List Activity) (r : Reason) → StepsFail tour log cert xs r → StepsHold tour log cert xs → ⊥
steps_fail tour log cert xs reason.Serves f h = f h.0
steps_fail tour log cert xs reason.Length f h = f.1 h.1
steps_fail tour log cert xs reason.Lawful f h = f.2 h.2
steps_fail tour log cert xs reason.TooBig f h = f
steps_fail tour log cert xs reason.Grammar f h = f
steps_fail tour log cert xs reason.Root f h = f
steps_fail tour log cert xs reason.State f h = f
steps_fail tour log cert xs reason.Finished f h = f
steps_fail tour log cert xs reason.Repeated f h = f
steps_fail tour log cert xs reason.Successor f h = f

pub claim_fails : {S : Type 0} (tour : Tour) (log : List Activity) (m : Machine S) (bound : ℕ → ℕ → S → Option ℕ) (cert : Cert) (r : Reason) →
    cert.kind ≡ Shortest → StepsFail tour log cert (acts_of_runs cert.schedule) r → IsValidCertBy tour log m bound cert → ⊥
claim_fails tour log m bound cert r k f v = steps_fail tour log cert (acts_of_runs cert.schedule) r f (steps_of_claim tour log cert k v.claim)

-- ---- the labels

fails_passes : {S : Type 0} (problem : Problem S) (is_state : S → ℕ → Type 0) (target : Option ℕ) (step : ℕ) (earlier next : List (Label S)) (o : Option (Label S)) (r : Reason) →
    FailsBy problem is_state target step earlier next o r → Passes problem is_state target step earlier next o → ⊥
fails_passes problem is_state target step earlier next None r f p = p
fails_passes problem is_state target step earlier next (Some l) reason.State f p = f p.0
fails_passes problem is_state target step earlier next (Some l) reason.Finished f p = f.1 p.1
fails_passes problem is_state target step earlier next (Some l) reason.Repeated f p = f.2 p.2
fails_passes problem is_state target step earlier next (Some l) reason.Successor f p = f.3 p.3
fails_passes problem is_state target step earlier next (Some l) reason.TooBig f p = f
fails_passes problem is_state target step earlier next (Some l) reason.Grammar f p = f
fails_passes problem is_state target step earlier next (Some l) reason.Serves f p = f
fails_passes problem is_state target step earlier next (Some l) reason.Length f p = f
fails_passes problem is_state target step earlier next (Some l) reason.Lawful f p = f
fails_passes problem is_state target step earlier next (Some l) reason.Root f p = f

pub label_fails : {S : Type 0} (tour : Tour) (log : List Activity) (m : Machine S) (bound : ℕ → ℕ → S → Option ℕ) (cert : Cert) (first : ℕ) (r : Rejection) →
    IsFirstLabel (problem_by tour m bound) (state_at tour m) m.state_of tour cert.target cert.layers first r → IsValidCertBy tour log m bound cert → ⊥
label_fails tour log m bound cert first r f v =
    fails_passes (problem_by tour m bound) (state_at tour m) cert.target f.step _ _ _ f.fault.reason f.here.fails (valid_passes tour log m bound cert v f.step f.fault.index f.here.within)

-- ---- the verdict

shortest_kind : (cert : Cert) (k : CertKind) (n : ℕ) → cert.kind ≡ k → cert.target ≡ Some n → (cert.kind ≡ Infeasible → (cert.target ≡ None) × (cert.schedule ≡ []) × (cert.marks ≡ [])) → cert.kind ≡ Shortest
shortest_kind cert Shortest n e t h = e
shortest_kind cert Infeasible n e t h = absurd (let f : None ≡ Some n = sym (h e).0 ∙ t in cc)

infeasible_kind : (tour : Tour) (log : List Activity) (cert : Cert) (k : CertKind) → cert.kind ≡ k → cert.target ≡ None → ClaimHolds tour log cert → cert.kind ≡ Infeasible
infeasible_kind tour log cert Infeasible e t h = e
infeasible_kind tour log cert Shortest e t h = absurd (let q = (steps_of_claim tour log cert e h).1 in let f : None ≡ Some _ = sym t ∙ q in cc)

pub accepted_is : {S : Type 0} (tour : Tour) (log : List Activity) (m : Machine S) (bound : ℕ → ℕ → S → Option ℕ) (cert : Cert) (o : Option ℕ) → cert.target ≡ o → IsSmallCert cert →
    IsValidCertBy tour log m bound cert → IsVerdictBy tour log m bound cert (verdict_of o)
accepted_is tour log m bound cert None t s v = (v, infeasible_kind tour log cert cert.kind refl t v.claim)
accepted_is tour log m bound cert (Some n) t s v = (v, shortest_kind cert cert.kind n refl t s.none, t)

-- what a verdict proves
pub verdict_proves : {S : Type 0} (tour : Tour) (log : List Activity) (m : Machine S) (bound : ℕ → ℕ → S → Option ℕ) → IsBook tour.params m → IsTour tour → ObeysBound tour m bound → unit_minutes tour.params * length log ≤ LONGEST_LOG → (cert : Cert) (v : Verdict) →
    IsVerdictBy tour log m bound cert v → Proves tour log cert v
verdict_proves tour log m bound law t obeys l cert (verdict.Shortest steps) h =
    let claim = steps_of_claim tour log cert h.1 h.0.claim in
    record {
      solves = record { serves = claim.0; lawful = claim.2 };
      shortest = valid_shortest_by tour log m bound law t obeys l cert h.0 h.1;
      takes = (let e : Some (duration (acts_of_runs cert.schedule)) ≡ Some steps = sym claim.1 ∙ h.2 in cc);
    }
verdict_proves tour log m bound law t obeys l cert verdict.Infeasible h = valid_infeasible_by tour log m bound law t obeys l cert h.0 h.1
verdict_proves tour log m bound law t obeys l cert (verdict.Rejected line reason) h = tt
