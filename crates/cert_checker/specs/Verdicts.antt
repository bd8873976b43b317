-- What a check finds, by the definitions.
use Rattle.std.specs.Prelude.{◌≡◌, ℕ, ◌+◌, ◌<◌, List, [], ◌∷◌, Option, None, Some, ◌⊎◌, length}
use Rattle.duty_core.specs.declared.activity.Activity.{Activity}
use Rattle.duty_core.specs.Lawful.{IsLawfulWith}
use Rattle.rule_core.specs.Machine.{Machine}
use Rattle.tour_model.specs.declared.label.Label.{Label}
use Rattle.tour_model.specs.declared.tour.Tour.{Tour}
use Rattle.tour_model.specs.declared.limits.TheConstants.{STEP_LIMIT}
use Rattle.tour_model.specs.Layer.{layer_at}
use Rattle.tour_model.specs.Word.{word_length}
use Rattle.tour_model.specs.Schedule.{duration, history_of, log_start, ServesTour, IsSolutionWith, IsShortest, IsInfeasible}
use Rattle.cert_text.specs.declared.cert.Cert.{Cert}
use Rattle.cert_text.specs.declared.cert.CertKind.TheVariants.{Shortest, Infeasible}
use Rattle.cert_text.specs.declared.cert.CertLabel.{CertLabel}
use Rattle.cert_text.specs.CoverLists.Problem.{Problem, root_label}
use Rattle.cert_text.specs.CoverLists.Planning.{problem_by, problem_of, eta_bound, state_at, IsLogState}
use Rattle.cert_text.specs.CoverLists.Cover.{IsCovered}
use Rattle.cert_text.specs.Cert.{acts_of_runs, IsClaim, IsValidCertBy}
use Rattle.cert_checker.specs.declared.verdict.Reason.{Reason}
use Rattle.cert_checker.specs.declared.verdict.Reason.TheVariants as reason
use Rattle.cert_checker.specs.declared.verdict.Rejection.{Rejection}
use Rattle.cert_checker.specs.declared.verdict.TheConstants.{SCHEDULE_LINE}
use Rattle.cert_checker.specs.declared.verdict.Verdict.{Verdict}
use Rattle.cert_checker.specs.declared.verdict.Verdict.TheVariants as verdict
use Rattle.cert_checker.specs.Parsed.{there}
use Rattle.cert_checker.specs.Conditions.{layer_of, IsFirstLabel}

-- What a certificate that is read from a text keeps: one that there is no solution has no target, no run and no mark, and nothing has 1,000,000 parts.
pub record IsSmallCert (cert : Cert) : Type 0 where
  pub none : cert.kind ≡ Infeasible → (cert.target ≡ None) × (cert.schedule ≡ []) × (cert.marks ≡ [])
  pub runs : length cert.schedule < STEP_LIMIT
  pub marks : length cert.marks < STEP_LIMIT
  pub layers : length cert.layers < STEP_LIMIT
  pub labels : (step : ℕ) → length (layer_at cert.layers step) < STEP_LIMIT

-- # The lines

-- that of the number of marks, after a line for each run
abbrev pub marks_line : Cert → ℕ
marks_line cert = SCHEDULE_LINE + length cert.schedule + 1

-- that of the number of layers, after a line for each mark
abbrev pub layers_line : Cert → ℕ
layers_line cert = marks_line cert + length cert.marks + 1

-- that of layer 0
abbrev pub first_line : Cert → ℕ
first_line cert = layers_line cert + 1

-- that of layer 0, or of the number of layers where there is none
abbrev pub root_line : Cert → List (List CertLabel) → ℕ
root_line cert [] = layers_line cert
root_line cert (layer ∷ more) = first_line cert

-- # The conditions

-- The steps serve the tour, take as long as the target, and are lawful after the log with the certificate's marks.
abbrev pub StepsHold : Tour → List Activity → Cert → List Activity → Type 0
StepsHold tour log cert xs = ServesTour tour xs × (cert.target ≡ Some (duration xs)) × IsLawfulWith tour.params (log_start tour log) (history_of tour log xs) cert.marks

-- The condition of this reason on the steps fails, and those before it hold.
abbrev pub StepsFail : Tour → List Activity → Cert → List Activity → Reason → Type 0
StepsFail tour log cert xs reason.Serves = ServesTour tour xs → ⊥
StepsFail tour log cert xs reason.Length = ServesTour tour xs × (cert.target ≡ Some (duration xs) → ⊥)
StepsFail tour log cert xs reason.Lawful = ServesTour tour xs × (cert.target ≡ Some (duration xs)) × (IsLawfulWith tour.params (log_start tour log) (history_of tour log xs) cert.marks → ⊥)
StepsFail tour log cert xs other = ⊥

-- the line of a condition on the claim
abbrev pub claim_line : Cert → Reason → ℕ
claim_line cert reason.Lawful = marks_line cert
claim_line cert other = SCHEDULE_LINE

-- The condition of this reason on the claim fails, and those before it hold.
abbrev pub ClaimFails : Tour → List Activity → Cert → Rejection → Type 0
ClaimFails tour log cert r = (cert.kind ≡ Shortest) × StepsFail tour log cert (acts_of_runs cert.schedule) r.reason × (r.line ≡ claim_line cert r.reason)

-- The claim holds.
abbrev pub ClaimHolds : Tour → List Activity → Cert → Type 0
ClaimHolds tour log cert = IsClaim tour log cert.kind cert.target (acts_of_runs cert.schedule) cert.marks

-- Each state in which the driver may start is covered by a label of this layer that has not departed and has done nothing.
abbrev pub IsStarted : {S : Type 0} → Problem S → (S → Type 0) → List (Label S) → Type 0
IsStarted {S} problem starts layer = (s : S) → starts s → IsCovered problem 0 layer (root_label s)

-- The same of layer 0 of a certificate.
abbrev pub RootsHold : {S : Type 0} → Tour → List Activity → Machine S → Cert → Type 0
RootsHold tour log m cert = IsStarted (problem_of tour m) (IsLogState tour log m) (there (layer_of m.state_of tour (word_length tour) cert.layers 0))

-- This is the first condition that fails, in the order of the lines, and on one line in that of the reasons: of the claim, of the roots, of a label.
abbrev pub IsFirstFailureBy : {S : Type 0} → Tour → List Activity → Machine S → (ℕ → ℕ → S → Option ℕ) → Cert → Rejection → Type 0
IsFirstFailureBy tour log m bound cert r =
    ClaimFails tour log cert r
    ⊎ (ClaimHolds tour log cert × ((r.reason ≡ reason.Root) × (r.line ≡ root_line cert cert.layers) × (RootsHold tour log m cert → ⊥)
    ⊎ (RootsHold tour log m cert × IsFirstLabel (problem_by tour m bound) (state_at tour m) m.state_of tour cert.target cert.layers (first_line cert) r)))

-- The same by the earliest end with no rules.
abbrev pub IsFirstFailure : {S : Type 0} → Tour → List Activity → Machine S → Cert → Rejection → Type 0
IsFirstFailure tour log m cert r = IsFirstFailureBy tour log m (eta_bound tour) cert r

-- What a verdict says of a certificate, by a book and a bound on labels.
abbrev pub IsVerdictBy : {S : Type 0} → Tour → List Activity → Machine S → (ℕ → ℕ → S → Option ℕ) → Cert → Verdict → Type 0
IsVerdictBy tour log m bound cert (verdict.Shortest steps) = IsValidCertBy tour log m bound cert × (cert.kind ≡ Shortest) × (cert.target ≡ Some steps)
IsVerdictBy tour log m bound cert verdict.Infeasible = IsValidCertBy tour log m bound cert × (cert.kind ≡ Infeasible)
IsVerdictBy tour log m bound cert (verdict.Rejected line reason) = (IsValidCertBy tour log m bound cert → ⊥) × IsFirstFailureBy tour log m bound cert (record { line = line; reason = reason })

-- The same by the earliest end with no rules.
abbrev pub IsVerdict : {S : Type 0} → Tour → List Activity → Machine S → Cert → Verdict → Type 0
IsVerdict tour log m cert v = IsVerdictBy tour log m (eta_bound tour) cert v

-- The certificate's own schedule is a solution with its own marks, than which none is shorter, and it takes so many steps.
pub record IsOwnShortest (tour : Tour) (log : List Activity) (cert : Cert) (steps : ℕ) : Type 0 where
  pub solves : IsSolutionWith tour log (acts_of_runs cert.schedule) cert.marks
  pub shortest : IsShortest tour log (acts_of_runs cert.schedule)
  pub takes : duration (acts_of_runs cert.schedule) ≡ steps

-- What follows from a verdict on a certificate: its own schedule is a shortest one, or there is no solution.
abbrev pub Proves : Tour → List Activity → Cert → Verdict → Type 0
Proves tour log cert (verdict.Shortest steps) = IsOwnShortest tour log cert steps
Proves tour log cert verdict.Infeasible = IsInfeasible tour log
Proves tour log cert (verdict.Rejected line reason) = Unit {0}

-- the verdict on a valid certificate of this target
abbrev pub verdict_of : Option ℕ → Verdict
verdict_of None = verdict.Infeasible
verdict_of (Some steps) = verdict.Shortest steps
