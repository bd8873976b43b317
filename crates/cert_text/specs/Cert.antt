-- Valid certificates.
use Rattle.std.specs.Prelude.{◌≡◌, ℕ, ◌+◌, List, [], ◌∷◌, Option, None, Some, flat_map, replicate}
use Rattle.duty_core.specs.declared.activity.Activity.{Activity}
use Rattle.duty_core.specs.declared.mark.Mark.{Mark}
use Rattle.rule_core.specs.Machine.{Machine}
use Rattle.tour_model.specs.declared.label.Label.{Label}
use Rattle.tour_model.specs.declared.tour.Tour.{Tour}
use Rattle.tour_model.specs.Schedule.{duration, IsSolutionWith}
use Rattle.cert_text.specs.declared.cert.Cert.{Cert}
use Rattle.cert_text.specs.declared.cert.CertKind.{CertKind}
use Rattle.cert_text.specs.declared.cert.CertKind.TheVariants.{Shortest, Infeasible}
use Rattle.cert_text.specs.declared.cert.CertLabel.{CertLabel}
use Rattle.cert_text.specs.declared.cert.StepRun.{StepRun}
use Rattle.cert_text.specs.CoverLists.Planning.{minute_of, state_at, problem_by, eta_bound, IsLogState}
use Rattle.cert_text.specs.CoverLists.Cover.{IsCoverList}

-- the activities of run lines, one for each step
abbrev pub acts_of_runs : List StepRun → List Activity
acts_of_runs runs = flat_map (λ r. replicate r.count r.act) runs

-- The label's numbers are those of its state at this minute.
pub record IsLabelOf {S : Type 0} (state_of : List ℕ → ℕ → Option S) (at : ℕ) (c : CertLabel) (l : Label S) : Type 0 where
  pub depart : l.depart ≡ c.depart
  pub progress : l.progress ≡ c.progress
  pub state : state_of c.numbers at ≡ Some l.state

-- The labels of a layer stand for these, one by one.
abbrev pub AreLabelsOf : {S : Type 0} → (List ℕ → ℕ → Option S) → ℕ → List CertLabel → List (Label S) → Type 0
AreLabelsOf state_of at [] ls = ls ≡ []
AreLabelsOf {S} state_of at (c ∷ cs) ls = (l : Label S) × (rest : List (Label S)) × (ls ≡ l ∷ rest) × IsLabelOf state_of at c l × AreLabelsOf state_of at cs rest

-- The layers, the first of which is that of this step, stand for these, one by one.
abbrev pub AreLayersOf : {S : Type 0} → (List ℕ → ℕ → Option S) → Tour → ℕ → List (List CertLabel) → List (List (Label S)) → Type 0
AreLayersOf state_of tour step [] layers = layers ≡ []
AreLayersOf {S} state_of tour step (cs ∷ more) layers =
    (layer : List (Label S)) × (rest : List (List (Label S))) × (layers ≡ layer ∷ rest) × AreLabelsOf state_of (minute_of tour step) cs layer × AreLayersOf state_of tour (step + 1) more rest

-- A certificate of kind shortest holds a solution with its marks, whose duration is the target; one of kind infeasible holds none, and has no target.
abbrev pub IsClaim : Tour → List Activity → CertKind → Option ℕ → List Activity → List Mark → Type 0
IsClaim tour log Shortest target schedule marks = IsSolutionWith tour log schedule marks × (target ≡ Some (duration schedule))
IsClaim tour log Infeasible target schedule marks = (target ≡ None) × (schedule ≡ []) × (marks ≡ [])

-- A valid certificate of a tour after a log, by a book and a bound on labels: it holds what its kind claims, and its layers stand for a cover list for its target.
pub record IsValidCertBy {S : Type 0} (tour : Tour) (log : List Activity) (m : Machine S) (bound : ℕ → ℕ → S → Option ℕ) (cert : Cert) : Type 0 where
  pub claim : IsClaim tour log cert.kind cert.target (acts_of_runs cert.schedule) cert.marks
  pub layers : List (List (Label S))
  pub listed : AreLayersOf m.state_of tour 0 cert.layers layers
  pub covers : IsCoverList (problem_by tour m bound) (state_at tour m) (IsLogState tour log m) cert.target layers

-- The same by the earliest end with no rules.
abbrev pub IsValidCert : {S : Type 0} → Tour → List Activity → Machine S → Cert → Type 0
IsValidCert tour log m cert = IsValidCertBy tour log m (eta_bound tour) cert
