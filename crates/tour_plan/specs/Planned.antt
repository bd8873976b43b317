-- What planning a tour after a log gives.
use Rattle.std.specs.Prelude.{◌≡◌, ℕ, ◌≤◌, List, length}
use Rattle.duty_core.specs.declared.activity.Activity.{Activity}
use Rattle.duty_core.specs.Lawful.{IsLawful}
use Rattle.rule_core.specs.declared.roots.Root.{Root}
use Rattle.rule_core.specs.Machine.{Machine}
use Rattle.rule_core.specs.Reach.{IsOneOf}
use Rattle.rule_core.specs.Replay.{IsFirstUnlawful}
use Rattle.tour_model.specs.declared.schedule.Schedule.{Schedule}
use Rattle.tour_model.specs.declared.tour.Tour.{Tour}
use Rattle.tour_model.specs.Schedule.{IsSolutionWith, IsShortest, IsInfeasible, log_start}
use Rattle.cert_text.specs.declared.cert.Cert.{Cert}
use Rattle.cert_text.specs.declared.cert.CertKind.{CertKind}
use Rattle.cert_text.specs.declared.cert.CertKind.TheVariants as kind
use Rattle.cert_text.specs.declared.text.limits.TheConstants.{CERT_LIMIT}
use Rattle.cert_text.specs.Cert.{acts_of_runs, IsValidCert}
use Rattle.cert_text.specs.Text.Form.{IsCertForm}
use Rattle.cert_text.specs.CoverLists.Problem.{Problem}
use Rattle.cert_text.specs.CoverLists.Planning.{problem_of, IsLogState}
use Rattle.cert_text.specs.Text.Spelling.{IsCertText}
use Rattle.label_state.specs.declared.kept.Kept.{Kept}
use Rattle.label_state.specs.Layers.{label_count}
use Rattle.cert_text.specs.declared.text.limits.TheConstants.{MOST_LABELS}
use Rattle.label_search.specs.Sound.{IsSound, IsWorked, HasLabels}
use Rattle.label_search.specs.Searched.{HasSolution}
use Rattle.rule_books.specs.Books.{book_for}
use Rattle.cert_checker.specs.Checked.{IsValidFor}
use Rattle.tour_plan.specs.declared.planned.Planned.{Planned}
use Rattle.tour_plan.specs.declared.planned.Planned.TheVariants.{Shortest, Infeasible, Spent, Unlawful}

-- A search may be given this budget of labels.
pub record IsBudget (budget : ℕ) : Type 0 where
  pub some : 1 ≤ budget
  pub most : budget ≤ MOST_LABELS

-- The log is lawful.
abbrev pub IsLawfulLog : Tour → List Activity → Type 0
IsLawfulLog tour log = IsLawful tour.params (log_start tour log) log

-- ---- what the bytes of a certificate are

-- The bytes are the text of this certificate, which is valid and of this kind, and they are no more than a certificate may have.
-- `valid` tells which certificates are valid.
pub record IsProof (valid : Cert → Type 0) (tour : Tour) (claims : CertKind) (bytes : List ℕ) (cert : Cert) : Type 0 where
  pub is : IsCertText tour.params cert bytes × IsCertForm tour.params cert × valid cert
  pub kind : cert.kind ≡ claims
  pub short : length bytes ≤ CERT_LIMIT

-- After a lawful log the schedule is a shortest one, lawful with its marks, and the certificate is of this very schedule and of these marks.
pub record IsShortestPlan (valid : Cert → Type 0) (tour : Tour) (log : List Activity) (schedule : Schedule) (bytes : List ℕ) : Type 0 where
  pub lawful : IsLawfulLog tour log
  pub solves : IsSolutionWith tour log schedule.steps schedule.marks
  pub shortest : IsShortest tour log schedule.steps
  pub cert : Cert
  pub proof : IsProof valid tour kind.Shortest bytes cert
  pub steps : acts_of_runs cert.schedule ≡ schedule.steps
  pub marks : cert.marks ≡ schedule.marks

-- After a lawful log there is no solution, and the certificate says so.
pub record IsInfeasiblePlan (valid : Cert → Type 0) (tour : Tour) (log : List Activity) (bytes : List ℕ) : Type 0 where
  pub lawful : IsLawfulLog tour log
  pub infeasible : IsInfeasible tour log
  pub cert : Cert
  pub proof : IsProof valid tour kind.Infeasible bytes cert

-- ---- where the budget is spent

-- Layers that are sound and worked hold as many labels as the budget, and there are at least as many labels.
pub record IsSpentBy {S : Type 0} (tour : Tour) (log : List Activity) (problem : Problem S) (starts : S → Type 0) (budget : ℕ) : Type 0 where
  pub roots : List (Root S)
  pub reached : (root : Root S) → IsOneOf roots root → starts root.state
  pub layers : List (List (Kept S))
  pub sound : IsSound problem roots layers
  pub worked : IsWorked problem starts (HasSolution tour log) layers
  pub full : label_count layers ≡ budget
  pub many : HasLabels problem starts budget

-- Over all steps, at least as many labels as the budget are reachable by the tour's book, and can still be finished unless they are of the start.
abbrev pub HasAsMany : Tour → List Activity → ℕ → Type 0
HasAsMany tour log budget = HasLabels (problem_of tour (book_for tour.params)) (IsLogState tour log (book_for tour.params)) budget

-- The search by the tour's book is spent with this budget.
abbrev pub IsSpent : Tour → List Activity → ℕ → Type 0
IsSpent tour log budget = IsSpentBy tour log (problem_of tour (book_for tour.params)) (IsLogState tour log (book_for tour.params)) budget

-- ---- what planning gives

-- what planning gives, where `valid` tells which certificates are valid, and `spent` that the budget is spent
abbrev pub IsPlannedAs : (Cert → Type 0) → Type 0 → Tour → List Activity → Planned → Type 0
IsPlannedAs valid spent tour log (Shortest schedule cert) = IsShortestPlan valid tour log schedule cert.items
IsPlannedAs valid spent tour log (Infeasible cert) = IsInfeasiblePlan valid tour log cert.items
IsPlannedAs valid spent tour log Spent = IsLawfulLog tour log × spent
IsPlannedAs valid spent tour log (Unlawful unit) = IsFirstUnlawful tour.params (log_start tour log) log unit

-- what planning by a book gives
abbrev pub IsPlannedBy : {S : Type 0} → Tour → List Activity → Machine S → ℕ → Planned → Type 0
IsPlannedBy tour log m budget planned = IsPlannedAs (λ cert. IsValidCert tour log m cert) (IsSpentBy tour log (problem_of tour m) (IsLogState tour log m) budget) tour log planned

-- What planning the tour after the log with this budget of labels gives, by the rule book of the tour's parameters.
abbrev pub IsPlanned : Tour → List Activity → ℕ → Planned → Type 0
IsPlanned tour log budget planned = IsPlannedAs (IsValidFor tour log) (IsSpent tour log budget) tour log planned
