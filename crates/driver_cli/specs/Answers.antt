-- What each command answers: which status, for which cause, and with which text.
use Rattle.std.specs.Prelude.{◌≡◌, ◌⊎◌, ℕ, ◌*◌, ◌≤◌, ◌<◌, List, length, Some}
use Rattle.duty_core.specs.declared.activity.Activity.{Activity}
use Rattle.tour_model.specs.declared.schedule.Schedule.{Schedule}
use Rattle.tour_model.specs.declared.tour.Tour.{Tour}
use Rattle.tour_model.specs.Schedule.{log_start, IsSolutionWith, IsShortest, IsInfeasible}
use Rattle.cert_text.specs.declared.cert.Cert.{Cert}
use Rattle.cert_text.specs.declared.cert.CertKind.TheVariants as kind
use Rattle.cert_text.specs.declared.text.limits.TheConstants.{CERT_LIMIT}
use Rattle.cert_text.specs.Cert.{acts_of_runs}
use Rattle.cert_checker.specs.declared.verdict.Reason.{Reason}
use Rattle.cert_checker.specs.declared.verdict.Reason.TheVariants.{TooBig}
use Rattle.cert_checker.specs.Checked.{IsCertificate, IsWhy}
use Rattle.cert_checker.specs.Verdicts.{IsOwnShortest}
use Rattle.log_graph.specs.Graph.{IsGraph}
use Rattle.tour_plan.specs.Planned.{IsLawfulLog, IsSpent}
use Rattle.outside.specs.Outside.{Bytes}
use Rattle.report_text.specs.Report.{IsReport}
use Rattle.driver_cli.specs.declared.answer.Status.{Status}
use Rattle.driver_cli.specs.declared.answer.Status.TheVariants.{Done, Usage, Infeasible, Spent, ReadFault, WriteFault, Rejected}
use Rattle.driver_cli.specs.Given.{GivesCert}
use Rattle.driver_cli.specs.Inputs.{AreGiven, AreRead, AreLawful, InputAnswers, InputsLeave, LawfulAnswers}
use Rattle.driver_cli.specs.Sides.{ReadSide, WriteSide, IsUnread, IsKept, HasPut, IsUnput}
use Rattle.driver_cli.specs.Texts.{usage_text, read_fault_text, write_fault_text, lawful_text, infeasible_text, spent_text, accepted_shortest_text, accepted_infeasible_text, rejected_text}

-- ---- words that are no command

abbrev pub UsageAnswers : Status → Bytes → Type 0
UsageAnswers Usage text = text ≡ usage_text
UsageAnswers status text = ⊥

-- ---- `audit`

-- Done: the log is lawful.
pub record AuditDone (tour_name log_name : Bytes) (r : ReadSide) (text : Bytes) : Type 0 where
  pub tour : Tour
  pub log : List Activity
  pub lawful : AreLawful tour_name log_name r tour log
  pub told : text ≡ lawful_text

abbrev pub AuditAnswers : Bytes → Bytes → ReadSide → Status → Bytes → Type 0
AuditAnswers tour_name log_name r Done text = AuditDone tour_name log_name r text
AuditAnswers tour_name log_name r status text = LawfulAnswers tour_name log_name r status text

-- ---- `graph`

-- Done: both files are read, and the text is the graph of the log, which begins where it begins.
pub record GraphDone (tour_name log_name : Bytes) (r : ReadSide) (text : Bytes) : Type 0 where
  pub tour : Tour
  pub log : List Activity
  pub read : AreRead tour_name log_name r tour log
  pub told : IsGraph tour.params (log_start tour log) log text

-- The log is not judged.
abbrev pub GraphAnswers : Bytes → Bytes → ReadSide → Status → Bytes → Type 0
GraphAnswers tour_name log_name r Done text = GraphDone tour_name log_name r text
GraphAnswers tour_name log_name r status text = InputAnswers tour_name log_name r status text

-- ---- `check`

-- The bytes are a valid certificate of kind shortest; after the log its own schedule is lawful with its marks and a shortest one, and takes as many steps as it says.
pub record IsAcceptedShortest (tour : Tour) (log : List Activity) (bytes text : Bytes) : Type 0 where
  pub cert : Cert
  pub is : IsCertificate tour log bytes cert
  pub kind : cert.kind ≡ kind.Shortest
  pub steps : ℕ
  pub target : cert.target ≡ Some steps
  pub own : IsOwnShortest tour log cert steps
  pub told : text ≡ accepted_shortest_text (steps * tour.grid)

-- The bytes are a valid certificate of kind infeasible, and there is no solution.
pub record IsAcceptedInfeasible (tour : Tour) (log : List Activity) (bytes text : Bytes) : Type 0 where
  pub cert : Cert
  pub is : IsCertificate tour log bytes cert
  pub kind : cert.kind ≡ kind.Infeasible
  pub infeasible : IsInfeasible tour log
  pub told : text ≡ accepted_infeasible_text

-- The bytes are more than a certificate may have.
pub record IsTooLong (bytes text : Bytes) : Type 0 where
  pub long : CERT_LIMIT < length bytes
  pub told : text ≡ rejected_text 0 TooBig

-- The bytes are no valid certificate, and the line and the reason tell why.
pub record IsInvalid (tour : Tour) (log : List Activity) (bytes text : Bytes) : Type 0 where
  pub none : (cert : Cert) → IsCertificate tour log bytes cert → ⊥
  pub line : ℕ
  pub reason : Reason
  pub why : IsWhy tour log bytes line reason
  pub told : text ≡ rejected_text line reason

-- what the bytes of a certificate's file are answered, after a lawful log
abbrev pub BytesAnswers : Tour → List Activity → Bytes → Status → Bytes → Type 0
BytesAnswers tour log bytes Done text = (length bytes ≤ CERT_LIMIT) × (IsAcceptedShortest tour log bytes text ⊎ IsAcceptedInfeasible tour log bytes text)
BytesAnswers tour log bytes Rejected text = IsTooLong bytes text ⊎ IsInvalid tour log bytes text
BytesAnswers tour log bytes status text = ⊥

-- ReadFault: the log is lawful, and the fetch of the certificate's file failed.
pub record CertUnread (tour_name log_name cert_name : Bytes) (r : ReadSide) (text : Bytes) : Type 0 where
  pub tour : Tour
  pub log : List Activity
  pub given : AreGiven tour_name log_name r tour log
  pub lawful : IsLawfulLog tour log
  pub unread : IsUnread r cert_name
  pub told : text ≡ read_fault_text cert_name

-- Done or Rejected: the log is lawful, and the first bytes of the certificate's file are answered.
pub record CertChecked (tour_name log_name cert_name : Bytes) (r : ReadSide) (status : Status) (text : Bytes) : Type 0 where
  pub tour : Tour
  pub log : List Activity
  pub lawful : AreLawful tour_name log_name r tour log
  pub bytes : Bytes
  pub given : GivesCert r.files cert_name bytes
  pub answer : BytesAnswers tour log bytes status text

abbrev pub CheckAnswers : Bytes → Bytes → Bytes → ReadSide → Status → Bytes → Type 0
CheckAnswers tour_name log_name cert_name r Done text = CertChecked tour_name log_name cert_name r Done text
CheckAnswers tour_name log_name cert_name r Rejected text = CertChecked tour_name log_name cert_name r Rejected text
CheckAnswers tour_name log_name cert_name r ReadFault text = LawfulAnswers tour_name log_name r ReadFault text ⊎ CertUnread tour_name log_name cert_name r text
CheckAnswers tour_name log_name cert_name r status text = LawfulAnswers tour_name log_name r status text

-- What `check` leaves where memory runs out: no fetch failed, or that of one of its files did.
abbrev pub CheckLeaves : Bytes → Bytes → Bytes → ReadSide → Type 0
CheckLeaves tour_name log_name cert_name r = InputsLeave tour_name log_name r ⊎ IsUnread r cert_name

-- ---- `plan`

-- The bytes are this certificate, which is valid and no longer than one may be: `check` accepts it.
pub record IsAcceptable (tour : Tour) (log : List Activity) (bytes : Bytes) (cert : Cert) : Type 0 where
  pub is : IsCertificate tour log bytes cert
  pub short : length bytes ≤ CERT_LIMIT

-- The bytes are some certificate that `check` accepts.
abbrev pub IsAccepted : Tour → List Activity → Bytes → Type 0
IsAccepted tour log bytes = (cert : Cert) × IsAcceptable tour log bytes cert

-- the schedule of a certificate, with its marks
abbrev pub schedule_of : Cert → Schedule
schedule_of cert = record { steps = acts_of_runs cert.schedule; marks = cert.marks }

-- The bytes are such a certificate of kind shortest; after the log its schedule is lawful with its marks and a shortest one; and the text reports it.
pub record IsShortestProof (tour : Tour) (log : List Activity) (bytes text : Bytes) : Type 0 where
  pub cert : Cert
  pub acceptable : IsAcceptable tour log bytes cert
  pub kind : cert.kind ≡ kind.Shortest
  pub solves : IsSolutionWith tour log (acts_of_runs cert.schedule) cert.marks
  pub shortest : IsShortest tour log (acts_of_runs cert.schedule)
  pub told : IsReport tour log (schedule_of cert) text

-- The bytes are such a certificate of kind infeasible, and after the log no schedule serves the tour lawfully.
pub record IsInfeasibleProof (tour : Tour) (log : List Activity) (bytes text : Bytes) : Type 0 where
  pub cert : Cert
  pub acceptable : IsAcceptable tour log bytes cert
  pub kind : cert.kind ≡ kind.Infeasible
  pub infeasible : IsInfeasible tour log
  pub told : text ≡ infeasible_text

-- The log is lawful, and the certificate's file holds bytes of which this is so.
pub record HasProof (tour_name log_name cert_name : Bytes) (r : ReadSide) (w : WriteSide) (proves : Tour → List Activity → Bytes → Type 0) : Type 0 where
  pub tour : Tour
  pub log : List Activity
  pub lawful : AreLawful tour_name log_name r tour log
  pub bytes : Bytes
  pub proof : proves tour log bytes
  pub put : HasPut w cert_name bytes

-- Done: the log is lawful, the certificate's file holds a proof of a shortest schedule, and the text reports that schedule.
abbrev pub PlanDone : Bytes → Bytes → Bytes → ReadSide → WriteSide → Bytes → Type 0
PlanDone tour_name log_name cert_name r w text = HasProof tour_name log_name cert_name r w (λ tour log bytes. IsShortestProof tour log bytes text)

-- Infeasible: the log is lawful, after it there is no solution, and the certificate's file holds a proof of that.
abbrev pub PlanInfeasible : Bytes → Bytes → Bytes → ReadSide → WriteSide → Bytes → Type 0
PlanInfeasible tour_name log_name cert_name r w text = HasProof tour_name log_name cert_name r w (λ tour log bytes. IsInfeasibleProof tour log bytes text)

-- Spent: the log is lawful, and after it the search kept as many labels as the budget allows.
pub record PlanSpent (tour_name log_name : Bytes) (budget : ℕ) (r : ReadSide) (text : Bytes) : Type 0 where
  pub tour : Tour
  pub log : List Activity
  pub lawful : AreLawful tour_name log_name r tour log
  pub spent : IsSpent tour log budget
  pub told : text ≡ spent_text budget

-- WriteFault: the log is lawful, and the put of the certificate failed.
pub record PlanUnput (tour_name log_name cert_name : Bytes) (r : ReadSide) (w : WriteSide) (text : Bytes) : Type 0 where
  pub tour : Tour
  pub log : List Activity
  pub lawful : AreLawful tour_name log_name r tour log
  pub unput : IsUnput w cert_name
  pub told : text ≡ write_fault_text cert_name

-- An answer but the first three leaves the desk's files as they were.
abbrev pub PlanAnswers : Bytes → Bytes → Bytes → ℕ → ReadSide → WriteSide → Status → Bytes → Type 0
PlanAnswers tour_name log_name cert_name budget r w Done text = PlanDone tour_name log_name cert_name r w text
PlanAnswers tour_name log_name cert_name budget r w Infeasible text = PlanInfeasible tour_name log_name cert_name r w text
PlanAnswers tour_name log_name cert_name budget r w WriteFault text = PlanUnput tour_name log_name cert_name r w text
PlanAnswers tour_name log_name cert_name budget r w Spent text = IsKept w × PlanSpent tour_name log_name budget r text
PlanAnswers tour_name log_name cert_name budget r w status text = IsKept w × LawfulAnswers tour_name log_name r status text

-- The log is lawful, and the certificate's file holds a certificate that `check` accepts.
abbrev pub CertIsPut : Bytes → Bytes → Bytes → ReadSide → WriteSide → Type 0
CertIsPut tour_name log_name cert_name r w = HasProof tour_name log_name cert_name r w IsAccepted

-- What `plan` leaves where memory runs out: no fetch failed, or that of one of its files did; and all files are as they were, or such a certificate is put, or its put failed.
abbrev pub PlanLeaves : Bytes → Bytes → Bytes → ReadSide → WriteSide → Type 0
PlanLeaves tour_name log_name cert_name r w =
    InputsLeave tour_name log_name r × (IsKept w ⊎ (CertIsPut tour_name log_name cert_name r w ⊎ IsUnput w cert_name))
