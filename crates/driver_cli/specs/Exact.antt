-- Which answers may come where, and no other, over a desk that tells its files.
use Rattle.std.specs.Prelude.{◌≡◌, ℕ, List, [], ◌∷◌, None, Some, Ok, Err, Result}
use Rattle.std.specs.FinMap.{get}
use Rattle.duty_core.specs.declared.activity.Activity.{Activity}
use Rattle.rule_core.specs.Reach.{IsOneOf}
use Rattle.outside.specs.Outside.{Bytes, Files, Rose}
use Rattle.tour_model.specs.declared.tour.Tour.{Tour}
use Rattle.tour_model.specs.Schedule.{IsSolution, IsInfeasible}
use Rattle.tour_reader.specs.declared.fault.TourFault.{TourFault}
use Rattle.duty_log.specs.declared.fault.LogFault.{LogFault}
use Rattle.tour_plan.specs.Planned.{IsLawfulLog, HasAsMany}
use Rattle.driver_cli.specs.declared.answer.Status.{Status}
use Rattle.driver_cli.specs.declared.answer.Status.TheVariants.{Done, Refused, Infeasible, LogUnlawful, Spent, ReadFault, WriteFault, Memory, Rejected}
use Rattle.driver_cli.specs.Answers.{IsAccepted}
use Rattle.driver_cli.specs.Given.{GivesTour, GivesLog, GivesCert}
use Rattle.driver_cli.specs.Sides.{ReadSide, WriteSide, SinkSide}

-- ---- what the files hold

-- The tour's file is there, and its first 1,000,001 bytes read as this.
abbrev pub HasTour : Files → Bytes → Result Tour TourFault → Type 0
HasTour files tour_name answer = GivesTour (Some files) tour_name answer

-- It reads as this tour, the log's file is there too, and its first 4,000,001 bytes read as this.
pub record HasLog (files : Files) (tour_name log_name : Bytes) (tour : Tour) (answer : Result (List Activity) LogFault) : Type 0 where
  pub tour_there : HasTour files tour_name (Ok tour)
  pub log_there : GivesLog (Some files) log_name tour answer

-- Both are there, and the log is lawful.
pub record HasLawfulLog (files : Files) (tour_name log_name : Bytes) (tour : Tour) (log : List Activity) : Type 0 where
  pub there : HasLog files tour_name log_name tour (Ok log)
  pub lawful : IsLawfulLog tour log

-- The certificate's file is there too, and these are its first 1,010,000,001 bytes.
pub record HasCert (files : Files) (tour_name log_name cert_name : Bytes) (tour : Tour) (log : List Activity) (bytes : Bytes) : Type 0 where
  pub there : HasLawfulLog files tour_name log_name tour log
  pub cert_there : GivesCert (Some files) cert_name bytes

-- No count of failed fetches, puts or sends rose.
pub record IsUnharmed (r : ReadSide) (w : WriteSide) (s : SinkSide) : Type 0 where
  pub fetches : Rose r.faults_before r.faults_now → ⊥
  pub puts : Rose w.faults_before w.faults_now → ⊥
  pub sends : Rose s.faults_before s.faults_now → ⊥

-- ---- the answers

-- the status is this one, or tells of a fault outside or of memory
abbrev pub IsOr : Status → Status → Type 0
IsOr wanted status = IsOneOf (wanted ∷ ReadFault ∷ WriteFault ∷ Memory ∷ []) status

-- the status is this one, or tells of memory
abbrev pub IsOrMemory : Status → Status → Type 0
IsOrMemory wanted status = IsOneOf (wanted ∷ Memory ∷ []) status

-- What is wrong with the two files that a command reads is answered, the tour's first.
pub record FilesExact (files : Files) (tour_name log_name : Bytes) (status : Status) : Type 0 where
  pub tour_missing : get files tour_name ≡ None → IsOneOf (ReadFault ∷ WriteFault ∷ Memory ∷ []) status
  pub tour_refused : (fault : TourFault) → HasTour files tour_name (Err fault) → IsOr Refused status
  pub log_missing : (tour : Tour) → HasTour files tour_name (Ok tour) → get files log_name ≡ None → IsOneOf (ReadFault ∷ WriteFault ∷ Memory ∷ []) status
  pub log_refused : (tour : Tour) (fault : LogFault) → HasLog files tour_name log_name tour (Err fault) → IsOr Refused status

-- So is it where the log is not lawful.
pub record InputsExact (files : Files) (tour_name log_name : Bytes) (status : Status) : Type 0 where
  pub read : FilesExact files tour_name log_name status
  pub unlawful : (tour : Tour) (log : List Activity) → HasLog files tour_name log_name tour (Ok log) → (IsLawfulLog tour log → ⊥) → IsOr LogUnlawful status

-- The graph of a log that reads is sent by `graph`, lawful or not.
pub record GraphExact (files : Files) (tour_name log_name : Bytes) (status : Status) : Type 0 where
  pub read : FilesExact files tour_name log_name status
  pub drawn : (tour : Tour) (log : List Activity) → HasLog files tour_name log_name tour (Ok log) → IsOr Done status

-- A lawful log is told by `audit`.
pub record AuditExact (files : Files) (tour_name log_name : Bytes) (status : Status) : Type 0 where
  pub inputs : InputsExact files tour_name log_name status
  pub lawful : (tour : Tour) (log : List Activity) → HasLawfulLog files tour_name log_name tour log → IsOr Done status

-- A valid certificate is accepted by `check`, and another rejected.
pub record CheckExact (files : Files) (tour_name log_name cert_name : Bytes) (status : Status) : Type 0 where
  pub inputs : InputsExact files tour_name log_name status
  pub cert_missing : (tour : Tour) (log : List Activity) → HasLawfulLog files tour_name log_name tour log → get files cert_name ≡ None → IsOneOf (ReadFault ∷ WriteFault ∷ Memory ∷ []) status
  pub accepted : (tour : Tour) (log : List Activity) (bytes : Bytes) → HasCert files tour_name log_name cert_name tour log bytes → IsAccepted tour log bytes → IsOr Done status
  pub rejected : (tour : Tour) (log : List Activity) (bytes : Bytes) → HasCert files tour_name log_name cert_name tour log bytes → (IsAccepted tour log bytes → ⊥) → IsOr Rejected status

-- A solution or that there is none is told by `plan`, unless the budget is spent; and it is not where there are fewer labels than it allows.
pub record PlanExact (files : Files) (tour_name log_name : Bytes) (budget : ℕ) (status : Status) : Type 0 where
  pub inputs : InputsExact files tour_name log_name status
  pub done : (tour : Tour) (log schedule : List Activity) → HasLawfulLog files tour_name log_name tour log → IsSolution tour log schedule → IsOneOf (Spent ∷ Done ∷ ReadFault ∷ WriteFault ∷ Memory ∷ []) status
  pub infeasible : (tour : Tour) (log : List Activity) → HasLawfulLog files tour_name log_name tour log → IsInfeasible tour log → IsOneOf (Spent ∷ Infeasible ∷ ReadFault ∷ WriteFault ∷ Memory ∷ []) status
  pub enough : (tour : Tour) (log : List Activity) → HasLawfulLog files tour_name log_name tour log → (HasAsMany tour log budget → ⊥) → status ≡ Spent → ⊥

-- ---- where nothing fails outside

-- `audit` tells a lawful log from another.
pub record AuditComplete (files : Files) (tour_name log_name : Bytes) (status : Status) : Type 0 where
  pub lawful : (tour : Tour) (log : List Activity) → HasLawfulLog files tour_name log_name tour log → IsOrMemory Done status
  pub unlawful : (tour : Tour) (log : List Activity) → HasLog files tour_name log_name tour (Ok log) → (IsLawfulLog tour log → ⊥) → IsOrMemory LogUnlawful status

-- `graph` sends the graph of a log that reads.
pub record GraphComplete (files : Files) (tour_name log_name : Bytes) (status : Status) : Type 0 where
  pub drawn : (tour : Tour) (log : List Activity) → HasLog files tour_name log_name tour (Ok log) → IsOrMemory Done status

-- `check` tells a valid certificate from another.
pub record CheckComplete (files : Files) (tour_name log_name cert_name : Bytes) (status : Status) : Type 0 where
  pub accepted : (tour : Tour) (log : List Activity) (bytes : Bytes) → HasCert files tour_name log_name cert_name tour log bytes → IsAccepted tour log bytes → IsOrMemory Done status
  pub rejected : (tour : Tour) (log : List Activity) (bytes : Bytes) → HasCert files tour_name log_name cert_name tour log bytes → (IsAccepted tour log bytes → ⊥) → IsOrMemory Rejected status

-- `plan` finds a shortest schedule where there is one, and else tells that there is none, with a budget above the number of labels.
pub record PlanComplete (files : Files) (tour_name log_name : Bytes) (budget : ℕ) (status : Status) : Type 0 where
  pub done : (tour : Tour) (log schedule : List Activity) → HasLawfulLog files tour_name log_name tour log → (HasAsMany tour log budget → ⊥) → IsSolution tour log schedule → IsOrMemory Done status
  pub infeasible : (tour : Tour) (log : List Activity) → HasLawfulLog files tour_name log_name tour log → (HasAsMany tour log budget → ⊥) → IsInfeasible tour log → IsOrMemory Infeasible status
