-- What a call of the planner does, for each command.
use Rattle.std.specs.Prelude.{◌≡◌, ◌⊎◌, ℕ, List, Some, [], ◌∷◌, ⊤}
use Rattle.rule_core.specs.Reach.{IsOneOf}
use Rattle.outside.specs.Outside.{Bytes, Files, PutsOthers}
use Rattle.driver_cli.specs.declared.answer.Status.{Status}
use Rattle.driver_cli.specs.declared.answer.Status.TheVariants.{Usage, WriteFault, Memory}
use Rattle.command_words.specs.declared.command.Command.TheVariants.{Plan, Check, Audit, Graph, Make}
use Rattle.command_words.specs.Command.{IsCommandLine, IsNoCommandLine}
use Rattle.driver_cli.specs.Answers.{UsageAnswers, AuditAnswers, GraphAnswers, CheckAnswers, CheckLeaves, PlanAnswers, PlanLeaves}
use Rattle.driver_cli.specs.Exact.{IsUnharmed, AuditExact, AuditComplete, GraphExact, GraphComplete, CheckExact, CheckComplete, PlanExact, PlanComplete}
use Rattle.made_tours.specs.Drawn.{IsMade, tour_drawn, log_drawn}
use Rattle.driver_cli.specs.Inputs.{InputsLeave}
use Rattle.driver_cli.specs.Make.{MakeAnswers, MakeLeaves, MakeExact, MakeComplete}
use Rattle.driver_cli.specs.Sent.{IsSent, IsCutOff, IsUnsent}
use Rattle.driver_cli.specs.Sides.{ReadSide, WriteSide, SinkSide, IsUnfailed, IsKept, PutsOtherTwo}

-- How a call ends whose answers are of this table: the text of an answer that has its cause is sent whole, in one send; or that one send failed, and some first part was appended; or memory ran out, nothing was sent, and `left` holds.
abbrev pub Told : (Status → Bytes → Type 0) → Type 0 → SinkSide → Status → Type 0
Told answers left s Memory = left × IsUnsent s
Told answers left s WriteFault = ((text : Bytes) × answers WriteFault text × IsSent s text) ⊎ ((status : Status) × (text : Bytes) × answers status text × IsCutOff s text)
Told answers left s status = (text : Bytes) × answers status text × IsSent s text

-- Words that are no command. No fetch fails, and nothing is put.
pub record UsageEnds (r : ReadSide) (w : WriteSide) (s : SinkSide) (status : Status) : Type 0 where
  pub unfailed : IsUnfailed r
  pub kept : IsKept w
  pub told : Told UsageAnswers ⊤ s status
  pub exact : IsOneOf (Usage ∷ WriteFault ∷ Memory ∷ []) status

-- `audit` of the files of these names.
pub record AuditEnds (tour_name log_name : Bytes) (r : ReadSide) (w : WriteSide) (s : SinkSide) (status : Status) : Type 0 where
  pub kept : IsKept w
  pub told : Told (AuditAnswers tour_name log_name r) (InputsLeave tour_name log_name r) s status
  pub exact : (files : Files) → r.files ≡ Some files → AuditExact files tour_name log_name status
  pub complete : (files : Files) → r.files ≡ Some files → IsUnharmed r w s → AuditComplete files tour_name log_name status

-- `graph` of the files of these names.
pub record GraphEnds (tour_name log_name : Bytes) (r : ReadSide) (w : WriteSide) (s : SinkSide) (status : Status) : Type 0 where
  pub kept : IsKept w
  pub told : Told (GraphAnswers tour_name log_name r) (InputsLeave tour_name log_name r) s status
  pub exact : (files : Files) → r.files ≡ Some files → GraphExact files tour_name log_name status
  pub complete : (files : Files) → r.files ≡ Some files → IsUnharmed r w s → GraphComplete files tour_name log_name status

-- `check` of the files of these names.
pub record CheckEnds (tour_name log_name cert_name : Bytes) (r : ReadSide) (w : WriteSide) (s : SinkSide) (status : Status) : Type 0 where
  pub kept : IsKept w
  pub told : Told (CheckAnswers tour_name log_name cert_name r) (CheckLeaves tour_name log_name cert_name r) s status
  pub exact : (files : Files) → r.files ≡ Some files → CheckExact files tour_name log_name cert_name status
  pub complete : (files : Files) → r.files ≡ Some files → IsUnharmed r w s → CheckComplete files tour_name log_name cert_name status

-- `plan` with the files of these names and this budget of labels. Files of other names than the certificate's stay as they were.
pub record PlanEnds (tour_name log_name cert_name : Bytes) (budget : ℕ) (r : ReadSide) (w : WriteSide) (s : SinkSide) (status : Status) : Type 0 where
  pub others : PutsOthers w.files_before w.files_now cert_name
  pub told : Told (PlanAnswers tour_name log_name cert_name budget r w) (PlanLeaves tour_name log_name cert_name r w) s status
  pub exact : (files : Files) → r.files ≡ Some files → PlanExact files tour_name log_name budget status
  pub complete : (files : Files) → r.files ≡ Some files → IsUnharmed r w s → PlanComplete files tour_name log_name budget status

-- `make` of this number, with files of these names. The texts of the number are of a tour and a lawful log. No fetch fails, and files of other names stay as they were.
pub record MakeEnds (number : ℕ) (tour_name log_name : Bytes) (r : ReadSide) (w : WriteSide) (s : SinkSide) (status : Status) : Type 0 where
  pub good : IsMade number (tour_drawn number) log_drawn
  pub unfailed : IsUnfailed r
  pub others : PutsOtherTwo w.files_before w.files_now tour_name log_name
  pub told : Told (MakeAnswers number tour_name log_name w) (MakeLeaves number tour_name log_name w) s status
  pub exact : MakeExact number status
  pub complete : IsUnharmed r w s → MakeComplete number status

-- The call does what its words ask for.
pub record Ends (words : List Bytes) (r : ReadSide) (w : WriteSide) (s : SinkSide) (status : Status) : Type 0 where
  pub usage : IsNoCommandLine words → UsageEnds r w s status
  pub audit : (tour log : Bytes) → IsCommandLine words (Audit tour log) → AuditEnds tour log r w s status
  pub graph : (tour log : Bytes) → IsCommandLine words (Graph tour log) → GraphEnds tour log r w s status
  pub check : (tour log cert : Bytes) → IsCommandLine words (Check tour log cert) → CheckEnds tour log cert r w s status
  pub make : (number : ℕ) (tour log : Bytes) → IsCommandLine words (Make number tour log) → MakeEnds number tour log r w s status
  pub plan : (tour log cert : Bytes) (budget : ℕ) → IsCommandLine words (Plan tour log cert budget) → PlanEnds tour log cert budget r w s status
