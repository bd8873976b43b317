-- How far a call came: what its status tells of the files that it read.
use Rattle.std.specs.Prelude.{◌≡◌, ◌⊎◌, ◌+◌, ℕ, List, Ok, Err, [], ◌∷◌, refl}
use Rattle.std.proofs.Common.{inl, inr, arith}
use Rattle.duty_core.specs.declared.activity.Activity.{Activity}
use Rattle.rule_core.specs.Reach.{IsOneOf}
use Rattle.rule_core.specs.Replay.{IsFirstUnlawful}
use Rattle.outside.specs.Outside.{Bytes}
use Rattle.tour_model.specs.declared.tour.Tour.{Tour}
use Rattle.tour_model.specs.Schedule.{IsSolution, IsInfeasible, log_start}
use Rattle.tour_reader.specs.declared.fault.TourFault.{TourFault}
use Rattle.duty_log.specs.declared.fault.LogFault.{LogFault}
use Rattle.tour_plan.specs.Planned.{IsLawfulLog, HasAsMany}
use Rattle.driver_cli.specs.declared.answer.Status.{Status}
use Rattle.driver_cli.specs.declared.answer.Status.TheVariants.{Done, Refused, Infeasible, LogUnlawful, Spent, ReadFault, WriteFault, Memory, Rejected}
use Rattle.driver_cli.specs.Given.{GivesTour, GivesLog, GivesCert}
use Rattle.driver_cli.specs.Inputs.{AreGiven, InputAnswers, InputsLeave, LawfulAnswers}
use Rattle.driver_cli.specs.Sides.{ReadSide, WriteSide, SinkSide}
use Rattle.driver_cli.specs.Answers.{AuditAnswers, GraphAnswers, IsTooLong, IsInvalid, BytesAnswers, CheckAnswers, CheckLeaves, IsAccepted, PlanAnswers, PlanLeaves}
use Rattle.driver_cli.specs.Ends.{Told}
use Rattle.driver_cli.proofs.Prefixes.{lawful_before}

-- a fault outside, or of memory
abbrev pub IsFault : Status → Type 0
IsFault status = IsOneOf (ReadFault ∷ WriteFault ∷ Memory ∷ []) status

-- the files give a tour and a log, and this holds of them
pub record IsBehind (t l : Bytes) (r : ReadSide) (thereafter : Tour → List Activity → Status → Type 0) (status : Status) : Type 0 where
  pub tour : Tour
  pub log : List Activity
  pub given : AreGiven t l r tour log
  pub holds : thereafter tour log status

-- a fault; or the tour is refused; or the log is; or both are given
abbrev pub Stage : Bytes → Bytes → ReadSide → (Tour → List Activity → Status → Type 0) → Status → Type 0
Stage t l r thereafter status =
    IsFault status
    ⊎ (((fault : TourFault) × GivesTour r.files t (Err fault) × (Refused ≡ status))
    ⊎ (((tour : Tour) × (fault : LogFault) × GivesTour r.files t (Ok tour) × GivesLog r.files l tour (Err fault) × (Refused ≡ status))
    ⊎ IsBehind t l r thereafter status))

-- the log is not lawful, and that is told; or it is, and this holds of it
abbrev pub Judged : (Tour → List Activity → Status → Type 0) → Tour → List Activity → Status → Type 0
Judged thereafter tour log status = ((IsLawfulLog tour log → ⊥) × (LogUnlawful ≡ status)) ⊎ (IsLawfulLog tour log × thereafter tour log status)

-- what `graph` tells after a log that reads
abbrev pub GraphBehind : Tour → List Activity → Status → Type 0
GraphBehind tour log status = Done ≡ status

-- what the other commands tell after a lawful log
abbrev pub AuditBehind : Tour → List Activity → Status → Type 0
AuditBehind tour log status = Done ≡ status

pub record CheckBehind (c : Bytes) (r : ReadSide) (tour : Tour) (log : List Activity) (status : Status) : Type 0 where
  pub bytes : Bytes
  pub given : GivesCert r.files c bytes
  pub answer : ((Done ≡ status) × IsAccepted tour log bytes) ⊎ ((Rejected ≡ status) × (IsAccepted tour log bytes → ⊥))

abbrev pub PlanBehind : ℕ → Tour → List Activity → Status → Type 0
PlanBehind budget tour log status =
    ((Done ≡ status) × ((schedule : List Activity) × IsSolution tour log schedule))
    ⊎ (((Infeasible ≡ status) × IsInfeasible tour log) ⊎ ((Spent ≡ status) × HasAsMany tour log budget))

-- ---- the stage of each answer

pub not_lawful : (tour : Tour) (log : List Activity) (unit : ℕ) → IsFirstUnlawful tour.params (log_start tour log) log unit → IsLawfulLog tour log → ⊥
not_lawful tour log unit first l = first.unlawful (lawful_before tour.params (log_start tour log) log (unit + 1) l)

input_stage : (t l : Bytes) (r : ReadSide) (thereafter : Tour → List Activity → Status → Type 0) (status : Status) (text : Bytes) → InputAnswers t l r status text → Stage t l r thereafter status
input_stage t l r thereafter Refused text (inl h) = inr (inl (h.fault, h.given, refl))
input_stage t l r thereafter Refused text (inr h) = inr (inr (inl (h.tour, h.fault, h.tour_given, h.given, refl)))
input_stage t l r thereafter ReadFault text h = inl (inl refl)
input_stage t l r thereafter status text h = absurd h

pub graph_stage : (t l : Bytes) (r : ReadSide) (s : SinkSide) (status : Status) → Told (GraphAnswers t l r) (InputsLeave t l r) s status → Stage t l r GraphBehind status
graph_stage t l r s Done e = inr (inr (inr (let h = e.1 in record { tour = h.tour; log = h.log; given = h.read.given; holds = refl })))
graph_stage t l r s WriteFault e = inl (inr (inl refl))
graph_stage t l r s Memory e = inl (inr (inr (inl refl)))
graph_stage t l r s status e = input_stage t l r GraphBehind status e.0 e.1

-- after a lawful log
lawful_after : (t l : Bytes) (r : ReadSide) (thereafter : Tour → List Activity → Status → Type 0) (status : Status) (tour : Tour) (log : List Activity) → AreGiven t l r tour log → IsLawfulLog tour log → thereafter tour log status → Stage t l r (Judged thereafter) status
lawful_after t l r thereafter status tour log given lawful holds = inr (inr (inr (record { tour = tour; log = log; given = given; holds = inr (lawful, holds) })))

lawful_stage : (t l : Bytes) (r : ReadSide) (thereafter : Tour → List Activity → Status → Type 0) (status : Status) (text : Bytes) → LawfulAnswers t l r status text → Stage t l r (Judged thereafter) status
lawful_stage t l r thereafter LogUnlawful text h = inr (inr (inr (record { tour = h.tour; log = h.log; given = h.read.given; holds = inl (not_lawful h.tour h.log h.unlawful.unit h.unlawful.first, refl) })))
lawful_stage t l r thereafter status text h = input_stage t l r (Judged thereafter) status text h

pub audit_stage : (t l : Bytes) (r : ReadSide) (s : SinkSide) (status : Status) → Told (AuditAnswers t l r) (InputsLeave t l r) s status → Stage t l r (Judged AuditBehind) status
audit_stage t l r s Done e = let h = e.1 in lawful_after t l r AuditBehind Done h.tour h.log h.lawful.read.given h.lawful.lawful refl
audit_stage t l r s WriteFault e = inl (inr (inl refl))
audit_stage t l r s Memory e = inl (inr (inr (inl refl)))
audit_stage t l r s status e = lawful_stage t l r AuditBehind status e.0 e.1

accepted : (tour : Tour) (log : List Activity) (bytes text : Bytes) → BytesAnswers tour log bytes Done text → IsAccepted tour log bytes
accepted tour log bytes text (short, inl h) = (h.cert, record { is = h.is; short = short })
accepted tour log bytes text (short, inr h) = (h.cert, record { is = h.is; short = short })

not_accepted : (tour : Tour) (log : List Activity) (bytes text : Bytes) → IsTooLong bytes text ⊎ IsInvalid tour log bytes text → IsAccepted tour log bytes → ⊥
not_accepted tour log bytes text (inl h) a = let long = h.long in let short = a.1.short in absurd (omega arith)
not_accepted tour log bytes text (inr h) a = h.none a.0 a.1.is

pub check_stage : (t l c : Bytes) (r : ReadSide) (s : SinkSide) (status : Status) → Told (CheckAnswers t l c r) (CheckLeaves t l c r) s status → Stage t l r (Judged (CheckBehind c r)) status
check_stage t l c r s Done e =
    let h = e.1 in
    lawful_after t l r (CheckBehind c r) Done h.tour h.log h.lawful.read.given h.lawful.lawful
    (record { bytes = h.bytes; given = h.given; answer = inl (refl, accepted h.tour h.log h.bytes e.0 h.answer) })
check_stage t l c r s Rejected e =
    let h = e.1 in
    lawful_after t l r (CheckBehind c r) Rejected h.tour h.log h.lawful.read.given h.lawful.lawful
    (record { bytes = h.bytes; given = h.given; answer = inr (refl, not_accepted h.tour h.log h.bytes e.0 h.answer) })
check_stage t l c r s ReadFault e = inl (inl refl)
check_stage t l c r s WriteFault e = inl (inr (inl refl))
check_stage t l c r s Memory e = inl (inr (inr (inl refl)))
check_stage t l c r s status e = lawful_stage t l r (CheckBehind c r) status e.0 e.1

pub plan_stage : (t l c : Bytes) (budget : ℕ) (r : ReadSide) (w : WriteSide) (s : SinkSide) (status : Status) → Told (PlanAnswers t l c budget r w) (PlanLeaves t l c r w) s status → Stage t l r (Judged (PlanBehind budget)) status
plan_stage t l c budget r w s Done e =
    let h = e.1 in
    lawful_after t l r (PlanBehind budget) Done h.tour h.log h.lawful.read.given h.lawful.lawful (inl (refl, (_, h.proof.shortest.solves)))
plan_stage t l c budget r w s Infeasible e =
    let h = e.1 in
    lawful_after t l r (PlanBehind budget) Infeasible h.tour h.log h.lawful.read.given h.lawful.lawful (inr (inl (refl, h.proof.infeasible)))
plan_stage t l c budget r w s Spent e =
    let h = e.1.1 in
    lawful_after t l r (PlanBehind budget) Spent h.tour h.log h.lawful.read.given h.lawful.lawful (inr (inr (refl, h.spent.many)))
plan_stage t l c budget r w s WriteFault e = inl (inr (inl refl))
plan_stage t l c budget r w s Memory e = inl (inr (inr (inl refl)))
plan_stage t l c budget r w s status e = lawful_stage t l r (PlanBehind budget) status e.0 e.1.1
