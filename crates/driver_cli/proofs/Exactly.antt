-- The causes of the answers exclude each other, so each answer comes where its cause holds.
use Rattle.std.specs.Prelude.{◌≡◌, ◌⊎◌, ◌+◌, ℕ, List, Option, None, Some, Result, Ok, Err, [], ◌∷◌}
use Rattle.std.proofs.Common.{inl, inr, sym, subst, ◌∙◌}
use Rattle.std.specs.FinMap.{get}
use Rattle.duty_core.specs.declared.activity.Activity.{Activity}
use Rattle.rule_core.specs.Reach.{IsOneOf}
use Rattle.outside.specs.Outside.{Bytes, Files, start_of}
use Rattle.tour_model.specs.declared.tour.Tour.{Tour}
use Rattle.tour_model.specs.Schedule.{IsSolution, IsInfeasible}
use Rattle.tour_reader.specs.declared.fault.TourFault.{TourFault}
use Rattle.tour_reader.specs.declared.form.TheConstants.{TOUR_LIMIT}
use Rattle.tour_reader.specs.Tour.{tour_of}
use Rattle.duty_log.specs.declared.fault.LogFault.{LogFault}
use Rattle.duty_log.specs.declared.read.TheConstants.{LOG_LIMIT}
use Rattle.duty_log.specs.Log.{ReadsLog}
use Rattle.duty_log.specs.Laws.LogLaws.{one_log}
use Rattle.cert_text.specs.declared.text.limits.TheConstants.{CERT_LIMIT}
use Rattle.tour_plan.specs.Planned.{IsLawfulLog, HasAsMany}
use Rattle.driver_cli.specs.declared.answer.Status.{Status}
use Rattle.driver_cli.specs.declared.answer.Status.TheVariants.{Done, Refused, Infeasible, LogUnlawful, Spent, ReadFault, WriteFault, Memory, Rejected}
use Rattle.driver_cli.specs.Answers.{IsAccepted}
use Rattle.driver_cli.specs.Given.{BeginsWith, GivesTour, GivesLog}
use Rattle.driver_cli.specs.Inputs.{AreGiven}
use Rattle.driver_cli.specs.Sides.{ReadSide}
use Rattle.driver_cli.specs.Exact.{HasTour, HasLog, HasLawfulLog, HasCert, IsOr, IsOrMemory, FilesExact, InputsExact, AuditExact, AuditComplete, GraphExact, GraphComplete, CheckExact, CheckComplete, PlanExact, PlanComplete}
use Rattle.driver_cli.proofs.Stages.{IsFault, Stage, Judged, GraphBehind, AuditBehind, CheckBehind, PlanBehind}

-- ---- what two readings of the same files have in common

some_same : {X : Type 0} (a b : X) → Some a ≡ Some b → a ≡ b
some_same a b e = cc

ok_same : {X Y : Type 0} (a b : X) → (let p : Result X Y = Ok a in p ≡ Ok b) → a ≡ b
ok_same a b e = cc

ok_is_no_err : {X Y : Type 0} (a : X) (b : Y) → (let p : Result X Y = Ok a in p ≡ Err b) → ⊥
ok_is_no_err a b e = cc

-- what the file of a name begins with, told of a desk that tells its files
start_at : (known : Option Files) (files : Files) (name : Bytes) (limit : ℕ) (bytes : Bytes) → known ≡ Some files → BeginsWith known name limit bytes → start_of files name limit ≡ Some bytes
start_at known files name limit bytes told h = let g : BeginsWith (Some files) name limit bytes = subst (λ k. BeginsWith k name limit bytes) told h in g

-- no bytes are read of a file that is missing
not_there : (known : Option Files) (files : Files) (name : Bytes) (limit : ℕ) (bytes : Bytes) → known ≡ Some files → get files name ≡ None → BeginsWith known name limit bytes → ⊥
not_there known files name limit bytes told missing h =
    let start = start_at known files name limit bytes told h in
    let d : None ≡ Some bytes = rw missing at start in
    cc

-- one file begins with one text
same_start : (known : Option Files) (files : Files) (name : Bytes) (limit : ℕ) (a b : Bytes) → known ≡ Some files → start_of files name limit ≡ Some a → BeginsWith known name limit b → a ≡ b
same_start known files name limit a b told there h = some_same a b (sym there ∙ start_at known files name limit b told h)

same_tour : (known : Option Files) (files : Files) (t : Bytes) (a b : Result Tour TourFault) → known ≡ Some files → HasTour files t a → GivesTour known t b → a ≡ b
same_tour known files t a b told h given =
    let e = same_start known files t (TOUR_LIMIT + 1) h.bytes given.bytes told h.start given.start in
    let reads : tour_of given.bytes ≡ a = rw (← e) h.reads in
    sym reads ∙ given.reads

same_log : (known : Option Files) (files : Files) (t l : Bytes) (tour : Tour) (a b : Result (List Activity) LogFault) → known ≡ Some files → HasLog files t l tour a → GivesLog known l tour b → a ≡ b
same_log known files t l tour a b told h given =
    let log = h.log_there in
    let e = same_start known files l (LOG_LIMIT + 1) log.bytes given.bytes told log.start given.start in
    one_log given.bytes tour.params tour.start a b (subst (λ bs. ReadsLog bs tour.params tour.start a) e log.reads) given.reads

-- another tour that is given is the same, and what is given after it is given after this one
log_of : (known : Option Files) (files : Files) (t l : Bytes) (tour tour' : Tour) (b : Result (List Activity) LogFault) → known ≡ Some files → HasTour files t (Ok tour) → GivesTour known t (Ok tour') → GivesLog known l tour' b → GivesLog known l tour b
log_of known files t l tour tour' b told h given log =
    let e : tour ≡ tour' = ok_same tour tour' (same_tour known files t (Ok tour) (Ok tour') told h given) in
    subst (λ x. GivesLog known l x b) (sym e) log

-- the tour and the log that are given are those that are there
pub record AreSame (tour tour' : Tour) (log log' : List Activity) : Type 0 where
  pub tours : tour ≡ tour'
  pub logs : log ≡ log'

same_given : (r : ReadSide) (files : Files) (t l : Bytes) (tour tour' : Tour) (log log' : List Activity) → r.files ≡ Some files → HasLog files t l tour (Ok log) → AreGiven t l r tour' log' → AreSame tour tour' log log'
same_given r files t l tour tour' log log' told h g = record {
  tours = ok_same tour tour' (same_tour r.files files t (Ok tour) (Ok tour') told h.tour_there g.tour_given);
  logs = ok_same log log' (same_log r.files files t l tour (Ok log) (Ok log') told h (log_of r.files files t l tour tour' (Ok log') told h.tour_there g.tour_given g.log_given));
}

-- so what is known of those given is known of these
moved : (P : Tour → List Activity → Type 0) (tour tour' : Tour) (log log' : List Activity) → AreSame tour tour' log log' → P tour' log' → P tour log
moved P tour tour' log log' same p = subst (λ x. P x log) (sym same.tours) (subst (λ y. P tour' y) (sym same.logs) p)

-- ---- the files that each command reads first

module _ (r : ReadSide) (files : Files) (told : r.files ≡ Some files) (t l : Bytes) (thereafter : Tour → List Activity → Status → Type 0) (status : Status) where
  no_tour : {a : Result Tour TourFault} → get files t ≡ None → GivesTour r.files t a → ⊥
  no_tour missing g = not_there r.files files t (TOUR_LIMIT + 1) g.bytes told missing g.start

  no_log : {tour : Tour} {a : Result (List Activity) LogFault} → get files l ≡ None → GivesLog r.files l tour a → ⊥
  no_log missing g = not_there r.files files l (LOG_LIMIT + 1) g.bytes told missing g.start

  tour_missing : Stage t l r thereafter status → get files t ≡ None → IsFault status
  tour_missing (inl f) missing = f
  tour_missing (inr (inl h)) missing = absurd (no_tour missing h.1)
  tour_missing (inr (inr (inl h))) missing = absurd (no_tour missing h.2)
  tour_missing (inr (inr (inr h))) missing = absurd (no_tour missing h.given.tour_given)

  bad_tour : (fault : TourFault) (tour : Tour) → HasTour files t (Err fault) → GivesTour r.files t (Ok tour) → ⊥
  bad_tour fault tour h g = ok_is_no_err tour fault (sym (same_tour r.files files t (Err fault) (Ok tour) told h g))

  good_tour : (tour : Tour) (fault : TourFault) → HasTour files t (Ok tour) → GivesTour r.files t (Err fault) → ⊥
  good_tour tour fault h g = ok_is_no_err tour fault (same_tour r.files files t (Ok tour) (Err fault) told h g)

  tour_refused : Stage t l r thereafter status → (fault : TourFault) → HasTour files t (Err fault) → IsOr Refused status
  tour_refused (inl f) fault h = inr f
  tour_refused (inr (inl g)) fault h = inl g.2
  tour_refused (inr (inr (inl g))) fault h = absurd (bad_tour fault g.0 h g.2)
  tour_refused (inr (inr (inr g))) fault h = absurd (bad_tour fault g.tour h g.given.tour_given)

  log_missing : Stage t l r thereafter status → (tour : Tour) → HasTour files t (Ok tour) → get files l ≡ None → IsFault status
  log_missing (inl f) tour h missing = f
  log_missing (inr (inl g)) tour h missing = absurd (good_tour tour g.0 h g.1)
  log_missing (inr (inr (inl g))) tour h missing = absurd (no_log missing g.3)
  log_missing (inr (inr (inr g))) tour h missing = absurd (no_log missing g.given.log_given)

  bad_log : (tour tour' : Tour) (fault : LogFault) (log : List Activity) → HasLog files t l tour (Err fault) → AreGiven t l r tour' log → ⊥
  bad_log tour tour' fault log h g = ok_is_no_err log fault (sym (same_log r.files files t l tour (Err fault) (Ok log) told h (log_of r.files files t l tour tour' (Ok log) told h.tour_there g.tour_given g.log_given)))

  good_log : (tour tour' : Tour) (log : List Activity) (fault : LogFault) → HasLog files t l tour (Ok log) → GivesTour r.files t (Ok tour') → GivesLog r.files l tour' (Err fault) → ⊥
  good_log tour tour' log fault h g k = ok_is_no_err log fault (same_log r.files files t l tour (Ok log) (Err fault) told h (log_of r.files files t l tour tour' (Err fault) told h.tour_there g k))

  log_refused : Stage t l r thereafter status → (tour : Tour) (fault : LogFault) → HasLog files t l tour (Err fault) → IsOr Refused status
  log_refused (inl f) tour fault h = inr f
  log_refused (inr (inl g)) tour fault h = absurd (good_tour tour g.0 h.tour_there g.1)
  log_refused (inr (inr (inl g))) tour fault h = inl g.4
  log_refused (inr (inr (inr g))) tour fault h = absurd (bad_log tour g.tour fault g.log h g.given)

  files_exact : Stage t l r thereafter status → FilesExact files t l status
  files_exact stage = record {
    tour_missing = tour_missing stage;
    tour_refused = tour_refused stage;
    log_missing = log_missing stage;
    log_refused = log_refused stage;
  }

  -- after a log that reads only a fault comes before what is told of it
  after_log : Stage t l r thereafter status → (tour : Tour) (log : List Activity) → HasLog files t l tour (Ok log) → IsFault status ⊎ thereafter tour log status
  after_log (inl f) tour log h = inl f
  after_log (inr (inl g)) tour log h = absurd (good_tour tour g.0 h.tour_there g.1)
  after_log (inr (inr (inl g))) tour log h = absurd (good_log tour g.0 log g.1 h g.2 g.3)
  after_log (inr (inr (inr g))) tour log h = inr (moved (λ x y. thereafter x y status) tour g.tour log g.log (same_given r files t l tour g.tour log g.log told h g.given) g.holds)

-- ---- the log that is judged

module _ (r : ReadSide) (files : Files) (told : r.files ≡ Some files) (t l : Bytes) (thereafter : Tour → List Activity → Status → Type 0) (status : Status) where
  told_unlawful : (tour : Tour) (log : List Activity) → (IsLawfulLog tour log → ⊥) → IsFault status ⊎ Judged thereafter tour log status → IsOr LogUnlawful status
  told_unlawful tour log never (inl f) = inr f
  told_unlawful tour log never (inr (inl g)) = inl g.1
  told_unlawful tour log never (inr (inr g)) = absurd (never g.0)

  inputs : Stage t l r (Judged thereafter) status → InputsExact files t l status
  inputs stage = record {
    read = files_exact r files told t l (Judged thereafter) status stage;
    unlawful = λ tour log h never. told_unlawful tour log never (after_log r files told t l (Judged thereafter) status stage tour log h);
  }

  told_lawful : (tour : Tour) (log : List Activity) → IsLawfulLog tour log → IsFault status ⊎ Judged thereafter tour log status → IsFault status ⊎ thereafter tour log status
  told_lawful tour log is (inl f) = inl f
  told_lawful tour log is (inr (inl g)) = absurd (g.0 is)
  told_lawful tour log is (inr (inr g)) = inr g.1

  -- after a lawful log only a fault comes before what is told of it
  lawful : Stage t l r (Judged thereafter) status → (tour : Tour) (log : List Activity) → HasLawfulLog files t l tour log → IsFault status ⊎ thereafter tour log status
  lawful stage tour log h = told_lawful tour log h.lawful (after_log r files told t l (Judged thereafter) status stage tour log h.there)

-- ---- `graph`

module _ (r : ReadSide) (files : Files) (told : r.files ≡ Some files) (t l : Bytes) (status : Status) where
  graph_drawn : IsFault status ⊎ (Done ≡ status) → IsOr Done status
  graph_drawn (inl f) = inr f
  graph_drawn (inr e) = inl e

  pub graph_exact : Stage t l r GraphBehind status → GraphExact files t l status
  graph_exact stage = record {
    read = files_exact r files told t l GraphBehind status stage;
    drawn = λ tour log h. graph_drawn (after_log r files told t l GraphBehind status stage tour log h);
  }

-- ---- `audit`

module _ (r : ReadSide) (files : Files) (told : r.files ≡ Some files) (t l : Bytes) (status : Status) where
  audit_lawful : IsFault status ⊎ (Done ≡ status) → IsOr Done status
  audit_lawful (inl f) = inr f
  audit_lawful (inr e) = inl e

  pub audit_exact : Stage t l r (Judged AuditBehind) status → AuditExact files t l status
  audit_exact stage = record {
    inputs = inputs r files told t l AuditBehind status stage;
    lawful = λ tour log h. audit_lawful (lawful r files told t l AuditBehind status stage tour log h);
  }

-- ---- `check`

module _ (r : ReadSide) (files : Files) (told : r.files ≡ Some files) (t l c : Bytes) (status : Status) where
  cert_missing : (tour : Tour) (log : List Activity) → get files c ≡ None → IsFault status ⊎ CheckBehind c r tour log status → IsFault status
  cert_missing tour log missing (inl f) = f
  cert_missing tour log missing (inr b) = absurd (not_there r.files files c (CERT_LIMIT + 1) b.bytes told missing b.given)

  same_cert : (tour : Tour) (log : List Activity) (bytes : Bytes) → HasCert files t l c tour log bytes → (b : CheckBehind c r tour log status) → bytes ≡ b.bytes
  same_cert tour log bytes h b = same_start r.files files c (CERT_LIMIT + 1) bytes b.bytes told h.cert_there b.given

  told_accepted : (tour : Tour) (log : List Activity) (bytes : Bytes) → HasCert files t l c tour log bytes → IsAccepted tour log bytes → (b : CheckBehind c r tour log status) →
      ((Done ≡ status) × IsAccepted tour log b.bytes) ⊎ ((Rejected ≡ status) × (IsAccepted tour log b.bytes → ⊥)) → IsOr Done status
  told_accepted tour log bytes h a b (inl e) = inl e.0
  told_accepted tour log bytes h a b (inr e) = absurd (e.1 (subst (IsAccepted tour log) (same_cert tour log bytes h b) a))

  told_rejected : (tour : Tour) (log : List Activity) (bytes : Bytes) → HasCert files t l c tour log bytes → (IsAccepted tour log bytes → ⊥) → (b : CheckBehind c r tour log status) →
      ((Done ≡ status) × IsAccepted tour log b.bytes) ⊎ ((Rejected ≡ status) × (IsAccepted tour log b.bytes → ⊥)) → IsOr Rejected status
  told_rejected tour log bytes h never b (inl e) = absurd (never (subst (IsAccepted tour log) (sym (same_cert tour log bytes h b)) e.1))
  told_rejected tour log bytes h never b (inr e) = inl e.0

  accepted : (tour : Tour) (log : List Activity) (bytes : Bytes) → HasCert files t l c tour log bytes → IsAccepted tour log bytes → IsFault status ⊎ CheckBehind c r tour log status → IsOr Done status
  accepted tour log bytes h a (inl f) = inr f
  accepted tour log bytes h a (inr b) = told_accepted tour log bytes h a b b.answer

  rejected : (tour : Tour) (log : List Activity) (bytes : Bytes) → HasCert files t l c tour log bytes → (IsAccepted tour log bytes → ⊥) → IsFault status ⊎ CheckBehind c r tour log status → IsOr Rejected status
  rejected tour log bytes h never (inl f) = inr f
  rejected tour log bytes h never (inr b) = told_rejected tour log bytes h never b b.answer

  pub check_exact : Stage t l r (Judged (CheckBehind c r)) status → CheckExact files t l c status
  check_exact stage = record {
    inputs = inputs r files told t l (CheckBehind c r) status stage;
    cert_missing = λ tour log h missing. cert_missing tour log missing (lawful r files told t l (CheckBehind c r) status stage tour log h);
    accepted = λ tour log bytes h a. accepted tour log bytes h a (lawful r files told t l (CheckBehind c r) status stage tour log h.there);
    rejected = λ tour log bytes h never. rejected tour log bytes h never (lawful r files told t l (CheckBehind c r) status stage tour log h.there);
  }

-- ---- `plan`

module _ (r : ReadSide) (files : Files) (told : r.files ≡ Some files) (t l : Bytes) (budget : ℕ) (status : Status) where
  solved : (tour : Tour) (log schedule : List Activity) → IsSolution tour log schedule → IsFault status ⊎ PlanBehind budget tour log status → IsOneOf (Spent ∷ Done ∷ ReadFault ∷ WriteFault ∷ Memory ∷ []) status
  solved tour log schedule is (inl f) = inr (inr f)
  solved tour log schedule is (inr (inl e)) = inr (inl e.0)
  solved tour log schedule is (inr (inr (inl e))) = absurd (e.1 schedule is)
  solved tour log schedule is (inr (inr (inr e))) = inl e.0

  unsolved : (tour : Tour) (log : List Activity) → IsInfeasible tour log → IsFault status ⊎ PlanBehind budget tour log status → IsOneOf (Spent ∷ Infeasible ∷ ReadFault ∷ WriteFault ∷ Memory ∷ []) status
  unsolved tour log none (inl f) = inr (inr f)
  unsolved tour log none (inr (inl e)) = absurd (none e.1.0 e.1.1)
  unsolved tour log none (inr (inr (inl e))) = inr (inl e.0)
  unsolved tour log none (inr (inr (inr e))) = inl e.0

  no_fault_spent : IsFault status → Spent ≡ status → ⊥
  no_fault_spent (inl e) s = let z : ReadFault ≡ Spent = e ∙ sym s in cc
  no_fault_spent (inr (inl e)) s = let z : WriteFault ≡ Spent = e ∙ sym s in cc
  no_fault_spent (inr (inr (inl e))) s = let z : Memory ≡ Spent = e ∙ sym s in cc
  no_fault_spent (inr (inr (inr e))) s = e

  enough : (tour : Tour) (log : List Activity) → (HasAsMany tour log budget → ⊥) → status ≡ Spent → IsFault status ⊎ PlanBehind budget tour log status → ⊥
  enough tour log few s (inl f) = no_fault_spent f (sym s)
  enough tour log few s (inr (inl e)) = let z : Done ≡ Spent = e.0 ∙ s in cc
  enough tour log few s (inr (inr (inl e))) = let z : Infeasible ≡ Spent = e.0 ∙ s in cc
  enough tour log few s (inr (inr (inr e))) = few e.1

  pub plan_exact : Stage t l r (Judged (PlanBehind budget)) status → PlanExact files t l budget status
  plan_exact stage = record {
    inputs = inputs r files told t l (PlanBehind budget) status stage;
    done = λ tour log schedule h is. solved tour log schedule is (lawful r files told t l (PlanBehind budget) status stage tour log h);
    infeasible = λ tour log h none. unsolved tour log none (lawful r files told t l (PlanBehind budget) status stage tour log h);
    enough = λ tour log h few s. enough tour log few s (lawful r files told t l (PlanBehind budget) status stage tour log h);
  }

-- ---- where nothing fails outside

module _ (status : Status) (no_read : ReadFault ≡ status → ⊥) (no_write : WriteFault ≡ status → ⊥) where
  only : (wanted : Status) → IsOr wanted status → IsOrMemory wanted status
  only wanted (inl e) = inl e
  only wanted (inr (inl e)) = absurd (no_read e)
  only wanted (inr (inr (inl e))) = absurd (no_write e)
  only wanted (inr (inr (inr (inl e)))) = inr (inl e)
  only wanted (inr (inr (inr (inr e)))) = absurd e

  unless_spent : (wanted : Status) → IsOneOf (Spent ∷ wanted ∷ ReadFault ∷ WriteFault ∷ Memory ∷ []) status → (status ≡ Spent → ⊥) → IsOrMemory wanted status
  unless_spent wanted (inl e) never = absurd (never (sym e))
  unless_spent wanted (inr k) never = only wanted k

  pub audit_complete : (files : Files) (t l : Bytes) → AuditExact files t l status → AuditComplete files t l status
  audit_complete files t l e = record {
    lawful = λ tour log h. only Done (e.lawful tour log h);
    unlawful = λ tour log h not. only LogUnlawful (e.inputs.unlawful tour log h not);
  }

  pub graph_complete : (files : Files) (t l : Bytes) → GraphExact files t l status → GraphComplete files t l status
  graph_complete files t l e = record { drawn = λ tour log h. only Done (e.drawn tour log h) }

  pub check_complete : (files : Files) (t l c : Bytes) → CheckExact files t l c status → CheckComplete files t l c status
  check_complete files t l c e = record {
    accepted = λ tour log bytes h a. only Done (e.accepted tour log bytes h a);
    rejected = λ tour log bytes h never. only Rejected (e.rejected tour log bytes h never);
  }

  pub plan_complete : (files : Files) (t l : Bytes) (budget : ℕ) → PlanExact files t l budget status → PlanComplete files t l budget status
  plan_complete files t l budget e = record {
    done = λ tour log schedule h few is. unless_spent Done (e.done tour log schedule h is) (e.enough tour log h few);
    infeasible = λ tour log h few none. unless_spent Infeasible (e.infeasible tour log h none) (e.enough tour log h few);
  }
