-- How the steps of a command make its answer.
use Rattle.std.specs.Prelude.{◌≡◌, ℕ, List, Option, None, Some, Result, Ok, Err, IsErrAnd, refl}
use Rattle.std.specs.FinMap.{insert}
use Rattle.std.specs.Option.{option_map}
use Rattle.std.proofs.Common.{inl, inr, sym, subst, ap, ◌∙◌}
use Rattle.duty_core.specs.declared.activity.Activity.{Activity}
use Rattle.duty_core.specs.declared.memory.NoMemory.{NoMemory}
use Rattle.outside.specs.declared.desk.Desk as desk
use Rattle.outside.specs.Outside.{Bytes, Files, Rose, PutsOthers}
use Rattle.tour_model.specs.declared.tour.Tour.{Tour}
use Rattle.report_text.specs.Made.{tour_made, log_made}
use Rattle.tour_plan.specs.Planned.{IsLawfulLog}
use Rattle.driver_cli.specs.declared.answer.Answer.{Answer}
use Rattle.driver_cli.specs.declared.answer.Halt.{Halt}
use Rattle.driver_cli.specs.declared.answer.Halt.TheVariants as halt
use Rattle.driver_cli.specs.declared.answer.Status.{Status}
use Rattle.driver_cli.specs.declared.answer.Status.TheVariants.{Done, Refused, Infeasible, LogUnlawful, Spent, ReadFault, WriteFault, Memory, Rejected}
use Rattle.driver_cli.specs.Answers.{AuditAnswers, GraphAnswers, BytesAnswers, CheckAnswers, CheckLeaves, PlanAnswers, PlanLeaves}
use Rattle.driver_cli.specs.Fetched.{IsFileFault, IsFetched, AreInputsFetched}
use Rattle.driver_cli.specs.Given.{GivesCert}
use Rattle.driver_cli.specs.Inputs.{AreGiven, AreRead, AreLawful, IsUnlawful, InputAnswers, InputsLeave, LawfulAnswers}
use Rattle.made_tours.specs.Drawn.{IsMade}
use Rattle.driver_cli.specs.Make.{MakeUnput, MakeAnswers, MakeLeaves}
use Rattle.driver_cli.specs.Sides.{ReadSide, read_side, WriteSide, write_side, IsUnfailed, IsKept, HasPut, HavePut, IsUnput, IsUnputBehind}
use Rattle.driver_cli.specs.Steps.{Concludes, IsLawfulOr, Proves, Declines, IsProposed, IsFilePut, AreMadePut, Summarizes, Settles}
use Rattle.driver_cli.specs.Texts.{write_fault_text}

-- ---- a step after one that put nothing

module _ {D : Type 0} (told : desk.Ghosts D) (a b c : D) where
  -- what the fetches up to `c` meet and leave, from where so much is known
  abbrev read_from : Option Files → ℕ → Option Bytes → ReadSide
  read_from files before failed = record { files = files; faults_before = before; faults_now = told.read_faults c; failed_before = failed; failed_now = told.read_failed c }

  -- and the puts
  abbrev write_from : Option Files → ℕ → Option Bytes → WriteSide
  write_from files before failed = record { files_before = files; files_now = told.files c; faults_before = before; faults_now = told.write_faults c; failed_before = failed; failed_now = told.write_failed c }

  -- what is known of the fetches after `b` is known of those after `a`
  pub rebased : (P : ReadSide → Type 0) → IsKept (write_side told a b) → IsUnfailed (read_side told a b) → P (read_side told b c) → P (read_side told a c)
  rebased P kept u p =
      subst (λ x. P (read_from (told.files a) (told.read_faults a) x)) u.failed
      (subst (λ n. P (read_from (told.files a) n (told.read_failed b))) u.faults
      (subst (λ x. P (read_from x (told.read_faults b) (told.read_failed b))) kept.files p))

  -- and of the puts
  pub rewritten : (P : WriteSide → Type 0) → IsKept (write_side told a b) → P (write_side told b c) → P (write_side told a c)
  rewritten P kept p =
      subst (λ x. P (write_from (told.files a) (told.write_faults a) x)) kept.failed
      (subst (λ n. P (write_from (told.files a) n (told.write_failed b))) kept.faults
      (subst (λ x. P (write_from x (told.write_faults b) (told.write_failed b))) kept.files p))

  -- no fetch failed in both
  pub still_unfailed : IsUnfailed (read_side told a b) → IsUnfailed (read_side told b c) → IsUnfailed (read_side told a c)
  still_unfailed u v = record { faults = v.faults ∙ u.faults; failed = v.failed ∙ u.failed }

  -- what the two files give, they give to a later step too
  pub still_given : (t l : Bytes) (tour : Tour) (log : List Activity) → AreGiven t l (read_side told a b) tour log → AreGiven t l (read_side told a c) tour log
  still_given t l tour log g = record { tour_given = g.tour_given; log_given = g.log_given }

  -- and what was read is read, where no later fetch failed
  pub still_lawful : (t l : Bytes) (tour : Tour) (log : List Activity) → AreRead t l (read_side told a b) tour log → IsUnfailed (read_side told b c) → IsLawfulLog tour log → AreLawful t l (read_side told a c) tour log
  still_lawful t l tour log read v lawful = record {
    read = record { given = still_given t l tour log read.given; unfailed = still_unfailed read.unfailed v };
    lawful = lawful;
  }

-- ---- up to a lawful log

input_lawful : (t l : Bytes) (r : ReadSide) (status : Status) (text : Bytes) → InputAnswers t l r status text → LawfulAnswers t l r status text
input_lawful t l r Refused text h = h
input_lawful t l r ReadFault text h = h
input_lawful t l r status text h = absurd h

unlawful_lawful : (t l : Bytes) (r : ReadSide) (tour : Tour) (log : List Activity) (status : Status) (text : Bytes) → AreRead t l r tour log → status ≡ LogUnlawful → IsUnlawful tour log text → LawfulAnswers t l r status text
unlawful_lawful t l r tour log status text read is u = rw is record { tour = tour; log = log; read = read; unlawful = u }

-- ---- `audit`

lawful_audit : (t l : Bytes) (r : ReadSide) (status : Status) (text : Bytes) → LawfulAnswers t l r status text → AuditAnswers t l r status text
lawful_audit t l r Done text h = absurd h
lawful_audit t l r status text h = h

pub audit_unlawful : (t l : Bytes) (r : ReadSide) (tour : Tour) (log : List Activity) (e : Halt) → AreRead t l r tour log → IsLawfulOr tour log (Err e) → Concludes (Err e) (AuditAnswers t l r) (InputsLeave t l r)
audit_unlawful t l r tour log (halt.Answered a) read h = lawful_audit t l r a.status a.text (unlawful_lawful t l r tour log a.status a.text read h.0 h.1)
audit_unlawful t l r tour log halt.Memory read h = inl read.unfailed

-- ---- `graph`

input_graph : (t l : Bytes) (r : ReadSide) (status : Status) (text : Bytes) → InputAnswers t l r status text → GraphAnswers t l r status text
input_graph t l r Done text h = absurd h
input_graph t l r status text h = h

pub graph_halts : (t l : Bytes) (r : ReadSide) (e : Halt) → AreInputsFetched t l r (Err e) → Concludes (Err e) (GraphAnswers t l r) (InputsLeave t l r)
graph_halts t l r (halt.Answered a) h = input_graph t l r a.status a.text h
graph_halts t l r halt.Memory h = h

-- ---- `check`

lawful_check : (t l c : Bytes) (r : ReadSide) (status : Status) (text : Bytes) → LawfulAnswers t l r status text → CheckAnswers t l c r status text
lawful_check t l c r ReadFault text h = inl h
lawful_check t l c r Done text h = absurd h
lawful_check t l c r Rejected text h = absurd h
lawful_check t l c r status text h = h

pub check_unlawful : (t l c : Bytes) (r : ReadSide) (tour : Tour) (log : List Activity) (e : Halt) → AreRead t l r tour log → IsLawfulOr tour log (Err e) → Concludes (Err e) (CheckAnswers t l c r) (CheckLeaves t l c r)
check_unlawful t l c r tour log (halt.Answered a) read h = lawful_check t l c r a.status a.text (unlawful_lawful t l r tour log a.status a.text read h.0 h.1)
check_unlawful t l c r tour log halt.Memory read h = inl (inl read.unfailed)

cert_unread : (t l c : Bytes) (r : ReadSide) (tour : Tour) (log : List Activity) (status : Status) (text : Bytes) → AreGiven t l r tour log → IsLawfulLog tour log → IsFileFault c r status text → CheckAnswers t l c r status text
cert_unread t l c r tour log status text given lawful h = rw h.is (inr record { tour = tour; log = log; given = given; lawful = lawful; unread = h.unread; told = h.told })

pub cert_halts : (t l c : Bytes) (r : ReadSide) (tour : Tour) (log : List Activity) (limit : ℕ) (e : Halt) → AreGiven t l r tour log → IsLawfulLog tour log → IsFetched c limit r (Err e) → Concludes (Err e) (CheckAnswers t l c r) (CheckLeaves t l c r)
cert_halts t l c r tour log limit (halt.Answered a) given lawful h = cert_unread t l c r tour log a.status a.text given lawful h
cert_halts t l c r tour log limit halt.Memory given lawful (inl u) = inl (inl u)
cert_halts t l c r tour log limit halt.Memory given lawful (inr h) = inr h

pub cert_checked : (t l c : Bytes) (r : ReadSide) (tour : Tour) (log : List Activity) (bytes : Bytes) (status : Status) (text : Bytes) → AreLawful t l r tour log → GivesCert r.files c bytes → BytesAnswers tour log bytes status text → CheckAnswers t l c r status text
cert_checked t l c r tour log bytes Done text lawful given h = record { tour = tour; log = log; lawful = lawful; bytes = bytes; given = given; answer = h }
cert_checked t l c r tour log bytes Rejected text lawful given h = record { tour = tour; log = log; lawful = lawful; bytes = bytes; given = given; answer = h }
cert_checked t l c r tour log bytes status text lawful given h = absurd h

-- ---- `plan`

lawful_plan : (t l c : Bytes) (budget : ℕ) (r : ReadSide) (w : WriteSide) (status : Status) (text : Bytes) → IsKept w → LawfulAnswers t l r status text → PlanAnswers t l c budget r w status text
lawful_plan t l c budget r w Done text kept h = absurd h
lawful_plan t l c budget r w Infeasible text kept h = absurd h
lawful_plan t l c budget r w Spent text kept h = absurd h
lawful_plan t l c budget r w WriteFault text kept h = absurd h
lawful_plan t l c budget r w status text kept h = (kept, h)

module _ (t l c : Bytes) (budget : ℕ) (r : ReadSide) (w : WriteSide) where
  pub plan_halts : (e : Halt) → IsKept w → AreInputsFetched t l r (Err e) → Concludes (Err e) (PlanAnswers t l c budget r w) (PlanLeaves t l c r w)
  plan_halts (halt.Answered a) kept h = lawful_plan t l c budget r w a.status a.text kept (input_lawful t l r a.status a.text h)
  plan_halts halt.Memory kept h = (h, inl kept)

  declined : (tour : Tour) (log : List Activity) (status : Status) (text : Bytes) → IsKept w → AreRead t l r tour log → Declines tour log budget status text → PlanAnswers t l c budget r w status text
  declined tour log Spent text kept read h = (kept, record { tour = tour; log = log; lawful = record { read = read; lawful = h.0 }; spent = h.1; told = h.2 })
  declined tour log LogUnlawful text kept read h = (kept, record { tour = tour; log = log; read = read; unlawful = h })
  declined tour log status text kept read h = absurd h

  pub plan_declines : (tour : Tour) (log : List Activity) (e : Halt) → IsKept w → AreRead t l r tour log → IsProposed tour log budget (Err e) → Concludes (Err e) (PlanAnswers t l c budget r w) (PlanLeaves t l c r w)
  plan_declines tour log (halt.Answered a) kept read h = declined tour log a.status a.text kept read h
  plan_declines tour log halt.Memory kept read h = (inl read.unfailed, inl kept)

  unput : (tour : Tour) (log : List Activity) (status : Status) (text : Bytes) → AreLawful t l r tour log → IsUnput w c → status ≡ WriteFault → text ≡ write_fault_text c → PlanAnswers t l c budget r w status text
  unput tour log status text lawful h is told = rw is record { tour = tour; log = log; lawful = lawful; unput = h; told = told }

  pub put_halts : (tour : Tour) (log : List Activity) (bytes : Bytes) (e : Halt) → AreLawful t l r tour log → IsFilePut c bytes w (Err e) → Concludes (Err e) (PlanAnswers t l c budget r w) (PlanLeaves t l c r w)
  put_halts tour log bytes (halt.Answered a) lawful h = unput tour log a.status a.text lawful h.0 h.1 h.2
  put_halts tour log bytes halt.Memory lawful (inl kept) = (inl lawful.read.unfailed, inl kept)
  put_halts tour log bytes halt.Memory lawful (inr h) = (inl lawful.read.unfailed, inr (inr h))

  pub proved : (tour : Tour) (log : List Activity) (bytes : Bytes) (status : Status) (text : Bytes) → AreLawful t l r tour log → Proves tour log bytes status text → HasPut w c bytes → PlanAnswers t l c budget r w status text
  proved tour log bytes Done text lawful h put = record { tour = tour; log = log; lawful = lawful; bytes = bytes; proof = h; put = put }
  proved tour log bytes Infeasible text lawful h put = record { tour = tour; log = log; lawful = lawful; bytes = bytes; proof = h; put = put }
  proved tour log bytes status text lawful h put = absurd h

-- ---- `make`

-- two puts, one after the other
mapped_twice : (f g : Files → Files) (files : Option Files) → option_map g (option_map f files) ≡ option_map (λ x. g (f x)) files
mapped_twice f g None = refl
mapped_twice f g (Some files) = refl

module _ (number : ℕ) (t l : Bytes) {D : Type 0} (told : desk.Ghosts D) (before between now : D) where
  abbrev first_put : WriteSide
  first_put = write_side told before between

  abbrev second_put : WriteSide
  second_put = write_side told between now

  abbrev both_puts : WriteSide
  both_puts = write_side told before now

  both_put : (a b : Bytes) → HasPut first_put t a → HasPut second_put l b → HavePut both_puts t a l b
  both_put a b p q = record {
    files = q.files ∙ ap (option_map (λ x. insert x l b)) p.files ∙ mapped_twice (λ x. insert x t a) (λ x. insert x l b) (told.files before);
    faults = q.faults ∙ p.faults;
    failed = q.failed ∙ p.failed;
  }

  unput_after : (a : Bytes) → HasPut first_put t a → IsUnput second_put l → IsUnputBehind both_puts t a l
  unput_after a p q = record {
    rose = subst (λ n. Rose n (told.write_faults now)) p.faults q.rose;
    failed = q.failed;
    others = subst (λ x. PutsOthers x (told.files now) l) p.files q.others;
  }

  first_alone : (a : Bytes) → HasPut first_put t a → IsKept second_put → HasPut both_puts t a
  first_alone a p q = record { files = q.files ∙ p.files; faults = q.faults ∙ p.faults; failed = q.failed ∙ p.failed }

  made_halts : (end : Result Unit Halt) → HasPut first_put t (tour_made number) → IsFilePut l log_made second_put end → AreMadePut number t l both_puts end
  made_halts (Ok done) p q = both_put (tour_made number) log_made p q
  made_halts (Err (halt.Answered a)) p q = (q.1, inr (unput_after (tour_made number) p q.0, q.2))
  made_halts (Err halt.Memory) p (inl q) = inr (inl (first_alone (tour_made number) p q))
  made_halts (Err halt.Memory) p (inr q) = inr (inr (inr (inr (unput_after (tour_made number) p q))))

  pub second_halts : (a b : Bytes) (end : Result Unit Halt) → a ≡ tour_made number → b ≡ log_made → HasPut first_put t a → IsFilePut l b second_put end → AreMadePut number t l both_puts end
  second_halts a b end e f p q = made_halts end (subst (HasPut first_put t) e p) (subst (λ x. IsFilePut l x second_put end) f q)

pub first_halts : (number : ℕ) (t l bytes : Bytes) (w : WriteSide) (e : Halt) → IsFilePut t bytes w (Err e) → AreMadePut number t l w (Err e)
first_halts number t l bytes w (halt.Answered a) p = (p.1, inl (p.0, p.2))
first_halts number t l bytes w halt.Memory (inl p) = inl p
first_halts number t l bytes w halt.Memory (inr p) = inr (inr (inr (inl p)))

-- what a `?` hands on of a put
pub put_on : (number : ℕ) (t l : Bytes) (w : WriteSide) (end : Result Unit Halt) (e : Halt) → IsErrAnd end (λ x. x ≡ e) → AreMadePut number t l w (Err e) → AreMadePut number t l w end
put_on number t l w (Ok done) e h p = absurd h
put_on number t l w (Err x) e h p = subst (λ y. AreMadePut number t l w (Err y)) (sym h) p

module _ (number : ℕ) (t l : Bytes) (w : WriteSide) where
  not_put : (status : Status) (text : Bytes) → status ≡ WriteFault → MakeUnput number t l w text → MakeAnswers number t l w status text
  not_put status text is h = rw is h

  pub make_halts : (e : Halt) → AreMadePut number t l w (Err e) → Concludes (Err e) (MakeAnswers number t l w) (MakeLeaves number t l w)
  make_halts (halt.Answered a) h = not_put a.status a.text h.0 h.1
  make_halts halt.Memory h = h

  pub summarized : (tour : Tour) (log : List Activity) (status : Status) (text : Bytes) → IsMade number tour log → HavePut w t (tour_made number) l log_made → Summarizes number tour log status text → MakeAnswers number t l w status text
  summarized tour log Done text made put h = record { tour = tour; log = log; made = made; put = put; told = h }
  summarized tour log Infeasible text made put h = record { tour = tour; log = log; made = made; put = put; told = h }
  summarized tour log Spent text made put h = record { tour = tour; log = log; made = made; put = put; told = h }
  summarized tour log status text made put h = absurd h

-- ---- all commands

-- what holds beside each answer of a command
pub beside : (fact : Type 0) (answers : Status → Bytes → Type 0) (memory : Type 0) (end : Result Answer Halt) → fact → Concludes end answers memory → Concludes end (λ status text. fact × answers status text) (fact × memory)
beside fact answers memory (Ok a) known h = (known, h)
beside fact answers memory (Err (halt.Answered a)) known h = (known, h)
beside fact answers memory (Err halt.Memory) known h = (known, h)

-- ---- what a `?` hands on

pub handed_on : (end : Result Answer Halt) (e : Halt) (answers : Status → Bytes → Type 0) (memory : Type 0) → IsErrAnd end (λ x. x ≡ e) → Concludes (Err e) answers memory → Concludes end answers memory
handed_on (Ok a) e answers memory h p = absurd h
handed_on (Err x) e answers memory h p = subst (λ y. Concludes (Err y) answers memory) (sym h) p

pub memory_on : (end : Result Answer Halt) (answers : Status → Bytes → Type 0) (memory : Type 0) → IsErrAnd end (λ x. x ≡ halt.Memory) → memory → Concludes end answers memory
memory_on end answers memory h m = handed_on end halt.Memory answers memory h m

-- ---- the answer that is sent

pub settled_answer : (answers : Status → Bytes → Type 0) (memory : Type 0) (ended : Result Answer Halt) (a : Answer) → Settles ended (Ok a) → Concludes ended answers memory → answers a.status a.text
settled_answer answers memory (Ok b) a e h = let same : a ≡ b = cc in subst (λ x. answers x.status x.text) (sym same) h
settled_answer answers memory (Err (halt.Answered b)) a e h = let same : a ≡ b = cc in subst (λ x. answers x.status x.text) (sym same) h
settled_answer answers memory (Err halt.Memory) a e h = absurd (let z : (let p : Result Answer NoMemory = Ok a in p ≡ Err e.0) = e.1 in cc)

pub settled_memory : (answers : Status → Bytes → Type 0) (memory : Type 0) (ended : Result Answer Halt) (none : NoMemory) → Settles ended (Err none) → Concludes ended answers memory → memory
settled_memory answers memory (Ok b) none e h = absurd (let z : (let p : Result Answer NoMemory = Err none in p ≡ Ok b) = e in cc)
settled_memory answers memory (Err (halt.Answered b)) none e h = absurd (let z : (let p : Result Answer NoMemory = Err none in p ≡ Ok b) = e in cc)
settled_memory answers memory (Err halt.Memory) none e h = h
