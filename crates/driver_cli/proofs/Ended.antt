-- How a call ends: what its words are answered, and what sending that does.
use Rattle.std.specs.Prelude.{◌≡◌, ℕ, List, [], ◌∷◌, Option, None, Some, cond, false, ⊤, refl}
use Rattle.std.proofs.Common.{inl, inr, sym, subst, ap, ◌∙◌}
use Rattle.std.specs.Ordering.{nat_cmp, eq_by_cmp, is_eq}
use Rattle.std.specs.declared.cmp.Ordering.{Ordering}
use Rattle.std.specs.declared.cmp.Ordering.TheVariants.{Less, Equal, Greater}
use Rattle.std.specs.Cmp.Lexicographic.{slice_cmp, nat_list_cmp_total}
use Rattle.std.specs.FinMap.{get, insert, get-insert, slice_cmp-IsAntisymmetric, nat_cmp-IsAntisymmetric}
use Rattle.std.specs.Option.{option_map}
use Rattle.rule_core.specs.Reach.{IsOneOf}
use Rattle.outside.specs.Outside.{Bytes, Files, Rose, PutsOthers}
use Rattle.driver_cli.specs.declared.answer.Status.{Status}
use Rattle.driver_cli.specs.declared.answer.Status.TheVariants.{Done, Usage, Refused, Infeasible, LogUnlawful, Spent, ReadFault, WriteFault, Memory, Rejected}
use Rattle.command_words.specs.declared.command.Command.{Command}
use Rattle.command_words.specs.declared.command.Command.TheVariants.{Plan, Check, Audit, Graph, Make}
use Rattle.command_words.specs.Command.{IsCommandLine, IsNoCommandLine}
use Rattle.command_words.proofs.CommandLines.{one_command}
use Rattle.report_text.specs.Made.{tour_made, log_made}
use Rattle.made_tours.proofs.MadeIs.{made_is}
use Rattle.driver_cli.specs.Answers.{UsageAnswers, AuditAnswers, GraphAnswers, CheckAnswers, CheckLeaves, PlanAnswers, PlanLeaves}
use Rattle.driver_cli.specs.Ends.{Told, UsageEnds, AuditEnds, GraphEnds, CheckEnds, MakeEnds, PlanEnds, Ends}
use Rattle.driver_cli.specs.Inputs.{InputsLeave, LawfulAnswers}
use Rattle.driver_cli.specs.Make.{MakeAnswers, MakeLeaves}
use Rattle.driver_cli.specs.Sent.{IsSent, IsUnsent, Sent}
use Rattle.driver_cli.specs.Sides.{ReadSide, WriteSide, SinkSide, IsUnfailed, IsKept, HasPut, HavePut, IsUnputBehind, PutsOtherTwo}
use Rattle.driver_cli.specs.Steps.{CommandAnswers, CommandLeaves, WordsAnswers, WordsLeave}
use Rattle.driver_cli.proofs.Stages.{audit_stage, graph_stage, check_stage, plan_stage}
use Rattle.driver_cli.proofs.Exactly.{audit_exact, audit_complete, graph_exact, graph_complete, check_exact, check_complete, plan_exact, plan_complete}
use Rattle.driver_cli.proofs.Making.{make_stage, make_exact, make_complete}

-- ---- sending

module _ (answers : Status → Bytes → Type 0) (left : Type 0) (s : SinkSide) (text : Bytes) where
  whole : (status : Status) → (answers Memory text → ⊥) → answers status text → IsSent s text → Told answers left s status
  whole WriteFault m p sent = inl (text, p, sent)
  whole Memory m p sent = absurd (m p)
  whole status m p sent = (text, p, sent)

  told : (status ended : Status) → (answers Memory text → ⊥) → (answers status text → left) → answers status text → Sent status text s ended → Told answers left s ended
  told status ended m leaves p (inl h) = rw h.0 (whole status m p h.1)
  told status ended m leaves p (inr (inl h)) = rw h.0 (inr (status, text, p, h.1))
  told status ended m leaves p (inr (inr h)) = rw h.0 (leaves p, h.1)

-- ---- what an answer leaves of what failed before

module _ (t l : Bytes) (r : ReadSide) where
  lawful_leaves : (status : Status) (text : Bytes) → LawfulAnswers t l r status text → InputsLeave t l r
  lawful_leaves Refused text (inl h) = inl h.unfailed
  lawful_leaves Refused text (inr h) = inl h.unfailed
  lawful_leaves ReadFault text (inl h) = inr (inl h.unread)
  lawful_leaves ReadFault text (inr h) = inr (inr h.unread)
  lawful_leaves LogUnlawful text h = inl h.read.unfailed
  lawful_leaves status text h = absurd h

  audit_leaves : (status : Status) (text : Bytes) → AuditAnswers t l r status text → InputsLeave t l r
  audit_leaves Done text h = inl h.lawful.read.unfailed
  audit_leaves status text h = lawful_leaves status text h

  graph_leaves : (status : Status) (text : Bytes) → GraphAnswers t l r status text → InputsLeave t l r
  graph_leaves Done text h = inl h.read.unfailed
  graph_leaves LogUnlawful text h = absurd h
  graph_leaves status text h = lawful_leaves status text h

  check_leaves : (c : Bytes) (status : Status) (text : Bytes) → CheckAnswers t l c r status text → CheckLeaves t l c r
  check_leaves c Done text h = inl (inl h.lawful.read.unfailed)
  check_leaves c Rejected text h = inl (inl h.lawful.read.unfailed)
  check_leaves c ReadFault text (inl h) = inl (lawful_leaves ReadFault text h)
  check_leaves c ReadFault text (inr h) = inr h.unread
  check_leaves c status text h = inl (lawful_leaves status text h)

-- ---- files of other names

same_others : (files : Option Files) (name : Bytes) → PutsOthers files files name
same_others None name = tt
same_others (Some files) name = λ other apart. refl

apart_is_no_eq : (r : Ordering) → (r ≡ Equal → ⊥) → is_eq r ≡ false
apart_is_no_eq Less apart = refl
apart_is_no_eq Greater apart = refl
apart_is_no_eq Equal apart = absurd (apart refl)

insert_others : (files : Files) (name bytes other : Bytes) → (other ≡ name → ⊥) → get (insert files name bytes) other ≡ get files other
insert_others files name bytes other apart =
    let unequal : eq_by_cmp (slice_cmp nat_cmp) other name ≡ false = apart_is_no_eq (slice_cmp nat_cmp other name) (λ e. apart (slice_cmp-IsAntisymmetric nat_cmp-IsAntisymmetric other name e)) in
    get-insert nat_list_cmp_total files name bytes other ∙ ap (λ b. cond b (Some bytes) (get files other)) unequal

put_others : (files : Option Files) (name bytes : Bytes) → PutsOthers files (option_map (λ files. insert files name bytes) files) name
put_others None name bytes = tt
put_others (Some files) name bytes = λ other apart. insert_others files name bytes other apart

kept_others : (w : WriteSide) (name : Bytes) → IsKept w → PutsOthers w.files_before w.files_now name
kept_others w name k = subst (λ now. PutsOthers w.files_before now name) (sym k.files) (same_others w.files_before name)

has_put_others : (w : WriteSide) (name bytes : Bytes) → HasPut w name bytes → PutsOthers w.files_before w.files_now name
has_put_others w name bytes h = subst (λ now. PutsOthers w.files_before now name) (sym h.files) (put_others w.files_before name bytes)

module _ (t l c : Bytes) (budget : ℕ) (r : ReadSide) (w : WriteSide) where
  leaves_others : PlanLeaves t l c r w → PutsOthers w.files_before w.files_now c
  leaves_others (read, inl k) = kept_others w c k
  leaves_others (read, inr (inl h)) = has_put_others w c h.bytes h.put
  leaves_others (read, inr (inr h)) = h.others

  -- what an answer of `plan` leaves
  plan_leaves : (status : Status) (text : Bytes) → PlanAnswers t l c budget r w status text → PlanLeaves t l c r w
  plan_leaves Done text h = (inl h.lawful.read.unfailed, inr (inl record { tour = h.tour; log = h.log; lawful = h.lawful; bytes = h.bytes; proof = (h.proof.cert, h.proof.acceptable); put = h.put }))
  plan_leaves Infeasible text h = (inl h.lawful.read.unfailed, inr (inl record { tour = h.tour; log = h.log; lawful = h.lawful; bytes = h.bytes; proof = (h.proof.cert, h.proof.acceptable); put = h.put }))
  plan_leaves WriteFault text h = (inl h.lawful.read.unfailed, inr (inr h.unput))
  plan_leaves Spent text h = (inl h.1.lawful.read.unfailed, inl h.0)
  plan_leaves status text h = (lawful_leaves t l r status text h.1, inl h.0)

-- ---- two files that are put

-- what stays where one file may change, and then another
two_others : (files files' files2 : Option Files) (a b : Bytes) → PutsOthers files files' a → PutsOthers files' files2 b → PutsOtherTwo files files2 a b
two_others None files' files2 a b p q = tt
two_others (Some files) None files2 a b p q = absurd p
two_others (Some files) (Some now) None a b p q = absurd q
two_others (Some files) (Some now) (Some later) a b p q = λ other x y. q other y ∙ p other x

puts_two : (files : Option Files) (a x b y : Bytes) → PutsOtherTwo files (option_map (λ files. insert (insert files a x) b y) files) a b
puts_two None a x b y = tt
puts_two (Some files) a x b y = λ other p q. insert_others (insert files a x) b y other q ∙ insert_others files a x other p

module _ (w : WriteSide) (t l : Bytes) where
  tour_alone : PutsOthers w.files_before w.files_now t → PutsOtherTwo w.files_before w.files_now t l
  tour_alone p = two_others w.files_before w.files_now w.files_now t l p (same_others w.files_now l)

  both_others : (a b : Bytes) → HavePut w t a l b → PutsOtherTwo w.files_before w.files_now t l
  both_others a b h = subst (λ now. PutsOtherTwo w.files_before now t l) (sym h.files) (puts_two w.files_before t a l b)

  after_others : (a : Bytes) → IsUnputBehind w t a l → PutsOtherTwo w.files_before w.files_now t l
  after_others a h = two_others w.files_before (option_map (λ files. insert files t a) w.files_before) w.files_now t l (put_others w.files_before t a) h.others

  make_others : (number : ℕ) → MakeLeaves number t l w → PutsOtherTwo w.files_before w.files_now t l
  make_others number (inl k) = tour_alone (kept_others w t k)
  make_others number (inr (inl h)) = tour_alone (has_put_others w t (tour_made number) h)
  make_others number (inr (inr (inl h))) = both_others (tour_made number) log_made h
  make_others number (inr (inr (inr (inl h)))) = tour_alone h.others
  make_others number (inr (inr (inr (inr h)))) = after_others (tour_made number) h

  -- what an answer of `make` leaves
  make_leaves : (number : ℕ) (status : Status) (text : Bytes) → MakeAnswers number t l w status text → MakeLeaves number t l w
  make_leaves number Done text h = inr (inr (inl h.put))
  make_leaves number Infeasible text h = inr (inr (inl h.put))
  make_leaves number Spent text h = inr (inr (inl h.put))
  make_leaves number WriteFault text (inl h) = inr (inr (inr (inl h.0)))
  make_leaves number WriteFault text (inr h) = inr (inr (inr (inr h.0)))
  make_leaves number status text h = absurd h

-- ---- where nothing fails outside

module _ (answers : Status → Bytes → Type 0) (left : Type 0) (s : SinkSide) (status : Status) where
  no_read_fault : Told answers left s status → ((text : Bytes) → answers ReadFault text → ⊥) → ReadFault ≡ status → ⊥
  no_read_fault e none is = let h : Told answers left s ReadFault = subst (λ x. Told answers left s x) (sym is) e in none h.0 h.1

  no_write_fault : Told answers left s status → ((text : Bytes) → answers WriteFault text → ⊥) → (Rose s.faults_before s.faults_now → ⊥) → WriteFault ≡ status → ⊥
  no_write_fault e none sends is = elim (subst (λ x. Told answers left s x) (sym is) e) [ inl h ↦ none h.0 h.1 | inr h ↦ sends h.3.rose ]

no_input_fault : (t l : Bytes) (r : ReadSide) (text : Bytes) → (Rose r.faults_before r.faults_now → ⊥) → LawfulAnswers t l r ReadFault text → ⊥
no_input_fault t l r text calm (inl h) = calm h.unread.rose
no_input_fault t l r text calm (inr h) = calm h.unread.rose

no_make_fault : (number : ℕ) (t l : Bytes) (w : WriteSide) (text : Bytes) → (Rose w.faults_before w.faults_now → ⊥) → MakeAnswers number t l w WriteFault text → ⊥
no_make_fault number t l w text calm (inl h) = calm h.0.rose
no_make_fault number t l w text calm (inr h) = calm h.0.rose

no_check_fault : (t l c : Bytes) (r : ReadSide) (text : Bytes) → (Rose r.faults_before r.faults_now → ⊥) → CheckAnswers t l c r ReadFault text → ⊥
no_check_fault t l c r text calm (inl h) = no_input_fault t l r text calm h
no_check_fault t l c r text calm (inr h) = calm h.unread.rose

-- ---- each command

module _ (r : ReadSide) (w : WriteSide) (s : SinkSide) (status : Status) where
  audit_ends : (t l : Bytes) → IsKept w → Told (AuditAnswers t l r) (InputsLeave t l r) s status → AuditEnds t l r w s status
  audit_ends t l kept e = record {
    kept = kept;
    told = e;
    exact = λ files is. audit_exact r files is t l status (audit_stage t l r s status e);
    complete = λ files is ok. audit_complete status
        (no_read_fault (AuditAnswers t l r) (InputsLeave t l r) s status e (λ text h. no_input_fault t l r text ok.fetches h))
        (no_write_fault (AuditAnswers t l r) (InputsLeave t l r) s status e (λ text h. h) ok.sends) files t l (audit_exact r files is t l status (audit_stage t l r s status e));
  }

  graph_ends : (t l : Bytes) → IsKept w → Told (GraphAnswers t l r) (InputsLeave t l r) s status → GraphEnds t l r w s status
  graph_ends t l kept e = record {
    kept = kept;
    told = e;
    exact = λ files is. graph_exact r files is t l status (graph_stage t l r s status e);
    complete = λ files is ok. graph_complete status
        (no_read_fault (GraphAnswers t l r) (InputsLeave t l r) s status e (λ text h. no_input_fault t l r text ok.fetches h))
        (no_write_fault (GraphAnswers t l r) (InputsLeave t l r) s status e (λ text h. h) ok.sends) files t l (graph_exact r files is t l status (graph_stage t l r s status e));
  }

  check_ends : (t l c : Bytes) → IsKept w → Told (CheckAnswers t l c r) (CheckLeaves t l c r) s status → CheckEnds t l c r w s status
  check_ends t l c kept e = record {
    kept = kept;
    told = e;
    exact = λ files is. check_exact r files is t l c status (check_stage t l c r s status e);
    complete = λ files is ok. check_complete status
        (no_read_fault (CheckAnswers t l c r) (CheckLeaves t l c r) s status e (λ text h. no_check_fault t l c r text ok.fetches h))
        (no_write_fault (CheckAnswers t l c r) (CheckLeaves t l c r) s status e (λ text h. h) ok.sends) files t l c (check_exact r files is t l c status (check_stage t l c r s status e));
  }

  make_ends : (number : ℕ) (t l : Bytes) → IsUnfailed r → PutsOtherTwo w.files_before w.files_now t l → Told (MakeAnswers number t l w) (MakeLeaves number t l w) s status → MakeEnds number t l r w s status
  make_ends number t l unfailed others e = record {
    good = made_is number;
    unfailed = unfailed;
    others = others;
    told = e;
    exact = make_exact number status (make_stage number t l w s status e);
    complete = λ ok. make_complete number status
        (no_write_fault (MakeAnswers number t l w) (MakeLeaves number t l w) s status e (λ text h. no_make_fault number t l w text ok.puts h) ok.sends)
        (make_exact number status (make_stage number t l w s status e));
  }

  plan_ends : (t l c : Bytes) (budget : ℕ) → PutsOthers w.files_before w.files_now c → Told (PlanAnswers t l c budget r w) (PlanLeaves t l c r w) s status → PlanEnds t l c budget r w s status
  plan_ends t l c budget others e = record {
    others = others;
    told = e;
    exact = λ files is. plan_exact r files is t l budget status (plan_stage t l c budget r w s status e);
    complete = λ files is ok. plan_complete status
        (no_read_fault (PlanAnswers t l c budget r w) (PlanLeaves t l c r w) s status e (λ text h. no_input_fault t l r text ok.fetches h.1))
        (no_write_fault (PlanAnswers t l c budget r w) (PlanLeaves t l c r w) s status e (λ text h. ok.puts h.unput.rose) ok.sends) files t l budget
        (plan_exact r files is t l budget status (plan_stage t l c budget r w s status e));
  }

  -- how a call of a command ends
  abbrev CommandEnds : Command → Type 0
  CommandEnds (Plan t l c budget) = PlanEnds t l c budget r w s status
  CommandEnds (Check t l c) = CheckEnds t l c r w s status
  CommandEnds (Audit t l) = AuditEnds t l r w s status
  CommandEnds (Graph t l) = GraphEnds t l r w s status
  CommandEnds (Make number t l) = MakeEnds number t l r w s status

  by_command : (words : List Bytes) (command : Command) → IsCommandLine words command → CommandEnds command → Ends words r w s status
  by_command words command is e = record {
    usage = λ none. absurd (none command is);
    audit = λ t l is'. subst CommandEnds (one_command words command (Audit t l) is is') e;
    graph = λ t l is'. subst CommandEnds (one_command words command (Graph t l) is is') e;
    check = λ t l c is'. subst CommandEnds (one_command words command (Check t l c) is is') e;
    make = λ number t l is'. subst CommandEnds (one_command words command (Make number t l) is is') e;
    plan = λ t l c budget is'. subst CommandEnds (one_command words command (Plan t l c budget) is is') e;
  }

  by_usage : (words : List Bytes) → IsNoCommandLine words → UsageEnds r w s status → Ends words r w s status
  by_usage words none e = record {
    usage = λ same. e;
    audit = λ t l is. absurd (none (Audit t l) is);
    graph = λ t l is. absurd (none (Graph t l) is);
    check = λ t l c is. absurd (none (Check t l c) is);
    make = λ number t l is. absurd (none (Make number t l) is);
    plan = λ t l c budget is. absurd (none (Plan t l c budget) is);
  }

-- ---- an answer that is sent

usage_is : (s : SinkSide) (status : Status) → Told UsageAnswers ⊤ s status → IsOneOf (Usage ∷ WriteFault ∷ Memory ∷ []) status
usage_is s Usage e = inl refl
usage_is s WriteFault e = inr (inl refl)
usage_is s Memory e = inr (inr (inl refl))
usage_is s status e = absurd e.1

usage_ends : (r : ReadSide) (w : WriteSide) (s : SinkSide) (status : Status) → IsUnfailed r → IsKept w → Told UsageAnswers ⊤ s status → UsageEnds r w s status
usage_ends r w s status unfailed kept e = record { unfailed = unfailed; kept = kept; told = e; exact = usage_is s status e }

module _ (r : ReadSide) (w : WriteSide) (s : SinkSide) (status ended : Status) (text : Bytes) (sent : Sent status text s ended) where
  command_ends : (command : Command) → CommandAnswers command r w status text → CommandEnds r w s ended command
  command_ends (Audit t l) h = audit_ends r w s ended t l h.0 (told (AuditAnswers t l r) (InputsLeave t l r) s text status ended (λ x. x) (audit_leaves t l r status text) h.1 sent)
  command_ends (Graph t l) h = graph_ends r w s ended t l h.0 (told (GraphAnswers t l r) (InputsLeave t l r) s text status ended (λ x. x) (graph_leaves t l r status text) h.1 sent)
  command_ends (Check t l c) h = check_ends r w s ended t l c h.0 (told (CheckAnswers t l c r) (CheckLeaves t l c r) s text status ended (λ x. x) (check_leaves t l r c status text) h.1 sent)
  command_ends (Make number t l) h = make_ends r w s ended number t l h.0 (make_others w t l number (make_leaves w t l number status text h.1))
      (told (MakeAnswers number t l w) (MakeLeaves number t l w) s text status ended (λ x. x) (make_leaves w t l number status text) h.1 sent)
  command_ends (Plan t l c budget) h = plan_ends r w s ended t l c budget (leaves_others t l c budget r w (plan_leaves t l c budget r w status text h))
      (told (PlanAnswers t l c budget r w) (PlanLeaves t l c r w) s text status ended (λ x. x.1) (plan_leaves t l c budget r w status text) h sent)

  pub sent_ends : (words : List Bytes) → WordsAnswers words r w status text → Ends words r w s ended
  sent_ends words (inl h) = by_usage r w s ended words h.0 (usage_ends r w s ended h.1 h.2 (told UsageAnswers ⊤ s text status ended (λ x. x) (λ x. tt) h.3 sent))
  sent_ends words (inr h) = by_command r w s ended words h.0 h.1 (command_ends h.0 h.2)

-- ---- memory runs out before there is an answer

module _ (r : ReadSide) (w : WriteSide) (s : SinkSide) (unsent : IsUnsent s) where
  command_memory : (command : Command) → CommandLeaves command r w → CommandEnds r w s Memory command
  command_memory (Audit t l) leaves = audit_ends r w s Memory t l leaves.0 (leaves.1, unsent)
  command_memory (Graph t l) leaves = graph_ends r w s Memory t l leaves.0 (leaves.1, unsent)
  command_memory (Check t l c) leaves = check_ends r w s Memory t l c leaves.0 (leaves.1, unsent)
  command_memory (Make number t l) leaves = make_ends r w s Memory number t l leaves.0 (make_others w t l number leaves.1) (leaves.1, unsent)
  command_memory (Plan t l c budget) leaves = plan_ends r w s Memory t l c budget (leaves_others t l c budget r w leaves) (leaves, unsent)

  pub memory_ends : (words : List Bytes) → WordsLeave words r w → Ends words r w s Memory
  memory_ends words (inl (unfailed, kept)) = record {
    usage = λ none. usage_ends r w s Memory unfailed kept (tt, unsent);
    audit = λ t l is. command_memory (Audit t l) (kept, inl unfailed);
    graph = λ t l is. command_memory (Graph t l) (kept, inl unfailed);
    check = λ t l c is. command_memory (Check t l c) (kept, inl (inl unfailed));
    make = λ number t l is. command_memory (Make number t l) (unfailed, inl kept);
    plan = λ t l c budget is. command_memory (Plan t l c budget) (inl unfailed, inl kept);
  }
  memory_ends words (inr h) = by_command r w s Memory words h.0 h.1 (command_memory h.0 h.2)
