-- What the steps of a command give.
use Rattle.std.specs.Prelude.{◌≡◌, ◌⊎◌, ℕ, List, Result, Ok, Err, ⊤}
use Rattle.duty_core.specs.declared.activity.Activity.{Activity}
use Rattle.duty_core.specs.declared.memory.NoMemory.{NoMemory}
use Rattle.tour_model.specs.declared.tour.Tour.{Tour}
use Rattle.tour_plan.specs.Planned.{IsLawfulLog, IsSpent}
use Rattle.outside.specs.Outside.{Bytes}
use Rattle.driver_cli.specs.declared.answer.Answer.{Answer}
use Rattle.driver_cli.specs.declared.answer.Halt.{Halt}
use Rattle.driver_cli.specs.declared.answer.Halt.TheVariants as halt
use Rattle.driver_cli.specs.declared.answer.Status.{Status}
use Rattle.driver_cli.specs.declared.answer.Status.TheVariants.{Done, Infeasible, LogUnlawful, Spent, WriteFault}
use Rattle.command_words.specs.declared.command.Command.{Command}
use Rattle.command_words.specs.declared.command.Command.TheVariants.{Plan, Check, Audit, Graph, Make}
use Rattle.command_words.specs.Command.{IsCommandLine, IsNoCommandLine}
use Rattle.report_text.specs.Made.{tour_made, log_made}
use Rattle.driver_cli.specs.declared.plan.Proposal.{Proposal}
use Rattle.driver_cli.specs.Answers.{UsageAnswers, AuditAnswers, GraphAnswers, CheckAnswers, CheckLeaves, IsShortestProof, IsInfeasibleProof, PlanAnswers, PlanLeaves}
use Rattle.driver_cli.specs.Inputs.{IsUnlawful, InputsLeave}
use Rattle.driver_cli.specs.Make.{IsMadeShortest, IsMadeInfeasible, IsMadeSpent, MakeUnput, MakeAnswers, MakeLeaves}
use Rattle.driver_cli.specs.Sides.{ReadSide, WriteSide, IsUnfailed, IsKept, HasPut, HavePut, IsUnput}
use Rattle.driver_cli.specs.Texts.{spent_text, write_fault_text}

-- The end of a command is an answer of this table; or memory ran out, and this holds.
abbrev pub Concludes : Result Answer Halt → (Status → Bytes → Type 0) → Type 0 → Type 0
Concludes (Ok a) answers memory = answers a.status a.text
Concludes (Err (halt.Answered a)) answers memory = answers a.status a.text
Concludes (Err halt.Memory) answers memory = memory

-- The answer with which a command ended, early or not; none where memory ran out.
abbrev pub Settles : Result Answer Halt → Result Answer NoMemory → Type 0
Settles (Ok a) settled = settled ≡ Ok a
Settles (Err (halt.Answered a)) settled = settled ≡ Ok a
Settles (Err halt.Memory) settled = (none : NoMemory) × (settled ≡ Err none)

-- The log is lawful; or the answer tells where not.
abbrev pub IsLawfulOr : Tour → List Activity → Result Unit Halt → Type 0
IsLawfulOr tour log (Ok done) = IsLawfulLog tour log
IsLawfulOr tour log (Err (halt.Answered a)) = (a.status ≡ LogUnlawful) × IsUnlawful tour log a.text
IsLawfulOr tour log (Err halt.Memory) = ⊤

-- what is answered with a certificate of these bytes
abbrev pub Proves : Tour → List Activity → Bytes → Status → Bytes → Type 0
Proves tour log bytes Done text = IsShortestProof tour log bytes text
Proves tour log bytes Infeasible text = IsInfeasibleProof tour log bytes text
Proves tour log bytes status text = ⊥

-- what is answered without one
abbrev pub Declines : Tour → List Activity → ℕ → Status → Bytes → Type 0
Declines tour log budget Spent text = IsLawfulLog tour log × IsSpent tour log budget × (text ≡ spent_text budget)
Declines tour log budget LogUnlawful text = IsUnlawful tour log text
Declines tour log budget status text = ⊥

-- The log is lawful, and the answer has a certificate; or it has none.
abbrev pub IsProposed : Tour → List Activity → ℕ → Result Proposal Halt → Type 0
IsProposed tour log budget (Ok p) = IsLawfulLog tour log × Proves tour log p.cert.items p.answer.status p.answer.text
IsProposed tour log budget (Err (halt.Answered a)) = Declines tour log budget a.status a.text
IsProposed tour log budget (Err halt.Memory) = ⊤

-- The file was put; or the put failed, and that is answered; or memory ran out, before or after such a failure.
abbrev pub IsFilePut : Bytes → Bytes → WriteSide → Result Unit Halt → Type 0
IsFilePut name bytes w (Ok done) = HasPut w name bytes
IsFilePut name bytes w (Err (halt.Answered a)) = IsUnput w name × (a.status ≡ WriteFault) × (a.text ≡ write_fault_text name)
IsFilePut name bytes w (Err halt.Memory) = IsKept w ⊎ IsUnput w name

-- Both files of a made tour were put, the tour's first; or a put failed, and that is answered; or memory ran out.
abbrev pub AreMadePut : ℕ → Bytes → Bytes → WriteSide → Result Unit Halt → Type 0
AreMadePut number tour_name log_name w (Ok done) = HavePut w tour_name (tour_made number) log_name log_made
AreMadePut number tour_name log_name w (Err (halt.Answered a)) = (a.status ≡ WriteFault) × MakeUnput number tour_name log_name w a.text
AreMadePut number tour_name log_name w (Err halt.Memory) = MakeLeaves number tour_name log_name w

-- what is told of a made tour that was put
abbrev pub Summarizes : ℕ → Tour → List Activity → Status → Bytes → Type 0
Summarizes number tour log Done text = IsMadeShortest number tour log text
Summarizes number tour log Infeasible text = IsMadeInfeasible number tour log text
Summarizes number tour log Spent text = IsMadeSpent number tour log text
Summarizes number tour log status text = ⊥

-- ---- all commands

-- what a command answers
abbrev pub CommandAnswers : Command → ReadSide → WriteSide → Status → Bytes → Type 0
CommandAnswers (Plan tour log cert budget) r w status text = PlanAnswers tour log cert budget r w status text
CommandAnswers (Check tour log cert) r w status text = IsKept w × CheckAnswers tour log cert r status text
CommandAnswers (Audit tour log) r w status text = IsKept w × AuditAnswers tour log r status text
CommandAnswers (Graph tour log) r w status text = IsKept w × GraphAnswers tour log r status text
CommandAnswers (Make number tour log) r w status text = IsUnfailed r × MakeAnswers number tour log w status text

-- what a command leaves where memory runs out
abbrev pub CommandLeaves : Command → ReadSide → WriteSide → Type 0
CommandLeaves (Plan tour log cert budget) r w = PlanLeaves tour log cert r w
CommandLeaves (Check tour log cert) r w = IsKept w × CheckLeaves tour log cert r
CommandLeaves (Audit tour log) r w = IsKept w × InputsLeave tour log r
CommandLeaves (Graph tour log) r w = IsKept w × InputsLeave tour log r
CommandLeaves (Make number tour log) r w = IsUnfailed r × MakeLeaves number tour log w

-- The words are no command; or they are one of this command, which answers so.
abbrev pub WordsAnswers : List Bytes → ReadSide → WriteSide → Status → Bytes → Type 0
WordsAnswers words r w status text =
    (IsNoCommandLine words × IsUnfailed r × IsKept w × UsageAnswers status text)
    ⊎ ((command : Command) × IsCommandLine words command × CommandAnswers command r w status text)

-- what is left where memory runs out: all as it was, or what such a command leaves
abbrev pub WordsLeave : List Bytes → ReadSide → WriteSide → Type 0
WordsLeave words r w = (IsUnfailed r × IsKept w) ⊎ ((command : Command) × IsCommandLine words command × CommandLeaves command r w)
