-- The exit codes of the planner.
use Rattle.std.specs.Prelude.{ℕ}
use Rattle.driver_cli.specs.declared.answer.Status.{Status}
use Rattle.driver_cli.specs.declared.answer.Status.TheVariants.{Done, Usage, Refused, Infeasible, LogUnlawful, Spent, ReadFault, WriteFault, Memory, Rejected}

-- the exit code of a status
abbrev pub exit_code_of : Status → ℕ
exit_code_of Done = 0
exit_code_of Usage = 1
exit_code_of Refused = 2
exit_code_of Infeasible = 3
exit_code_of LogUnlawful = 4
exit_code_of Spent = 5
exit_code_of ReadFault = 6
exit_code_of WriteFault = 7
exit_code_of Memory = 8
exit_code_of Rejected = 9
