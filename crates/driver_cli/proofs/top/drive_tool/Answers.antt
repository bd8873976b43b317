use Rattle.std.proofs.Common.{subst}
use Rattle.std.proofs.KnownBytes.{Keeps-refl}
use Rattle.std.specs.Prelude.{refl}
use Rattle.driver_cli.specs.Steps.{Settles}
use Rattle.driver_cli.proofs.Ended.{sent_ends, memory_ends}
use Rattle.driver_cli.proofs.Stepped.{settled_answer, settled_memory}
use Rattle.driver_cli.proofs.top.drive_tool.Goals as goal

pub returns-in-Ok : goal.returns-in-Ok
returns-in-Ok g c = record {
  ends = sent_ends _ _ _ _ _ _ c.send_answer.ensures _ (settled_answer _ _ c.answer.result c.in-Ok.answer (subst (Settles c.answer.result) c.in-Ok.is c.settled.ensures) c.answer.ensures.answer);
}

pub returns-in-Err : goal.returns-in-Err
returns-in-Err g c = record {
  ends = memory_ends _ _ _ (record { never = refl; nothing = Keeps-refl _; faults = refl }) _ (settled_memory _ _ c.answer.result c.in-Err.field-0 (subst (Settles c.answer.result) c.in-Err.is c.settled.ensures) c.answer.ensures.answer);
}
