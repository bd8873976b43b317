use Rattle.driver_cli.proofs.Stepped.{beside}
use Rattle.driver_cli.proofs.top.run.Goals as goal

pub returns-in-Plan : goal.returns-in-Plan
returns-in-Plan g c = record { answer = rw c.in-Plan.is c.plan.ensures.answer }

pub returns-in-Make : goal.returns-in-Make
returns-in-Make g c = record { answer = rw c.in-Make.is (beside _ _ _ c.make.result c.make.ensures.unfailed c.make.ensures.answer) }
