use Rattle.std.proofs.Common.{◌++◌}
use Rattle.cycles_deferral.specs.Paths.{ca_padding}
use Rattle.cycles_deferral.specs.Laws.CycleExact.{cycle_once, cycle_leads}
use Rattle.cycles_deferral.specs.Laws.Room.{has_room}
use Rattle.cycles_deferral.proofs.laws.cycle_has_one_path.Goals as goal

pub returns-clause-one : goal.returns-clause-one
returns-clause-one c = cycle_once

pub returns-clause-tells : goal.returns-clause-tells
returns-clause-tells c = λ day days cycle h t r. (cycle_leads day days cycle h t r).counted

pub returns-clause-room : goal.returns-clause-room
returns-clause-room c = λ day days cycle h t r x. has_room day days (ca_padding ++ h) x t (cycle_leads day days cycle h t r).counted
