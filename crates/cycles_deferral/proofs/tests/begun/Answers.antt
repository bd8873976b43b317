use Rattle.std.proofs.Common.{true, refl, inl}
use Rattle.cycles_deferral.specs.Laws.Room.{room_on}
use Rattle.cycles_deferral.proofs.tests.begun.Goals as goal

pub unit-requires-clause-room : goal.unit-requires-clause-room
unit-requires-clause-room c = room_on c.args.count c.args.act true (inl refl)
