use Rattle.std.proofs.Common.{refl, arith}
use Rattle.hvnl_rules.proofs.tests.replayed.Goals as goal

-- the log begins at a whole unit
pub replay-requires : goal.replay-requires
replay-requires c = record { timed = record { begins = record { units = 12; whole = refl }; long = omega arith; ends = omega arith } }
