use Rattle.std.proofs.Common.{◌≡◌, true, take}
use Rattle.std.specs.List.{list_all}
use Rattle.hvnl_rules.specs.Numbers.{has_room}
use Rattle.hvnl_rules.proofs.bounds.have_room.Given as goal

abbrev pub invariant-loop-limit : goal.invariant-loop-limit
invariant-loop-limit l = list_all (has_room l.limits l.run) (take l.limit-index l.limits) ≡ true
