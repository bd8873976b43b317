use Rattle.std.proofs.Common.{◌≡◌, true, take}
use Rattle.std.specs.List.{list_all}
use Rattle.hvnl_rules.specs.Nights.{has_nights}
use Rattle.hvnl_rules.proofs.nights.are_kept.Given as goal

abbrev pub invariant-loop-start : goal.invariant-loop-start
invariant-loop-start l = list_all (has_nights l.soonest l.dates) (take l.start-index l.starts) ≡ true
