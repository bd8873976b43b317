use Rattle.std.proofs.Common.{◌≡◌, true, take}
use Rattle.std.specs.List.{list_all}
use Rattle.hvnl_rules.specs.Covers.{covers_period}
use Rattle.hvnl_rules.proofs.nights.are_covered.Given as goal

abbrev pub invariant-loop-start : goal.invariant-loop-start
invariant-loop-start l = list_all (covers_period l.at l.dates l.other) (take l.start-index l.starts) ≡ true
