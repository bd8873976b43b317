use Rattle.std.proofs.Common.{◌≡◌, ◌-◌}
use Rattle.std.specs.Prelude.{count_by}
use Rattle.hvnl_rules.specs.Nights.{dates_from, is_safe}
use Rattle.hvnl_rules.proofs.nights.has_four.Given as goal

abbrev pub invariant-loop-date : goal.invariant-loop-date
invariant-loop-date l = l.safe ≡ count_by (is_safe l.soonest l.dates) (dates_from l.first (l.date - l.first))
