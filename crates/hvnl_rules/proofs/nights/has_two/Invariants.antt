use Rattle.std.proofs.Common.{◌≡◌, ◌-◌, false}
use Rattle.std.specs.List.{list_any}
use Rattle.hvnl_rules.specs.Nights.{dates_from, is_pair}
use Rattle.hvnl_rules.proofs.nights.has_two.Given as goal

abbrev pub invariant-loop-date : goal.invariant-loop-date
invariant-loop-date l = list_any (is_pair l.soonest l.dates l.start) (dates_from l.first (l.date - l.first)) ≡ false
