use Rattle.std.proofs.Common.{◌≡◌, ◌-◌, take}
use Rattle.std.specs.Prelude.{map}
use Rattle.hvnl_rules.proofs.nights.ago.Given as goal

abbrev pub invariant-loop-number : goal.invariant-loop-number
invariant-loop-number g l = l.before.items ≡ map (λ n. l.now - n) (take l.number-index l.list)
