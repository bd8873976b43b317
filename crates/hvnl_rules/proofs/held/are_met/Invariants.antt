use Rattle.std.proofs.Common.{◌≡◌, true, take}
use Rattle.std.specs.List.{list_all, list_any}
use Rattle.hvnl_rules.specs.Covers.{meets}
use Rattle.hvnl_rules.proofs.held.are_met.Given as goal

abbrev pub invariant-loop-need : goal.invariant-loop-need
invariant-loop-need l = list_all (λ n. list_any (λ k. meets k n) l.others) (take l.need-index l.needs) ≡ true
