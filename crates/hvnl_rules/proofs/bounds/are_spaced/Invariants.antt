use Rattle.std.proofs.Common.{◌≡◌, ◌<◌, ◌^◌, drop}
use Rattle.hvnl_rules.specs.Few.{is_spaced}
use Rattle.hvnl_rules.proofs.bounds.are_spaced.Given as goal

-- the numbers from here on are those that are left to look at
abbrev pub invariant-loop-number : goal.invariant-loop-number
invariant-loop-number l = record {
  small : l.low < 2 ^ 33;
  same : is_spaced l.apart 0 l.list ≡ is_spaced l.apart l.low (drop l.number-index l.list);
}
