use Rattle.std.proofs.Common.{◌≡◌, ℕ, ◌+◌, Some}
use Rattle.hvnl_rules.specs.Nights.{minutes}
use Rattle.hvnl_rules.specs.Machine.{IsHvnlState, goes_on}
use Rattle.hvnl_rules.proofs.book.go_on.Given as goal

-- What is left to take from here leads where all of it leads from the start.
abbrev pub invariant-loop-k : goal.invariant-loop-k
invariant-loop-k l = record {
  state : IsHvnlState l.state (l.at + minutes l.k);
  reached : (j : ℕ) → l.k + j ≡ l.n → goes_on (Some l.fn.state) l.at l.act l.n ≡ goes_on (Some l.state) (l.at + minutes l.k) l.act j;
}
