use Rattle.std.proofs.Common.{◌-◌, ◌<◌, ◌≤◌}
use Rattle.rule_core.specs.Replay.{GoesOn}
use Rattle.rule_core.proofs.over_log.first_refused.Given as goal

-- over the one number of units some root goes on, or it is none; over the other none does
abbrev pub invariant-loop-kept : goal.invariant-loop-kept
invariant-loop-kept g l = record {
  order : l.kept < l.refused;
  within : l.refused ≤ l.n;
  on : 0 < l.kept → GoesOn (g.B.RuleBook.machine l.book) l.at l.act l.kept l.roots;
  none : GoesOn (g.B.RuleBook.machine l.book) l.at l.act l.refused l.roots → ⊥;
}

abbrev pub decreases-loop-kept : goal.decreases-loop-kept
decreases-loop-kept g l = l.refused - l.kept
