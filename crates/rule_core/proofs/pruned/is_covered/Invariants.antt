use Rattle.std.proofs.Common.{◌≡◌, true, take}
use Rattle.rule_core.specs.declared.roots.Root.{Root}
use Rattle.rule_core.specs.Reach.{IsOneOf}
use Rattle.rule_core.proofs.pruned.is_covered.Given as goal

-- none so far covers it
abbrev pub invariant-loop-root : goal.invariant-loop-root
invariant-loop-root g l = (root : Root g.row.B-State.Denot) → IsOneOf (take l.root-index l.roots) root → (g.B.RuleBook.machine l.book).covers root.state l.state l.at ≡ true → ⊥
