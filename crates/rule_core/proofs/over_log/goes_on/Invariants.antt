use Rattle.std.proofs.Common.{take}
use Rattle.rule_core.specs.declared.nexts.Next.{Next}
use Rattle.rule_core.specs.declared.roots.Root.{Root}
use Rattle.rule_core.specs.Reach.{IsOneOf}
use Rattle.rule_core.proofs.over_log.goes_on.Given as goal

-- none so far goes on
abbrev pub invariant-loop-root : goal.invariant-loop-root
invariant-loop-root g l =
    (root : Root g.row.B-State.Denot) → IsOneOf (take l.root-index l.roots) root → (next : Next g.row.B-State.Denot) × IsOneOf ((g.B.RuleBook.machine l.book).advances root.state l.at l.act l.n) next → ⊥
