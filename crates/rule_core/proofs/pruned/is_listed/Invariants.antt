use Rattle.std.proofs.Common.{◌≡◌, ℕ, List, take}
use Rattle.rule_core.specs.Reach.{IsOneOf}
use Rattle.rule_core.proofs.pruned.is_listed.Given as goal

-- none so far are these
abbrev pub invariant-loop-list : goal.invariant-loop-list
invariant-loop-list l = (list : List ℕ) → IsOneOf (take l.list-index l.lists) list → list ≡ l.numbers → ⊥
