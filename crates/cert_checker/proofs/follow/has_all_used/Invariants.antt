use Rattle.std.proofs.Common.{◌≡◌, take, length}
use Rattle.rule_core.specs.Reach.{IsOneOf}
use Rattle.cert_checker.specs.declared.follow.Held.{Held}
use Rattle.cert_checker.proofs.follow.has_all_used.Given as goal

abbrev pub invariant-loop-one : goal.invariant-loop-one
invariant-loop-one g l = (e : Held _) → IsOneOf (take l.one-index l.held) e → e.used ≡ length l.marks → ⊥
