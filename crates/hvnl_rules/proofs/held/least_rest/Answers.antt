use Rattle.std.proofs.Common.{ℕ, ◌+◌, ◌<◌, ◌≤◌, List, length, get_or, take, subst, sym, arith}
use Rattle.std.specs.Prelude.{All}
use Rattle.std.proofs.lemmas.List.{take_more, take_all}
use Rattle.std.proofs.lemmas.List.Elements.{All-push, All-weaker}
use Rattle.allowance.specs.declared.limit.Limit.{Limit}
use Rattle.hvnl_rules.proofs.held.least_rest.Goals.{then-limit-duty, else-limit-duty}
use Rattle.hvnl_rules.proofs.held.least_rest.Goals as goal

-- the limit keeps no more than so many rest units
abbrev Keeps : ℕ → ℕ → Limit → Type 0
Keeps duty rest p = p.duty < duty → p.units ≤ p.duty + rest

one_more : (ps : List Limit) (i duty rest more : ℕ) (d : Limit) → i < length ps → rest ≤ more → Keeps duty more (get_or ps i d) → All (Keeps duty rest) (take i ps) → All (Keeps duty more) (take (i + 1) ps)
one_more ps i duty rest more d l m k a =
    subst (All (Keeps duty more)) (sym (take_more ps i d l))
    (All-push (Keeps duty more) (take i ps) (get_or ps i d) (All-weaker (Keeps duty rest) (Keeps duty more) (λ p h s. let z = h s in omega arith) (take i ps) a) k)

pub loop-limit-preserved : goal.loop-limit-preserved
loop-limit-preserved c =
    let ps : List Limit = c.args.limits.now in
    elim c.if-limit-duty.branch [
      | then-limit-duty w ↦ one_more ps c.loop-limit.limit-index c.args.duty c.loop-limit.rest c.if-limit-duty.rest (record { units = 0; duty = 0 }) (omega arith) (let e = w.rest-is in let m = w.max-rest.ensures in omega arith) (λ s. let e = w.rest-is in let m = w.max-rest.ensures in let t = w.saturating_sub.ensures in omega arith) c.loop-limit.invariant
      | else-limit-duty w ↦ one_more ps c.loop-limit.limit-index c.args.duty c.loop-limit.rest c.if-limit-duty.rest (record { units = 0; duty = 0 }) (omega arith) (let e = w.rest-is in omega arith) (λ s. absurd (let n = w.if-limit-duty.false in omega arith)) c.loop-limit.invariant
    ]

pub returns : goal.returns
returns c =
    let ps : List Limit = c.args.limits.now in
    subst (All (Keeps c.args.duty c.loop-limit.rest)) (take_all c.loop-limit.limit-index ps (omega arith)) c.loop-limit.invariant
