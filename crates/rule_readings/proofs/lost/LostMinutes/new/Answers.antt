use Rattle.std.proofs.Common.{◌≡◌, ℕ, ◌+◌, cond, Bool, ◌++◌, ◌∷◌, [], ap, subst, sym, ◌∙◌, arith}
use Rattle.rule_readings.proofs.LostFacts.{AreCountsTo, none_yet, small_total, small_before, counts_on, counts_done}
use Rattle.rule_readings.proofs.lost.LostMinutes.new.Goals as goal
use Rattle.rule_readings.proofs.lost.LostMinutes.new.Goals.{then-is_lost, else-is_lost}

pub loop-i-init : goal.loop-i-init
loop-i-init c =
    let e = c.in_ok-push.ensures.items ∙ ap (λ xs. xs ++ 0 ∷ []) c.new-counts.ensures.items in
    subst (λ xs. AreCountsTo c.args.padded.now xs 0 0 0) (sym e) (none_yet c.args.padded.now)

pub overflow_add-total : goal.overflow_add-total
overflow_add-total c = let h = small_total _ _ _ _ _ c.loop-i.invariant in omega arith

pub is_lost-requires-clause-before : goal.is_lost-requires-clause-before
is_lost-requires-clause-before c = c.loop-i.invariant.rest

pub rest_after-before-requires : goal.rest_after-before-requires
rest_after-before-requires c = let h = small_before _ _ _ _ _ c.loop-i.invariant in omega arith

pub loop-i-preserved : goal.loop-i-preserved
loop-i-preserved c =
    let n : c.if-is_lost.total ≡ c.loop-i.total + cond c.is_lost.result 1 0 = elim c.if-is_lost.branch [
      | then-is_lost w ↦ w.total-is ∙ ap (λ (b : Bool). c.loop-i.total + cond {A = ℕ} b 1 0) (sym w.if-is_lost.true)
      | else-is_lost w ↦ (let e : c.if-is_lost.total ≡ c.loop-i.total + 0 = omega arith in e ∙ ap (λ (b : Bool). c.loop-i.total + cond {A = ℕ} b 1 0) (sym w.if-is_lost.false))
    ] in
    subst (λ xs. AreCountsTo c.args.padded.now xs c.if-is_lost.total c.rest_after-before.result (c.loop-i.i + 1)) (sym c.in_ok-push-2.ensures.items)
    (counts_on c.args.padded.now c.loop-i.counts.items c.loop-i.total c.loop-i.before c.loop-i.i c.if-is_lost.total c.rest_after-before.result c.is_lost.result c.at.result
    c.loop-i.invariant c.is_lost.ensures n c.at.ensures c.rest_after-before.ensures)

pub returns : goal.returns
returns c =
    let l = c.len-i-end.ensures.value in
    counts_done c.args.padded.now c.loop-i.counts.items c.loop-i.total c.loop-i.before c.loop-i.i c.len-i-end.result c.loop-i.invariant (omega arith) (omega arith) l
