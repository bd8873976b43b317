use Rattle.std.proofs.Common.{◌≡◌, ℕ, ◌+◌, ◌-◌, ◌*◌, suc, cond, None, Some, ◌∙◌, ap, subst, arith}
use Rattle.hvnl_rules.specs.Nights.{minutes}
use Rattle.hvnl_rules.specs.Machine.{IsHvnlState, hvnl_step, goes_on}
use Rattle.hvnl_rules.specs.Laws.Steps.{step_is_state}
use Rattle.hvnl_rules.proofs.book.go_on.Goals as goal

-- a rule refuses one
pub returns-then-not-branch : goal.returns-then-not-branch
returns-then-not-branch c =
    let left : ℕ = c.args.n - c.loop-k.k - 1 in
    let same : c.args.at + c.unit_of.result * c.loop-k.k ≡ c.args.at + minutes c.loop-k.k = ap (λ u. c.args.at + u * c.loop-k.k) c.unit_of.ensures in
    let refused : hvnl_step c.loop-k.state (c.args.at + minutes c.loop-k.k) c.args.act ≡ None =
    subst (λ m. hvnl_step c.loop-k.state m c.args.act ≡ None) same (c.in_ok-go.ensures ∙ ap (λ b. cond b (Some c.go.new.self) None) c.if-not-branch.true) in
    c.loop-k.invariant.reached (suc left) (omega arith) ∙ ap (λ o. goes_on o (c.args.at + minutes c.loop-k.k + minutes 1) c.args.act left) refused

-- one unit more is taken
pub loop-k-preserved : goal.loop-k-preserved
loop-k-preserved c =
    let at : ℕ = c.args.at + minutes c.loop-k.k in
    let same : c.args.at + c.unit_of.result * c.loop-k.k ≡ at = ap (λ u. c.args.at + u * c.loop-k.k) c.unit_of.ensures in
    let taken : hvnl_step c.loop-k.state at c.args.act ≡ Some c.go.new.self =
    subst (λ m. hvnl_step c.loop-k.state m c.args.act ≡ Some c.go.new.self) same (c.in_ok-go.ensures ∙ ap (λ b. cond b (Some c.go.new.self) None) c.if-not-branch.false) in
    let next : at + minutes 1 ≡ c.args.at + minutes (c.loop-k.k + 1) = omega arith in
    record {
      state = subst (IsHvnlState c.go.new.self) next (step_is_state c.loop-k.state at c.args.act c.go.new.self c.loop-k.invariant.state taken);
      reached = λ j e.
          c.loop-k.invariant.reached (suc j) (omega arith)
          ∙ (ap (λ o. goes_on o (at + minutes 1) c.args.act j) taken
          ∙ ap (λ m. goes_on (Some c.go.new.self) m c.args.act j) next);
    }

-- none is left
pub returns : goal.returns
returns c = c.loop-k.invariant.reached 0 (omega arith)
