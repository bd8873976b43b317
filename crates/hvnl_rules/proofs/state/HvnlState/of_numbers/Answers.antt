use Rattle.std.proofs.Common.{rules, ◌≡◌, Bool, true, cond, Some, None, sym, ◌∙◌, ap}
use Rattle.hvnl_rules.specs.Numbers.{fits}
use Rattle.hvnl_rules.specs.Laws.NumberLaws.{told_means}
use Rattle.hvnl_rules.proofs.state.HvnlState.of_numbers.Goals as goal

pub returns-then-branch : goal.returns-then-branch
returns-then-branch c =
    let f : fits c.args.numbers.now ≡ true = search rules in
    let s = c.in-Some.state in
    sym (told_means c.args.numbers.now c.args.at s _ f (sym c.in-Some.is ∙ c.in_ok-state.ensures) c.in_ok-is_told.ensures ∙ ap (λ (b : Bool). cond b (Some s) None) c.if-branch.true)

pub returns-else-branch : goal.returns-else-branch
returns-else-branch c =
    let f : fits c.args.numbers.now ≡ true = search rules in
    let s = c.in-Some.state in
    sym (told_means c.args.numbers.now c.args.at s _ f (sym c.in-Some.is ∙ c.in_ok-state.ensures) c.in_ok-is_told.ensures ∙ ap (λ (b : Bool). cond b (Some s) None) c.if-branch.false)
