use Rattle.std.proofs.Common.{◌∙◌, ap}
use Rattle.rule_core.specs.Laws.RefusalLaws.{given_refused}
use Rattle.hvnl_rules.specs.Machine.{listed_state, hvnl_advances}
use Rattle.hvnl_rules.specs.Laws.Single.{hvnl_refuses_units}
use Rattle.hvnl_rules.proofs.book.HvnlBookRuleBook.advance.Goals as goal

pub returns-clause-refused : goal.returns-clause-refused
returns-clause-refused c = λ first h marks timed e r.
    given_refused _ (λ at. hvnl_advances c.args.state.now at c.args.act c.args.n) c.args.at _ _ (c.nexts_of.ensures ∙ ap listed_state c.in_ok-after.ensures) e
    (hvnl_refuses_units first h marks c.args.state.now c.args.act c.args.n timed r)
