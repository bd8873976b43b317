use Rattle.std.proofs.Common.{sym, ◌∙◌, ap}
use Rattle.rule_core.specs.Laws.RefusalLaws.{given_refused}
use Rattle.hvnl_rules.specs.Machine.{hvnl_nexts, listed_state}
use Rattle.hvnl_rules.specs.Laws.Steps.{nexts_step}
use Rattle.hvnl_rules.specs.Laws.Single.{hvnl_refuses}
use Rattle.hvnl_rules.proofs.book.HvnlBookRuleBook.step.Goals as goal

pub returns-clause-nexts : goal.returns-clause-nexts
returns-clause-nexts c = c.nexts_of.ensures ∙ (ap listed_state c.in_ok-after_one.ensures ∙ sym (nexts_step c.args.state.now c.args.at c.args.act))

pub returns-clause-refused : goal.returns-clause-refused
returns-clause-refused c = λ first h marks timed e r.
    given_refused _ (λ at. hvnl_nexts c.args.state.now at c.args.act) c.args.at _ _ (returns-clause-nexts c) e
    (hvnl_refuses first h marks c.args.state.now c.args.act timed r)
