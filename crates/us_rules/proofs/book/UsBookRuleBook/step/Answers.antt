use Rattle.std.proofs.Common.{◌∙◌}
use Rattle.rule_core.specs.Laws.RefusalLaws.{given_refused}
use Rattle.us_rules.specs.Machine.{us_nexts}
use Rattle.us_rules.specs.Laws.Single.{us_refuses}
use Rattle.us_rules.specs.Laws.States.{some_days}
use Rattle.us_rules.specs.Laws.Spans.{advances_first}
use Rattle.us_rules.proofs.book.UsBookRuleBook.step.Goals as goal

-- one unit is a step
pub returns-clause-nexts : goal.returns-clause-nexts
returns-clause-nexts c =
    let book = c.args.self.now in
    c.nexts.ensures ∙ advances_first book.berth book.days book.day_start c.args.state.now c.args.at c.args.act

pub returns-clause-refused : goal.returns-clause-refused
returns-clause-refused c = λ first h marks timed e r.
    let book = c.args.self.now in
    given_refused _ (λ at. us_nexts book.berth book.days book.day_start c.args.state.now at c.args.act) c.args.at _ _ (returns-clause-nexts c) e
    (us_refuses book.berth book.days book.day_start first h marks c.args.state.now c.args.act (some_days book.days book.week) timed r)
