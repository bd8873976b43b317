use Rattle.rule_core.specs.Laws.RefusalLaws.{given_refused}
use Rattle.canada_rules.specs.Machine.{ca_may, ca_nexts}
use Rattle.canada_rules.specs.Laws.Single.{ca_refuses}
use Rattle.canada_rules.proofs.book.CanadaBookRuleBook.step.Goals as goal

pub returns-clause-refused : goal.returns-clause-refused
returns-clause-refused c = λ first h marks timed e r.
    let book = c.args.self.now in
    given_refused _ (λ at. ca_nexts (ca_may book.berth book.way) book.day_start c.args.state.now at c.args.act) c.args.at _ _ c.nexts.ensures e
    (ca_refuses book.berth book.way book.cycle book.day_start first h marks c.args.state.now c.args.act book.begins timed r)
