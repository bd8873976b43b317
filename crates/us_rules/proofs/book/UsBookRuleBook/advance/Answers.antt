use Rattle.std.proofs.Common.{ℕ, ◌+◌, ◌-◌, ◌∙◌, ap, subst, arith}
use Rattle.rule_core.specs.Reach.{nexts_made, listed, IsOneOf}
use Rattle.rule_core.specs.Laws.RefusalLaws.{given_refused}
use Rattle.us_rules.specs.Machine.{IsUsState, us_advances}
use Rattle.us_rules.specs.Laws.States.{some_days}
use Rattle.us_rules.specs.Advance.{IsSteady}
use Rattle.rule_core.specs.Laws.ListedLaws.{is_listed}
use Rattle.us_rules.specs.Ends.{onward}
use Rattle.us_rules.specs.Laws.Spans.{advances_kept, advances_more}
use Rattle.us_rules.specs.Laws.Single.{us_refuses_units}
use Rattle.us_rules.proofs.book.UsBookRuleBook.advance.Goals as goal

pub onward-requires-clause-state : goal.onward-requires-clause-state
onward-requires-clause-state c =
    let book = c.args.self.now in
    let first : ℕ = c.min-first.result in
    (is_listed (λ t. IsUsState book.berth book.days book.day_start t.state (c.args.at + first) × IsSteady t.state c.args.act) c.nexts-nexts.result (λ t o.
    advances_kept book.berth book.days book.day_start c.args.state.now c.args.at c.args.act first t (omega arith) c.requires.state (subst (λ ns. IsOneOf ns t) c.nexts-nexts.ensures o))).0

pub onward-requires-2-clause-state : goal.onward-requires-2-clause-state
onward-requires-2-clause-state c =
    let book = c.args.self.now in
    let first : ℕ = c.min-first.result in
    (is_listed (λ t. IsUsState book.berth book.days book.day_start t.state (c.args.at + first) × IsSteady t.state c.args.act) c.nexts-nexts.result (λ t o.
    advances_kept book.berth book.days book.day_start c.args.state.now c.args.at c.args.act first t (omega arith) c.requires.state (subst (λ ns. IsOneOf ns t) c.nexts-nexts.ensures o))).1

pub onward-requires-3-clause-state : goal.onward-requires-3-clause-state
onward-requires-3-clause-state c =
    let book = c.args.self.now in
    let first : ℕ = c.min-first.result in
    (is_listed (λ t. IsUsState book.berth book.days book.day_start t.state (c.args.at + first) × IsSteady t.state c.args.act) c.nexts-nexts.result (λ t o.
    advances_kept book.berth book.days book.day_start c.args.state.now c.args.at c.args.act first t (omega arith) c.requires.state (subst (λ ns. IsOneOf ns t) c.nexts-nexts.ensures o))).2

-- the units of the first day, and the later ones
pub returns-clause-nexts : goal.returns-clause-nexts
returns-clause-nexts c =
    let book = c.args.self.now in
    let x = c.args.act in
    let first : ℕ = c.min-first.result in
    let n : ℕ = c.args.n - first in
    let at : ℕ = c.args.at + first in
    let a = onward book.berth book.days book.day_start c.nexts-nexts.result.a at x n in
    let b = onward book.berth book.days book.day_start c.nexts-nexts.result.b at x n in
    ap (λ o. listed (nexts_made o c.onward-2.result c.onward-3.result)) c.onward.ensures
    ∙ (ap (λ o. listed (nexts_made a o c.onward-3.result)) c.onward-2.ensures
    ∙ (ap (λ o. listed (nexts_made a b o)) c.onward-3.ensures
    ∙ advances_more book.berth book.days book.day_start c.nexts-nexts.result c.args.state.now c.args.at x first n c.args.n (omega arith) (omega arith) c.nexts-nexts.ensures))

pub returns-then-first-n-clause-refused : goal.returns-then-first-n-clause-refused
returns-then-first-n-clause-refused c = λ first h marks timed e r.
    let book = c.args.self.now in
    given_refused _ (λ at. us_advances book.berth book.days book.day_start c.args.state.now at c.args.act c.args.n) c.args.at _ _
    (c.nexts-nexts.ensures ∙ ap (us_advances book.berth book.days book.day_start c.args.state.now c.args.at c.args.act) c.if-first-n.true) e
    (us_refuses_units book.berth book.days book.day_start first h marks c.args.state.now c.args.act c.args.n (some_days book.days book.week) timed r)

pub returns-clause-refused : goal.returns-clause-refused
returns-clause-refused c = λ first h marks timed e r.
    let book = c.args.self.now in
    given_refused _ (λ at. us_advances book.berth book.days book.day_start c.args.state.now at c.args.act c.args.n) c.args.at _ _ (returns-clause-nexts c) e
    (us_refuses_units book.berth book.days book.day_start first h marks c.args.state.now c.args.act c.args.n (some_days book.days book.week) timed r)
