use Rattle.std.proofs.Common.{◌≡◌, Some}
use Rattle.rule_core.specs.Reach.{IsOneOf}
use Rattle.rule_core.specs.Laws.ListedLaws.{middle_listed}
use Rattle.rule_books.proofs.histories.declared.Goals as goal

-- a successor is a state
pub returns-in-Some : goal.returns-in-Some
returns-in-Some g c =
    let m = g.B.RuleBook.machine c.args.book.now in
    let law = g.met.B.RuleBook.laws c.args.book.now in
    let s = c.args.state.now in
    let t = c.in-Some.next in
    let there : c.in_ok-b.field-0.b ≡ Some t = cc in
    let one : IsOneOf (m.nexts s c.args.at c.args.act) t = middle_listed c.in_ok-b.field-0 t (m.nexts s c.args.at c.args.act) c.in_ok-b.ensures.nexts there in
    law.lasts.next_is_state s c.args.at c.args.act t c.requires.state one
