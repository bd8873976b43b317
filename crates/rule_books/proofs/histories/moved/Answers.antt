use Rattle.std.proofs.Common.{◌≡◌, Some}
use Rattle.std.specs.Option.{option_to_list}
use Rattle.duty_core.specs.Params.{unit_minutes}
use Rattle.rule_core.specs.Reach.{IsOneOf}
use Rattle.rule_core.specs.Laws.ListedLaws.{first_listed, last_listed}
use Rattle.rule_core.specs.Laws.ReachLaws.{equal_units_state}
use Rattle.rule_books.proofs.histories.moved.Goals as goal

-- what an advance gives is reached, and so is a state
pub returns-in-Some : goal.returns-in-Some
returns-in-Some g c =
    let m = g.B.RuleBook.machine c.args.book.now in
    let law = g.met.B.RuleBook.laws c.args.book.now in
    let s = c.args.state.now in
    let t = c.in-Some.next in
    let there : c.in_ok-a.field-0.a ≡ Some t = cc in
    let one : IsOneOf (m.advances s c.args.at c.args.act c.args.n) t = first_listed c.in_ok-a.field-0 t (m.advances s c.args.at c.args.act c.args.n) c.in_ok-a.ensures.nexts there in
    let path = law.advances_reach s c.args.at c.args.act c.args.n t c.requires.state one in
    equal_units_state (unit_minutes m.params) m.is_state m.nexts law.lasts.next_is_state s c.args.at c.args.act c.args.n (option_to_list t.mark) t.state c.requires.state path

pub returns-in-Some-c : goal.returns-in-Some-c
returns-in-Some-c g c =
    let m = g.B.RuleBook.machine c.args.book.now in
    let law = g.met.B.RuleBook.laws c.args.book.now in
    let s = c.args.state.now in
    let t = c.in-Some-c.full in
    let there : c.in_ok-a.field-0.c ≡ Some t = cc in
    let one : IsOneOf (m.advances s c.args.at c.args.act c.args.n) t = last_listed c.in_ok-a.field-0 t (m.advances s c.args.at c.args.act c.args.n) c.in_ok-a.ensures.nexts there in
    let path = law.advances_reach s c.args.at c.args.act c.args.n t c.requires.state one in
    equal_units_state (unit_minutes m.params) m.is_state m.nexts law.lasts.next_is_state s c.args.at c.args.act c.args.n (option_to_list t.mark) t.state c.requires.state path
