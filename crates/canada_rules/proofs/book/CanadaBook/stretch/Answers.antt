use Rattle.std.proofs.Common.{◌≡◌, None, Some, sym, ◌∙◌, ap}
use Rattle.canada_rules.specs.Machine.{ca_may}
use Rattle.canada_rules.specs.Ends.{next_with}
use Rattle.canada_rules.specs.Stretch.{calendar_run, split_at_once}
use Rattle.canada_rules.specs.Laws.Stretch.{found, stretch_is}
use Rattle.canada_rules.proofs.book.CanadaBook.stretch.Goals as goal

-- a rule of the calendar refuses one of the minutes
pub returns-in_err-calendar : goal.returns-in_err-calendar
returns-in_err-calendar c =
    let book = c.args.self.now in
    let t = c.args.next in
    let x = c.args.act in
    let n = c.args.n in
    let none : calendar_run book.day_start t.state.calendar c.args.at x n ≡ None = sym c.calendar_run.ensures ∙ c.in_err-calendar.was in
    c.from_residual.ensures
    ∙ (ap (λ o. found t.mark o (split_at_once n x t.state.split)) (sym none) ∙ stretch_is (ca_may book.berth book.way) book.day_start t c.args.at x n c.requires.some c.requires.inside c.requires.going.free)

-- the calendar goes on
pub returns : goal.returns
returns c =
    let book = c.args.self.now in
    let t = c.args.next in
    let x = c.args.act in
    let n = c.args.n in
    let calendar = c.in_ok-calendar.calendar in
    let split = split_at_once n x t.state.split in
    let there : calendar_run book.day_start t.state.calendar c.args.at x n ≡ Some (calendar, c.in_ok-calendar.chosen) = sym c.calendar_run.ensures ∙ c.in_ok-calendar.was in
    c.next_by.ensures
    ∙ (ap (λ o. next_with o calendar c.either.result) c.split_run.ensures
    ∙ (ap (next_with split calendar) c.either.ensures
    ∙ (ap (λ o. found t.mark o split) (sym there) ∙ stretch_is (ca_may book.berth book.way) book.day_start t c.args.at x n c.requires.some c.requires.inside c.requires.going.free)))
