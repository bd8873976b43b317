use Rattle.std.proofs.Common.{◌-◌, sym, ◌∙◌, ap}
use Rattle.canada_rules.specs.Machine.{ca_may}
use Rattle.sleeper_split.specs.declared.rule.TheConstants.SplitRule.{CANADA}
use Rattle.sleeper_split.specs.Ends.{ends_of}
use Rattle.canada_rules.specs.Machine.{ca_fits}
use Rattle.canada_rules.specs.Laws.Ends.{nexts_found}
use Rattle.canada_rules.proofs.book.CanadaBook.nexts.Goals as goal

pub returns : goal.returns
returns c =
    let s = c.args.state.now in
    let book = c.args.self.now in
    let x = c.args.act in
    nexts_found (ca_may book.berth book.way) book.day_start s c.args.at x (c.in-Some.calendar, c.in-Some.mark) c.saturating_sub.result c.ends_of-ends.result
    c.next_by.result c.next_by-2.result c.next_by-3.result
    (sym c.calendar_after.ensures ∙ c.in-Some.is)
    (c.saturating_sub.ensures ∙ ap (λ r. c.args.at - r.long) c.run.ensures)
    (c.ends_of-ends.ensures ∙ ap (λ m. ends_of CANADA m ca_fits s.split x) c.may_split.ensures)
    c.next_by.ensures c.next_by-2.ensures c.next_by-3.ensures
