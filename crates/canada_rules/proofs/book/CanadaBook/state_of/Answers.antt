use Rattle.std.proofs.Common.{◌≡◌, true, sym, ◌∙◌, ap, subst, arith, inl, inr}
use Rattle.canada_rules.specs.Machine.{ca_may, day_made, calendar_made, ca_made}
use Rattle.std.specs.Prelude.{slice_index_or}
use Rattle.sleeper_split.specs.declared.rule.TheConstants.SplitRule.{CANADA}
use Rattle.sleeper_split.specs.Numbers.{split_of, is_count}
use Rattle.sleeper_split.specs.Laws.NumberLaws.{let_through, held_back}
use Rattle.canada_rules.specs.Numbers.{days_of, cycle_of, are_days, is_cycle, fits_day}
use Rattle.canada_rules.specs.Laws.NumberLaws.{no_state, parts_made, reads_state}
use Rattle.canada_rules.proofs.book.CanadaBook.state_of.Goals as goal

-- too few numbers, or no counts of split rests, no days or no counts of a cycle have them
pub returns-in_err-split : goal.returns-in_err-split
returns-in_err-split c =
    let book = c.args.self.now in
    let ns = c.args.numbers.now in
    let none = held_back (is_count CANADA c.may_split.result (split_of ns)) (split_of ns) (sym c.of_numbers.ensures ∙ c.in_err-split.was) in
    c.from_residual.ensures
    ∙ no_state (ca_may book.berth book.way) book.way book.cycle book.day_start ns c.args.at (inr (inl (ap (λ m. is_count CANADA m (split_of ns)) (sym c.may_split.ensures) ∙ none)))

pub returns-in_err-days : goal.returns-in_err-days
returns-in_err-days c =
    let book = c.args.self.now in
    let ns = c.args.numbers.now in
    let none = held_back (are_days book.way ns) (days_of book.way ns) (sym c.days_by.ensures ∙ c.in_err-days.was) in
    c.from_residual-in_err-days.ensures ∙ no_state (ca_may book.berth book.way) book.way book.cycle book.day_start ns c.args.at (inr (inr (inl none)))

pub returns-in_err-cycle : goal.returns-in_err-cycle
returns-in_err-cycle c =
    let book = c.args.self.now in
    let ns = c.args.numbers.now in
    let none = held_back (is_cycle (cycle_of book.cycle ns)) (cycle_of book.cycle ns) (sym c.cycle_by.ensures ∙ c.in_err-cycle.was) in
    c.from_residual-in_err-cycle.ensures ∙ no_state (ca_may book.berth book.way) book.way book.cycle book.day_start ns c.args.at (inr (inr (inr none)))

-- the parts are those of a state where they fit in the day
pub returns : goal.returns
returns c =
    let book = c.args.self.now in
    let ns = c.args.numbers.now in
    let may = ca_may book.berth book.way in
    let by = let_through (is_count CANADA c.may_split.result (split_of ns)) (split_of ns) c.in_ok-split.split (sym c.of_numbers.ensures ∙ c.in_ok-split.was) in
    let days = let_through (are_days book.way ns) (days_of book.way ns) c.in_ok-days.days (sym c.days_by.ensures ∙ c.in_ok-days.was) in
    let cycle = let_through (is_cycle (cycle_of book.cycle ns)) (cycle_of book.cycle ns) c.in_ok-cycle.cycle (sym c.cycle_by.ensures ∙ c.in_ok-cycle.was) in
    let calendar = calendar_made (day_made (slice_index_or ns 11 0) (slice_index_or ns 12 0)) c.in_ok-days.days c.in_ok-cycle.cycle in
    c.then_some.ensures
    ∙ reads_state may book.way book.cycle book.day_start ns c.args.at (ca_made c.in_ok-split.split calendar) c.fits_day.result (omega arith)
    (subst (λ m. is_count CANADA m (split_of ns) ≡ true) c.may_split.ensures by.0) days.0 cycle.0
    (parts_made book.way book.cycle ns c.in_ok-split.split c.in_ok-days.days c.in_ok-cycle.cycle by.1 days.1 cycle.1)
    (c.fits_day.ensures ∙ ap (λ n. fits_day n calendar) c.day_so_far.ensures)
