use Rattle.std.proofs.Common.{◌≡◌, ◌+◌, false, true, drop, None, Some, refl, sym, ◌∙◌, ap, subst}
use Rattle.std.specs.Prelude.{if◌then◌else◌, slice_index_or}
use Rattle.std.proofs.lemmas.List.{take_rest}
use Rattle.day_sums.specs.Sums.{AreSums}
use Rattle.sleeper_split.specs.declared.rule.TheConstants.SplitRule.{US}
use Rattle.sleeper_split.specs.Numbers.{split_of, is_count}
use Rattle.sleeper_split.specs.Laws.NumberLaws.{let_through, then_if}
use Rattle.us_rules.specs.declared.state.UsState.{UsState}
use Rattle.us_rules.specs.Machine.{break_made, week_made, us_made}
use Rattle.us_rules.specs.Numbers.{state_by, holds_break_week}
use Rattle.us_rules.specs.Laws.NumberLaws.{no_sums, held_state}
use Rattle.us_rules.specs.Laws.States.{week_counted}
use Rattle.us_rules.proofs.book.UsBook.state_of.Goals as goal

-- the last numbers are no sums of days
pub returns-in_err-sums : goal.returns-in_err-sums
returns-in_err-sums c =
    let book = c.args.self.now in
    let ns = c.args.numbers.now in
    c.from_residual-in_err-sums.ensures
    ∙ no_sums book.berth book.days book.day_start ns c.args.at (week_counted book.days book.week) (λ s. let z : false ≡ true = c.in_err-sums.ensures.there.1 (subst AreSums (sym (take_rest ns 14)) s) in cc)

-- the counts and the sums are those of a state where the others are in range
pub returns : goal.returns
returns c =
    let book = c.args.self.now in
    let ns = c.args.numbers.now in
    let split = let_through (is_count US book.berth (split_of ns)) (split_of ns) c.in_ok-split.split (sym c.of_numbers.ensures ∙ c.in_ok-split.was) in
    let sums : c.in_ok-sums.sums ≡ drop 14 ns = c.in_ok-sums.ensures.same ∙ take_rest ns 14 in
    let state : UsState = us_made c.in_ok-split.split (break_made (slice_index_or ns 11 0) (slice_index_or ns 12 0)) (week_made (slice_index_or ns 13 0) c.in_ok-sums.sums) in
    let made : state ≡ state_by ns =
    ap (λ s. us_made s (state_by ns).rest_break (week_made (state_by ns).week.rest c.in_ok-sums.sums)) (sym split.1)
    ∙ ap (λ a. us_made (split_of ns) (state_by ns).rest_break (week_made (state_by ns).week.rest a)) sums in
    let there : AreSums (drop 14 ns) = subst AreSums (take_rest ns 14) (c.in_ok-sums.ensures.there.0 refl) in
    c.then_some.ensures
    ∙ (then_if c.holds.result state
    ∙ (ap (λ b. if b then Some state else None) c.holds.ensures
    ∙ (ap (λ (u : UsState). if holds_break_week book.day_start u.rest_break u.week c.args.at then Some u else None) made
    ∙ held_state book.berth book.days book.day_start ns c.args.at (c.if-numbers-from.false ∙ ap (λ n. 14 + n) c.from.ensures) split.0 there)))
