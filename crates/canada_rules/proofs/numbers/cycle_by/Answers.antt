use Rattle.std.proofs.Common.{◌≡◌, true, false, refl, sym, ◌∙◌, subst}
use Rattle.std.proofs.lemmas.List.{take_rest}
use Rattle.day_sums.specs.Sums.{AreSums}
use Rattle.canada_rules.specs.Numbers.{cycle_of}
use Rattle.canada_rules.specs.Laws.NumberLaws.{no_cycle, cycle_read}
use Rattle.canada_rules.proofs.numbers.cycle_by.Goals as goal

-- the last numbers are no sums of days
pub returns-in_err-sums : goal.returns-in_err-sums
returns-in_err-sums c =
    let ns = c.args.numbers.now in
    c.from_residual.ensures ∙ no_cycle (cycle_of c.args.cycle ns) (λ s. let z : false ≡ true = c.in_err-sums.ensures.there.1 (subst AreSums (sym (take_rest ns 26)) s) in cc)

pub returns : goal.returns
returns c =
    let ns = c.args.numbers.now in
    cycle_read c.args.cycle ns c.in_ok-sums.sums c.of_parts.result
    (c.in_ok-sums.ensures.same ∙ take_rest ns 26) (subst AreSums (sym c.in_ok-sums.ensures.same) (c.in_ok-sums.ensures.there.0 refl))
    c.of_parts.ensures.some c.of_parts.ensures.parts
