use Rattle.std.proofs.Common.{◌≡◌, ◌-◌, true, sym, ◌∙◌, subst, arith}
use Rattle.std.specs.List.{list_any}
use Rattle.hvnl_rules.specs.Nights.{dates_from, end_date, is_pair}
use Rattle.hvnl_rules.specs.Laws.Dates.{none_on, one_on}
use Rattle.hvnl_rules.proofs.nights.has_two.Goals as goal

pub returns-then-is_pair : goal.returns-then-is_pair
returns-then-is_pair c =
    let t = is_pair c.args.soonest c.args.dates.now c.args.start in
    let y : t c.loop-date.date ≡ true = sym c.is_pair.ensures ∙ c.if-is_pair.true in
    let found : list_any t (dates_from c.first_date-first.result (c.end_date-end.result - c.first_date-first.result)) ≡ true = one_on t c.first_date-first.result c.loop-date.date c.end_date-end.result (omega arith) (omega arith) y in
    sym (subst (λ first. list_any t (dates_from first (end_date c.args.start - first)) ≡ true) c.first_date-first.ensures.value
    (subst (λ end. list_any t (dates_from c.first_date-first.result (end - c.first_date-first.result)) ≡ true) c.end_date-end.ensures.value found))

pub loop-date-preserved : goal.loop-date-preserved
loop-date-preserved c = none_on (is_pair c.args.soonest c.args.dates.now c.args.start) c.first_date-first.result c.loop-date.date (omega arith) c.loop-date.invariant (sym c.is_pair.ensures ∙ c.if-is_pair.false)
