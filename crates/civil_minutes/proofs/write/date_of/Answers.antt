use Rattle.std.proofs.Common.{◌≡◌, ◌+ℤ◌, ◌/◌, pos, ◌∙◌, FitsSigned, w64, arith}
use Rattle.std.proofs.lemmas.Int.{ints, to_z-of_z}
use Rattle.jiff_core.specs.Date.{epoch_day}
use Rattle.jiff_core.proofs.DateLemmas.{civil}
use Rattle.jiff.proofs.SpanFacts.{date_add-days, can_add-days}
use Rattle.duty_core.specs.declared.limits.TheConstants.{DAY_MINUTES}
use Rattle.civil_minutes.specs.Time.{days_after_2000}
use Rattle.civil_minutes.proofs.CenturyDates.{first_day_number, first_epoch_day, year_within}
use Rattle.civil_minutes.proofs.write.date_of.Goals as goal

pub add-requires : goal.add-requires
add-requires c =
    let fits : FitsSigned w64 c.from-days.result = omega (arith, ints, c.from-days.ensures) in
    let only = simp to_z-of_z at c.days.ensures in
    let first = first_day_number c.date.result c.date.ensures in
    (can_add-days c.date.result c.from-days.result c.days.result only).1 (omega (arith, ints, first, c.from-days.ensures), omega (arith, ints, first, c.from-days.ensures))

pub returns-clause-day : goal.returns-clause-day
returns-clause-day c =
    let fits : FitsSigned w64 c.from-days.result = omega (arith, ints, c.from-days.ensures) in
    let only = simp to_z-of_z at c.days.ensures in
    let first = first_day_number c.date.result c.date.ensures in
    let moved = date_add-days c.date.result c.from-days.result c.days.result only in
    let is : epoch_day c.add.result ≡ epoch_day c.date.result +ℤ c.from-days.result = c.add.ensures ∙ moved in
    rw first_epoch_day (omega (arith, ints, is, first, c.from-days.ensures))

pub returns-clause-year : goal.returns-clause-year
returns-clause-year c =
    let number : days_after_2000 c.add.result.year c.add.result.month c.add.result.day ≡ pos (c.args.at / DAY_MINUTES) = returns-clause-day c in
    year_within _ _ _ (civil c.add.result) (omega (arith, ints, number), omega (arith, ints, number))
