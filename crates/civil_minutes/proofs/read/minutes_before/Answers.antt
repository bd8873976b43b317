use Rattle.std.proofs.Common.{◌≡◌, ◌∙◌, ap, arith}
use Rattle.std.proofs.lemmas.Int.{ints}
use Rattle.jiff_core.specs.Date.{epoch_day}
use Rattle.jiff_core.proofs.DateLemmas.{civil}
use Rattle.civil_minutes.proofs.CenturyDates.{first_epoch_day, days_within}
use Rattle.civil_minutes.proofs.read.minutes_before.Goals as goal

pub overflow_cast-result : goal.overflow_cast-result
overflow_cast-result c =
    let days = days_within _ _ _ (civil c.args.date) c.requires in
    let within = rw first_epoch_day at days in
    let is : c.to_unix_epoch_day-days.result ≡ epoch_day c.args.date = c.to_unix_epoch_day-days.ensures.value ∙ ap epoch_day c.to_plain.ensures in
    (omega (arith, ints, within, is), omega (arith, ints, within, is))

pub overflow_mul-result : goal.overflow_mul-result
overflow_mul-result c =
    let days = days_within _ _ _ (civil c.args.date) c.requires in
    let within = rw first_epoch_day at days in
    let is : c.to_unix_epoch_day-days.result ≡ epoch_day c.args.date = c.to_unix_epoch_day-days.ensures.value ∙ ap epoch_day c.to_plain.ensures in
    omega (arith, ints, within, is)

pub returns-clause-value : goal.returns-clause-value
returns-clause-value c =
    let days = days_within _ _ _ (civil c.args.date) c.requires in
    let within = rw first_epoch_day at days in
    let is : c.to_unix_epoch_day-days.result ≡ epoch_day c.args.date = c.to_unix_epoch_day-days.ensures.value ∙ ap epoch_day c.to_plain.ensures in
    rw first_epoch_day (omega (arith, ints, within, is))

pub returns-clause-range : goal.returns-clause-range
returns-clause-range c =
    let days = days_within _ _ _ (civil c.args.date) c.requires in
    let within = rw first_epoch_day at days in
    let is : c.to_unix_epoch_day-days.result ≡ epoch_day c.args.date = c.to_unix_epoch_day-days.ensures.value ∙ ap epoch_day c.to_plain.ensures in
    omega (arith, ints, within, is)
