use Rattle.std.proofs.Common.{refl, arith}
use Rattle.std.proofs.lemmas.Int.{ints}
use Rattle.jiff_core.proofs.CalendarLemmas.{days_in_month_bounds}
use Rattle.civil_minutes.proofs.TimeTexts.{time_written, one_text}
use Rattle.civil_minutes.proofs.write.write_minute.Goals as goal

pub returns-clause-time : goal.returns-clause-time
returns-clause-time c =
    rw c.spell.ensures (time_written c.args.at c.date_of-date.result _ _ _ _ _ (omega (arith, ints, c.year.ensures, c.date_of-date.ensures.year)) (omega (arith, ints, c.year.ensures, c.date_of-date.ensures.year)) (omega (arith, ints, c.month.ensures, c.date_of-date.result.month_in)) (omega (arith, ints, c.day.ensures, days_in_month_bounds c.date_of-date.result.year c.date_of-date.result.month, c.date_of-date.result.day_in)) refl refl c.date_of-date.ensures.day)

pub returns-clause-only : goal.returns-clause-only
returns-clause-only c =
    λ text h. rw c.spell.ensures (one_text text _ c.args.at h (time_written c.args.at c.date_of-date.result _ _ _ _ _ (omega (arith, ints, c.year.ensures, c.date_of-date.ensures.year)) (omega (arith, ints, c.year.ensures, c.date_of-date.ensures.year)) (omega (arith, ints, c.month.ensures, c.date_of-date.result.month_in)) (omega (arith, ints, c.day.ensures, days_in_month_bounds c.date_of-date.result.year c.date_of-date.result.month, c.date_of-date.result.day_in)) refl refl c.date_of-date.ensures.day))
