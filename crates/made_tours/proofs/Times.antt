-- The times of the log, of the start and of the end of the windows.
use Rattle.std.proofs.Common.{◌≡◌, ℕ, ◌+◌, ◌≤◌, Option, Some, codes, refl, ap, ◌∙◌, arith, ℤ, pos, ◌+ℤ◌, ◌*ℤ◌}
use Rattle.jiff_core.specs.Calendar.{day_count}
use Rattle.jiff_core.proofs.CalendarLemmas.{days_from_civil-day_count}
use Rattle.jiff_core.proofs.MarchLemmas.{day_count-early, day_count-late}
use Rattle.jiff_core.proofs.SignedLemmas.{signed_arith}
use Rattle.civil_minutes.proofs.CenturyDates.{first_epoch_day}
use Rattle.civil_minutes.specs.Time.{days_after_2000}
use Rattle.civil_minutes.specs.TimeOf.{natural, time_from, time_of}

-- the days from 2000 to a day of February, and of March, of 2026
february : (day : ℕ) → 1 ≤ day → days_after_2000 (pos 2026) 2 day ≡ pos (9_527 + day)
february day some =
    let count : day_count (pos 2026) 2 day ≡ 4_392_437 + day = day_count-early (pos 2026) 12_025 2 day refl (omega arith) (omega arith) some ∙ (omega arith) in
    omega (arith, signed_arith, days_from_civil-day_count (pos 2026) 2 day, count, first_epoch_day)

march : (day : ℕ) → 1 ≤ day → days_after_2000 (pos 2026) 3 day ≡ pos (9_555 + day)
march day some =
    let count : day_count (pos 2026) 3 day ≡ 4_392_465 + day = day_count-late (pos 2026) 12_026 3 day refl (omega arith) (omega arith) some ∙ (omega arith) in
    omega (arith, signed_arith, days_from_civil-day_count (pos 2026) 3 day, count, first_epoch_day)

-- the minute of a time, by its day
abbrev minute_on : ℤ → ℕ → Option ℕ
minute_on day minutes = natural (day *ℤ pos 1440 +ℤ pos minutes)

pub monday_begin : time_of (codes "2026-02-23T08:00") ≡ Some 13_752_480
unfolding time_of time_from
monday_begin = ap (λ day. minute_on day 480) (february 23 (omega arith))

pub monday_end : time_of (codes "2026-02-23T17:00") ≡ Some 13_753_020
unfolding time_of time_from
monday_end = ap (λ day. minute_on day 1_020) (february 23 (omega arith))

pub tuesday_begin : time_of (codes "2026-02-24T08:00") ≡ Some 13_753_920
unfolding time_of time_from
tuesday_begin = ap (λ day. minute_on day 480) (february 24 (omega arith))

pub tuesday_end : time_of (codes "2026-02-24T17:00") ≡ Some 13_754_460
unfolding time_of time_from
tuesday_end = ap (λ day. minute_on day 1_020) (february 24 (omega arith))

pub wednesday_begin : time_of (codes "2026-02-25T08:00") ≡ Some 13_755_360
unfolding time_of time_from
wednesday_begin = ap (λ day. minute_on day 480) (february 25 (omega arith))

pub wednesday_end : time_of (codes "2026-02-25T17:00") ≡ Some 13_755_900
unfolding time_of time_from
wednesday_end = ap (λ day. minute_on day 1_020) (february 25 (omega arith))

pub thursday_begin : time_of (codes "2026-02-26T08:00") ≡ Some 13_756_800
unfolding time_of time_from
thursday_begin = ap (λ day. minute_on day 480) (february 26 (omega arith))

pub thursday_end : time_of (codes "2026-02-26T17:00") ≡ Some 13_757_340
unfolding time_of time_from
thursday_end = ap (λ day. minute_on day 1_020) (february 26 (omega arith))

pub friday_begin : time_of (codes "2026-02-27T08:00") ≡ Some 13_758_240
unfolding time_of time_from
friday_begin = ap (λ day. minute_on day 480) (february 27 (omega arith))

pub friday_end : time_of (codes "2026-02-27T17:00") ≡ Some 13_758_780
unfolding time_of time_from
friday_end = ap (λ day. minute_on day 1_020) (february 27 (omega arith))

pub start_time : time_of (codes "2026-03-02T06:00") ≡ Some 13_762_440
unfolding time_of time_from
start_time = ap (λ day. minute_on day 360) (march 2 (omega arith))

pub last_time : time_of (codes "2026-03-15T06:00") ≡ Some 13_781_160
unfolding time_of time_from
last_time = ap (λ day. minute_on day 360) (march 15 (omega arith))
