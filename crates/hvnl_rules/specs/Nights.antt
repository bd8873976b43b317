-- What the periods of fourteen days know of their nights, and how that goes on. Minutes are civil, and a night is named by the date that begins at its midnight: day 0 is the first one.
use Rattle.std.specs.Prelude.{ℕ, zero, suc, ◌+◌, ◌-◌, ◌*◌, ◌/◌, max, Bool, not, ◌&&◌, ◌||◌, List, [], ◌∷◌, ◌++◌, filter, count_by, nat_eq, nat_lt, nat_le, if◌then◌else◌}
use Rattle.std.specs.List.{list_all, list_any}
use Rattle.duty_core.specs.declared.params.Params.TheVariants.{Hvnl}
use Rattle.duty_core.specs.declared.limits.TheConstants.{DAY_MINUTES, AU_LONG_START, AU_14D_PERIOD, AU_14D_NIGHTS, AU_NIGHT_BEFORE, AU_NIGHT_AFTER, AU_NIGHT_REST, AU_NIGHT_LONG_REST}
use Rattle.duty_core.specs.Params.{unit_minutes}

-- the minutes at which the open periods began, and the dates whose nights have a break and may count in one of them
pub record Nights : Type 0 where
  pub starts : List ℕ
  pub dates : List ℕ

-- nothing has begun
abbrev pub no_nights : Nights
no_nights = record { starts = []; dates = [] }

-- so many units, in minutes
abbrev pub minutes : ℕ → ℕ
minutes n = unit_minutes Hvnl * n

-- at this minute the period is not over yet
abbrev pub is_running : ℕ → ℕ → Bool
is_running at start = nat_lt at (start + minutes AU_14D_PERIOD)

-- the night begins in the period, or after it
abbrev pub begins_in : ℕ → ℕ → Bool
begins_in date start = nat_le (start + minutes AU_NIGHT_BEFORE) (DAY_MINUTES * date)

-- the night ends in the period, or before it
abbrev pub ends_in : ℕ → ℕ → Bool
ends_in date start = nat_le (DAY_MINUTES * date + minutes AU_NIGHT_AFTER) (start + minutes AU_14D_PERIOD)

-- the night lies in the period
abbrev pub lies_in : ℕ → ℕ → Bool
lies_in date start = begins_in date start && ends_in date start

-- so many dates from this one on
abbrev pub dates_from : ℕ → ℕ → List ℕ
dates_from date zero = []
dates_from date (suc n) = date ∷ dates_from (date + 1) n

-- the nights of a period: the first one, the one after the last, and all
abbrev pub first_date : ℕ → ℕ
first_date start = (start + minutes AU_NIGHT_BEFORE + (DAY_MINUTES - 1)) / DAY_MINUTES

abbrev pub end_date : ℕ → ℕ
end_date start = (start + (minutes AU_14D_PERIOD - minutes AU_NIGHT_AFTER)) / DAY_MINUTES + 1

abbrev pub period_dates : ℕ → List ℕ
period_dates start = dates_from (first_date start) (end_date start - first_date start)

abbrev pub is_dated : List ℕ → ℕ → Bool
is_dated dates date = list_any (nat_eq date) dates

-- the night has a break, or gets one by rest that gives breaks from the minute `soonest` on
abbrev pub is_safe : ℕ → List ℕ → ℕ → Bool
is_safe soonest dates date = is_dated dates date || nat_le soonest (DAY_MINUTES * date + minutes AU_NIGHT_AFTER)

-- so have enough nights of the period, and two consecutive ones
abbrev pub has_four : ℕ → List ℕ → ℕ → Bool
has_four soonest dates start = nat_le AU_14D_NIGHTS (count_by (is_safe soonest dates) (period_dates start))

abbrev pub is_pair : ℕ → List ℕ → ℕ → ℕ → Bool
is_pair soonest dates start date = (is_safe soonest dates date && is_safe soonest dates (date + 1)) && ends_in (date + 1) start

abbrev pub has_two : ℕ → List ℕ → ℕ → Bool
has_two soonest dates start = list_any (is_pair soonest dates start) (period_dates start)

abbrev pub has_nights : ℕ → List ℕ → ℕ → Bool
has_nights soonest dates start = has_four soonest dates start && has_two soonest dates start

-- with rest for good from this minute on each period has its nights
abbrev pub nights_ok : ℕ → Nights → Bool
nights_ok at n = list_all (has_nights (at + minutes AU_NIGHT_REST) n.dates) n.starts

-- With rest for good from this minute on, where so much rest stands before it, breaks come from here on.
abbrev pub next_break : ℕ → ℕ → ℕ
next_break at run = at + minutes (max 1 (AU_NIGHT_REST - run))

-- No night of the period ends as late as this: one that is safe then has its break already.
abbrev pub past_period : ℕ → ℕ
past_period start = start + minutes (AU_14D_PERIOD + 1)

-- the date of a minute
abbrev pub today : ℕ → ℕ
today at = at / DAY_MINUTES

-- With the rest unit that begins at this minute, after which the history ends with so much rest, the night has a break: inside it, or over its midnight.
abbrev pub is_rested : ℕ → ℕ → ℕ → Bool
is_rested at run date =
    (nat_le AU_NIGHT_REST run && (nat_le (DAY_MINUTES * date + minutes AU_NIGHT_REST) (at + minutes (1 + AU_NIGHT_BEFORE)) && nat_le (at + minutes 1) (DAY_MINUTES * date + minutes AU_NIGHT_AFTER)))
    || (nat_le AU_NIGHT_LONG_REST run && nat_lt (at + minutes 1) (DAY_MINUTES * date + minutes AU_NIGHT_LONG_REST))

-- with that rest unit: only the night of its date can get its break there
abbrev pub dated : ℕ → ℕ → Nights → Nights
dated at run n = if is_rested at run (today at) && not (is_dated n.dates (today at)) then record n { dates = n.dates ++ today at ∷ [] } else n

-- with a duty unit that begins at this minute, where so much rest stands before it
abbrev pub pushed : ℕ → ℕ → Nights → Nights
pushed at run n = if nat_le AU_LONG_START run then record n { starts = n.starts ++ at ∷ [] } else n

-- at this minute: periods that are over leave, and so do nights that lie in none
abbrev pub running : ℕ → List ℕ → List ℕ
running at starts = filter (is_running at) starts

abbrev pub counted : List ℕ → List ℕ → List ℕ
counted starts dates = filter (λ date. list_any (lies_in date) starts) dates

abbrev pub still_open : ℕ → Nights → Nights
still_open at n = record { starts = running at n.starts; dates = counted (running at n.starts) n.dates }
