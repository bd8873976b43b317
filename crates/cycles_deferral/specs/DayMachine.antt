-- Canadian days, minute by minute: lost minutes, and deferral.
use Rattle.std.specs.Prelude.{◌≡◌, ℕ, ◌+◌, ◌-◌, ◌<◌, ◌≤◌, ◌⊎◌, min, max, Bool, true, false, cond, ℤ, pos, ◌-ℤ◌, Option, None, Some, nat_lt, nat_le, ◌&&◌, ◌||◌}
use Rattle.duty_core.specs.declared.activity.Activity.{Activity}
use Rattle.duty_core.specs.declared.mark.Mark.{Mark}
use Rattle.duty_core.specs.declared.mark.Mark.TheVariants.{DeferDay}
use Rattle.duty_core.specs.declared.params.RestWay.{RestWay}
use Rattle.duty_core.specs.declared.params.RestWay.TheVariants.{Split, Defer}
use Rattle.duty_core.specs.declared.limits.TheConstants.{DAY_MINUTES, CA_BLOCK_LEAST, CA_FULL_REST, CA_LOST_LIMIT, CA_DEFERRED_LOST_LIMIT, CA_BOTH_LOST_LIMIT}
use Rattle.duty_core.specs.Activity.{rests}
use Rattle.cycles_deferral.specs.declared.days.TheConstants.{NEEDED_LIMIT}
use Rattle.cycles_deferral.specs.declared.days.DayCount.{DayCount}
use Rattle.cycles_deferral.specs.declared.days.CanadaDays.{CanadaDays}

-- # Values

-- the most lost minutes of a day, in the way
abbrev pub lost_limit : RestWay → ℕ
lost_limit Split = CA_LOST_LIMIT
lost_limit Defer = CA_DEFERRED_LOST_LIMIT

-- the count of a day in which at most so many minutes may be lost
pub record IsDayCount (limit : ℕ) (c : DayCount) : Type 0 where
  pub few : c.lost ≤ limit
  pub bounded : c.longest ≤ NEEDED_LIMIT

-- The minutes of today and of yesterday in the run in progress. Where that has 30 minutes, none of it is short.
abbrev pub IsShortOf : ℕ → ℕ → ℕ → Type 0
IsShortOf rest today yesterday = ((CA_BLOCK_LEAST ≤ rest) × (rest ≤ NEEDED_LIMIT) × (today ≡ 0) × (yesterday ≡ 0)) ⊎ ((rest < CA_BLOCK_LEAST) × (today + yesterday ≤ rest))

-- what each value keeps
pub record IsCanadaDays (s : CanadaDays) : Type 0 where
  pub minutes : s.minute ≤ DAY_MINUTES
  pub count_today : IsDayCount (lost_limit s.way) s.today
  pub count_yesterday : IsDayCount (lost_limit s.way) s.yesterday
  pub lost_before : s.before ≤ lost_limit s.way
  pub run : IsShortOf s.rest s.today.short s.yesterday.short

-- what is asked whether it is lawful: the days with minutes of duty, the first of which may have made a lost minute of each short one
pub record IsAtDuty (s : CanadaDays) : Type 0 where
  pub minutes : s.minute ≤ DAY_MINUTES
  pub no_rest : s.rest ≡ 0
  pub lost_today : s.today.lost ≤ DAY_MINUTES + DAY_MINUTES
  pub lost_yesterday : s.yesterday.lost ≤ DAY_MINUTES
  pub short_today : s.today.short ≡ 0
  pub short_yesterday : s.yesterday.short ≡ 0
  pub bounded_today : s.today.longest ≤ NEEDED_LIMIT
  pub bounded_yesterday : s.yesterday.longest ≤ NEEDED_LIMIT
  pub lost_before : s.before ≤ lost_limit s.way

abbrev pub day_count : ℕ → ℕ → ℕ → DayCount
day_count lost short longest = record { lost = lost; short = short; longest = longest }

-- the days with these parts
abbrev pub days_made : RestWay → ℕ → ℕ → DayCount → DayCount → ℕ → Bool → CanadaDays
days_made way minute rest today yesterday before reaches =
    record { way = way; minute = minute; rest = rest; today = today; yesterday = yesterday; before = before; reaches = reaches }

-- after the rest before a history, which reaches back into yesterday
abbrev pub fresh_days : RestWay → CanadaDays
fresh_days way = days_made way 0 NEEDED_LIMIT (day_count 0 0 NEEDED_LIMIT) (day_count 0 0 NEEDED_LIMIT) 0 true

-- # Units

-- a new day
abbrev pub days_turned : CanadaDays → CanadaDays
days_turned s = days_made s.way 0 s.rest (day_count 0 0 0) s.today s.yesterday.lost (nat_lt 0 s.rest)

-- where a new day may begin
abbrev pub days_begun : Bool → CanadaDays → CanadaDays
days_begun new s = cond new (days_turned s) s

-- one more minute of the day
abbrev pub minute_on : ℕ → ℕ
minute_on m = min (m + 1) DAY_MINUTES

-- one more minute of the rest run in progress
abbrev pub rest_on : ℕ → ℕ
rest_on r = min (r + 1) NEEDED_LIMIT

-- a day with one more minute of rest, where the run in progress has so many minutes with it: n more of the day, and `holds` tells whether the run has a minute in the day
abbrev pub rested_day : ℕ → ℕ → Bool → DayCount → DayCount
rested_day rest n holds c = day_count c.lost (cond (nat_lt rest CA_BLOCK_LEAST) (c.short + n) 0) (cond holds (max c.longest rest) c.longest)

abbrev pub days_rested : CanadaDays → CanadaDays
days_rested s = days_made s.way (minute_on s.minute) (rest_on s.rest) (rested_day (rest_on s.rest) 1 true s.today) (rested_day (rest_on s.rest) 0 s.reaches s.yesterday) s.before s.reaches

-- a day where duty ends the run in progress, with n minutes of that duty: what was short is lost
abbrev pub worked_day : ℕ → DayCount → DayCount
worked_day n c = day_count (c.lost + c.short + n) 0 c.longest

abbrev pub days_worked : CanadaDays → CanadaDays
days_worked s = days_made s.way (minute_on s.minute) 0 (worked_day 1 s.today) (worked_day 0 s.yesterday) s.before false

-- # What a minute of duty must keep, the days with it

-- the rest that is needed in the second day, where so many minutes of the first one are lost
abbrev pub needed : ℕ → ℕ
needed lost = CA_FULL_REST + (lost - CA_LOST_LIMIT)

-- yesterday is a second day for the day before
abbrev pub keeps_earlier : CanadaDays → Bool
keeps_earlier s = nat_le s.before CA_LOST_LIMIT || (nat_le (s.before + s.yesterday.lost) CA_BOTH_LOST_LIMIT && nat_le (needed s.before) s.yesterday.longest)

-- today is a second day for yesterday, or may become one: in a later minute of today the rest may follow
abbrev pub keeps_later : CanadaDays → Bool
keeps_later s =
    nat_le s.yesterday.lost CA_LOST_LIMIT
    || (nat_le s.yesterday.lost CA_DEFERRED_LOST_LIMIT
    && (nat_le (s.yesterday.lost + s.today.lost) CA_BOTH_LOST_LIMIT && (nat_lt s.minute DAY_MINUTES || nat_le (needed s.yesterday.lost) s.today.longest)))

abbrev pub keeps_defer : CanadaDays → Bool
keeps_defer s = keeps_earlier s && (keeps_later s && nat_le s.today.lost CA_DEFERRED_LOST_LIMIT)

abbrev pub keeps_split : CanadaDays → Bool
keeps_split s = nat_le s.yesterday.lost CA_LOST_LIMIT && nat_le s.today.lost CA_LOST_LIMIT

abbrev pub keeps_way : RestWay → CanadaDays → Bool
keeps_way Split s = keeps_split s
keeps_way Defer s = keeps_defer s

abbrev pub keeps_days : CanadaDays → Bool
keeps_days s = keeps_way s.way s

-- the mark of the day that begins to lose too much, where `date` is today
abbrev pub mark_between : CanadaDays → CanadaDays → ℤ → Option Mark
mark_between s t date =
    cond (nat_le s.today.lost CA_LOST_LIMIT && nat_lt CA_LOST_LIMIT t.today.lost) (Some (DeferDay date))
    (cond (nat_le s.yesterday.lost CA_LOST_LIMIT && nat_lt CA_LOST_LIMIT t.yesterday.lost) (Some (DeferDay (date -ℤ pos 1))) None)

-- after a minute that stands in the begun days
abbrev pub days_on : CanadaDays → Activity → ℤ → Option (CanadaDays × Option Mark)
days_on s x date =
    cond (rests x) (Some (days_rested s, None))
    (cond (keeps_days (days_worked s)) (Some (days_worked s, mark_between s (days_worked s) date)) None)

-- The days after one more minute of the day `date`, which begins that day where `new`, and the mark that is chosen at it; or that no days follow.
abbrev pub days_after : CanadaDays → Activity → Bool → ℤ → Option (CanadaDays × Option Mark)
days_after s x new date = days_on (days_begun new s) x date
