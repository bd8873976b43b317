-- The minute that a text stands for, as a function.
use Rattle.std.specs.Prelude.{ℕ, ◌+◌, ◌-◌, ◌*◌, ◌&&◌, nat_le, nat_lt, if◌then◌else◌, Bool, ℤ, pos, negsuc, List, slice_index, Option, Some, None}
use Rattle.std.specs.Str.{bytes_eq}
use Rattle.jiff_core.specs.Calendar.{days_in_month}
use Rattle.civil_minutes.specs.Time.{time_text, minutes_until}

-- the number that the two bytes at the place spell, if they are digits
abbrev pub digits_at : List ℕ → ℕ → ℕ
digits_at text place = 10 * (slice_index text place - 48) + (slice_index text (place + 1) - 48)

-- whether the parts name a time of the years 2000 to 2099
abbrev pub is_time : ℕ → ℕ → ℕ → ℕ → ℕ → Bool
is_time year month day hour minute =
    nat_le 2000 year && nat_le year 2099 && nat_le 1 month && nat_le month 12 && nat_le 1 day && nat_le day (days_in_month (pos year) month)
    && nat_lt hour 24 && nat_lt minute 60

-- the number, if it is not negative
abbrev pub natural : ℤ → Option ℕ
natural (pos n) = Some n
natural (negsuc n) = None

-- the civil minute of these parts, if they name a time and the text spells it
unfoldable pub time_from : List ℕ → ℕ → ℕ → ℕ → ℕ → ℕ → Option ℕ
time_from text year month day hour minute =
    if is_time year month day hour minute && bytes_eq text (time_text year month day hour minute)
    then natural (minutes_until year month day hour minute) else None

-- the civil minute of a time's text, YYYY-MM-DDTHH:MM
unfoldable pub time_of : List ℕ → Option ℕ
time_of text = time_from text (2000 + digits_at text 2) (digits_at text 5) (digits_at text 8) (digits_at text 11) (digits_at text 14)
