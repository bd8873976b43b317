-- Times of day.
use Rattle.std.specs.Prelude.{ℕ, ◌+◌, ◌-◌, ◌*◌, ◌==◌, ◌&&◌, nat_lt, if◌then◌else◌, List, length, slice_index, Option, Some, None}
use Rattle.std.specs.Char.{is_ascii_digit}

-- the number of two digits, if they are digits
abbrev pub pair_of : ℕ → ℕ → Option ℕ
pair_of tens units = if is_ascii_digit tens && is_ascii_digit units then Some ((tens - 48) * 10 + (units - 48)) else None

-- the minutes from midnight, if there is such a time of day
abbrev pub minutes_of : Option ℕ → Option ℕ → Option ℕ
minutes_of None minute = None
minutes_of (Some hour) None = None
minutes_of (Some hour) (Some minute) = if nat_lt hour 24 && nat_lt minute 60 then Some (hour * 60 + minute) else None

-- the minutes from midnight to the time of day of a text, HH:MM
unfoldable pub clock_of : List ℕ → Option ℕ
clock_of text =
    if (length text == 5) && (slice_index text 2 == 58)
    then minutes_of (pair_of (slice_index text 0) (slice_index text 1)) (pair_of (slice_index text 3) (slice_index text 4)) else None
