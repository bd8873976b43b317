-- The numbers by which a state is written down, and which numbers are those of a state.
use Rattle.std.specs.Prelude.{ℕ, ◌+◌, Bool, List, ◌∷◌, ◌++◌, length, drop, Option, None, Some, nat_eq, nat_le, ◌&&◌, if◌then◌else◌}
use Rattle.duty_core.specs.declared.limits.TheConstants.{US_BREAK, US_UNBROKEN_LIMIT, US_RESTART}
use Rattle.day_sums.specs.Sums.{today, are_within}
use Rattle.sleeper_split.specs.declared.rule.TheConstants.SplitRule.{US}
use Rattle.sleeper_split.specs.Numbers.{split_numbers, item, split_of, is_count}
use Rattle.us_rules.specs.declared.numbers.TheConstants.{COUNTS}
use Rattle.us_rules.specs.declared.state.BreakCount.{BreakCount}
use Rattle.us_rules.specs.declared.state.WeekCount.{WeekCount}
use Rattle.us_rules.specs.declared.state.UsState.{UsState}
use Rattle.us_rules.specs.Machine.{break_made, week_made, us_made, day_so_far}

-- # The numbers

-- The numbers of the counts of split rests, the counts of breaks, the rest of the week, and the duty of each day from the youngest on.
abbrev pub us_numbers : UsState → List ℕ
us_numbers s = split_numbers s.split ++ s.rest_break.still ∷ s.rest_break.driven ∷ s.week.rest ∷ s.week.sums

-- the state whose numbers these would be
abbrev pub state_by : List ℕ → UsState
state_by ns = us_made (split_of ns) (break_made (item ns 11) (item ns 12)) (week_made (item ns 13) (drop 14 ns))

-- # What a state is, as a test

-- the counts of breaks and of the week, the lengths of the days apart
abbrev pub holds_break_week : ℕ → BreakCount → WeekCount → ℕ → Bool
holds_break_week day_start c w at = nat_le c.still US_BREAK && (nat_le c.driven US_UNBROKEN_LIMIT && (nat_le w.rest US_RESTART && nat_le (today w.sums) (day_so_far day_start at)))

abbrev pub is_us_state : Bool → ℕ → ℕ → UsState → ℕ → Bool
is_us_state berth days day_start s at =
    is_count US berth s.split && (nat_eq (length s.week.sums) days && (are_within s.week.sums && holds_break_week day_start s.rest_break s.week at))

-- the state that has these numbers at this minute
abbrev pub us_state_of : Bool → ℕ → ℕ → List ℕ → ℕ → Option UsState
us_state_of berth days day_start ns at = if nat_eq (length ns) (COUNTS + days) && is_us_state berth days day_start (state_by ns) at then Some (state_by ns) else None
