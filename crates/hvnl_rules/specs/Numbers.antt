-- The numbers by which a state is written down, and which numbers are those of a state.
use Rattle.std.specs.Prelude.{ℕ, zero, suc, ◌+◌, ◌-◌, ◌*◌, min, Bool, ◌&&◌, List, [], ◌∷◌, ◌++◌, length, take, drop, map, Option, None, Some, nat_le, if◌then◌else◌, slice_index_or}
use Rattle.std.specs.List.{list_all}
use Rattle.std.specs.Str.{bytes_eq}
use Rattle.duty_core.specs.declared.limits.TheConstants.{DAY_MINUTES, AU_LONG_START, AU_24H_REST, AU_7D_REST, AU_14D_PERIOD}
use Rattle.allowance.specs.declared.limit.Limit.{Limit}
use Rattle.allowance.specs.declared.limit.Need.{Need}
use Rattle.allowance.specs.Allow.{Held, is_held}
use Rattle.allowance.specs.Few.{slack}
use Rattle.hvnl_rules.specs.declared.state.HvnlState.{HvnlState}
use Rattle.hvnl_rules.specs.Counted.{at_most, at_least}
use Rattle.hvnl_rules.specs.Nights.{Nights, minutes, is_running, has_nights, next_break, today}
use Rattle.hvnl_rules.specs.Few.{wide, most_wide, is_kind, asking, is_spaced, start_distance, is_recent}

-- # The numbers

abbrev pub limit_numbers : List Limit → List ℕ
limit_numbers [] = []
limit_numbers (p ∷ ps) = p.units ∷ p.duty ∷ limit_numbers ps

abbrev pub need_numbers : List Need → List ℕ
need_numbers [] = []
need_numbers (n ∷ ns) = n.units ∷ n.rest ∷ need_numbers ns

-- How many limits, needs and periods there are, and the run in progress. Then the units and the duty of each limit, the units and the rest of each need, how many minutes ago each period began, and how many days ago each night was.
abbrev pub hvnl_numbers : HvnlState → ℕ → List ℕ
hvnl_numbers s at =
    length s.held.limits ∷ length s.held.needs ∷ length s.nights.starts ∷ s.held.run
    ∷ (limit_numbers s.held.limits ++ (need_numbers s.held.needs ++ (map (λ t. at - t) s.nights.starts ++ map (λ d. today at - d) s.nights.dates)))

-- # The state that has them

abbrev pub item : List ℕ → ℕ → ℕ
item ns i = slice_index_or ns i 0

-- the limits and needs that these numbers begin with
abbrev pub limits_in : ℕ → List ℕ → List Limit
limits_in zero ns = []
limits_in (suc n) [] = []
limits_in (suc n) (a ∷ []) = []
limits_in (suc n) (a ∷ b ∷ ns) = at_most a b ∷ limits_in n ns

abbrev pub needs_in : ℕ → List ℕ → List Need
needs_in zero ns = []
needs_in (suc n) [] = []
needs_in (suc n) (a ∷ []) = []
needs_in (suc n) (a ∷ b ∷ ns) = at_least a b ∷ needs_in n ns

-- the numbers from the needs on, from the periods on, and from the nights on
abbrev pub needs_part : List ℕ → List ℕ
needs_part ns = drop (2 * item ns 0) (drop 4 ns)

abbrev pub starts_part : List ℕ → List ℕ
starts_part ns = drop (2 * item ns 1) (needs_part ns)

abbrev pub dates_part : List ℕ → List ℕ
dates_part ns = drop (item ns 2) (starts_part ns)

abbrev pub held_by : List ℕ → Held
held_by ns = record { limits = limits_in (item ns 0) (drop 4 ns); needs = needs_in (item ns 1) (needs_part ns); run = item ns 3 }

abbrev pub nights_by : List ℕ → ℕ → Nights
nights_by ns at = record { starts = map (λ n. at - n) (take (item ns 2) (starts_part ns)); dates = map (λ n. today at - n) (dates_part ns) }

-- the state whose numbers these would be
abbrev pub state_by : List ℕ → ℕ → HvnlState
state_by ns at = record { held = held_by ns; nights = nights_by ns at }

-- so many numbers are there
abbrev pub fits : List ℕ → Bool
fits ns = nat_le (4 + 2 * item ns 0 + 2 * item ns 1 + item ns 2) (length ns)

-- # What a state is, as a test

-- no more limits than starts can have left stay open for as many rest units as this one
abbrev pub has_room : List Limit → ℕ → Limit → Bool
has_room ps run p = nat_le (wide (slack p - 1) ps) (most_wide (slack p - 1 + min run AU_LONG_START))

-- no limit is wider than the longest period, and so many there can be
abbrev pub are_few_limits : List Limit → ℕ → Bool
are_few_limits ps run = list_all (λ p. nat_le p.units AU_14D_PERIOD) ps && list_all (has_room ps run) ps

-- needs of a day's and of a week's rest, at most one of either
abbrev pub are_few_needs : List Need → Bool
are_few_needs ns = list_all is_kind ns && (nat_le (asking AU_24H_REST ns) 1 && nat_le (asking AU_7D_REST ns) 1)

abbrev pub is_few_held : Held → Bool
is_few_held h = are_few_limits h.limits h.run && are_few_needs h.needs

-- periods that are open, far enough from each other and from now
abbrev pub are_few_starts : List ℕ → ℕ → ℕ → Bool
are_few_starts starts run at =
    is_spaced start_distance 0 starts && (list_all (λ t. nat_le (t + minutes (1 + run)) at) starts && list_all (is_running at) starts)

-- dates in their order, none after today and none too long ago
abbrev pub are_few_dates : List ℕ → ℕ → Bool
are_few_dates dates at = is_spaced 1 0 dates && (list_all (is_recent at) dates && list_all (λ d. nat_le (DAY_MINUTES * d) at) dates)

-- and with rest that goes on for good each period has its nights
abbrev pub are_few_nights : Nights → ℕ → ℕ → Bool
are_few_nights n run at = are_few_starts n.starts run at && (are_few_dates n.dates at && list_all (has_nights (next_break at run) n.dates) n.starts)

abbrev pub is_hvnl_state : HvnlState → ℕ → Bool
is_hvnl_state s at = is_held s.held && (nat_le s.held.run AU_7D_REST && (is_few_held s.held && are_few_nights s.nights s.held.run at))

-- the state that has these numbers at this minute
abbrev pub hvnl_state_of : List ℕ → ℕ → Option HvnlState
hvnl_state_of ns at =
    if fits ns && (is_hvnl_state (state_by ns at) at && bytes_eq (hvnl_numbers (state_by ns at) at) ns) then Some (state_by ns at) else None
