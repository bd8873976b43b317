-- A state asks few things at once: how many limits, needs, periods and nights it can hold.
use Rattle.std.specs.Prelude.{ℕ, ◌+◌, ◌-◌, ◌*◌, ◌/◌, ◌≤◌, ◌≡◌, min, Bool, true, ◌&&◌, ◌||◌, List, [], ◌∷◌, All, count_by, nat_eq, nat_lt, nat_le}
use Rattle.std.specs.List.{list_all}
use Rattle.duty_core.specs.declared.limits.TheConstants.{DAY_MINUTES, AU_LONG_START, AU_11H_PERIOD, AU_11H_DUTY, AU_24H_PERIOD, AU_24H_REST, AU_7D_PERIOD, AU_7D_REST, AU_14D_PERIOD, AU_14D_DUTY}
use Rattle.allowance.specs.declared.limit.Limit.{Limit}
use Rattle.allowance.specs.declared.limit.Need.{Need}
use Rattle.allowance.specs.Allow.{Held}
use Rattle.allowance.specs.Few.{slack}
use Rattle.hvnl_rules.specs.Nights.{Nights, minutes, is_running, has_nights, next_break}

-- how many of the limits stay open for more than v rest units
abbrev pub wide : ℕ → List Limit → ℕ
wide v ps = count_by (λ p. nat_lt v (slack p)) ps

-- The greatest number of them right after a start. Each long start leaves three limits, the widest of 768 rest units, and the next one is at least 28 rest units away. Each short start leaves three of at most 4 rest units, and the next one is at least one away.
abbrev pub most_wide : ℕ → ℕ
most_wide v = 3 * ((AU_14D_PERIOD - AU_14D_DUTY + AU_LONG_START - 1 - v) / AU_LONG_START) + 3 * (AU_11H_PERIOD - AU_11H_DUTY - v)

-- a need of the rest of a day or of a week
abbrev pub is_kind : Need → Bool
is_kind n = (nat_eq n.rest AU_24H_REST && nat_lt n.units AU_24H_PERIOD) || (nat_eq n.rest AU_7D_REST && nat_lt n.units AU_7D_PERIOD)

-- how many needs ask for so much rest
abbrev pub asking : ℕ → List Need → ℕ
asking rest ns = count_by (λ n. nat_eq n.rest rest) ns

-- each number is at least `apart` more than the one before, and the first one at least `low`
abbrev pub is_spaced : ℕ → ℕ → List ℕ → Bool
is_spaced apart low [] = true
is_spaced apart low (x ∷ xs) = nat_le low x && is_spaced apart (x + apart) xs

-- the distance of two long starts, in minutes: the rest between them, and the duty unit of the first one
abbrev pub start_distance : ℕ
start_distance = minutes (AU_LONG_START + 1)

-- what is held after the unit before this minute
pub record IsFewHeld (h : Held) : Type 0 where
  pub tops : All (λ p. p.units ≤ AU_14D_PERIOD) h.limits
  pub limits : (v : ℕ) → wide v h.limits ≤ most_wide (v + min h.run AU_LONG_START)
  pub kinds : All (λ n. is_kind n ≡ true) h.needs
  pub day_needs : asking AU_24H_REST h.needs ≤ 1
  pub week_needs : asking AU_7D_REST h.needs ≤ 1

-- the night counts in a period that is open at this minute
abbrev pub is_recent : ℕ → ℕ → Bool
is_recent at date = nat_lt at (DAY_MINUTES * date + minutes AU_14D_PERIOD)

-- the periods and nights, where so much rest stands before this minute
pub record AreFewNights (n : Nights) (run at : ℕ) : Type 0 where
  pub spaced : is_spaced start_distance 0 n.starts ≡ true
  pub begun : All (λ t. t + minutes (1 + run) ≤ at) n.starts
  pub unfinished : All (λ t. is_running at t ≡ true) n.starts
  pub ordered : is_spaced 1 0 n.dates ≡ true
  pub recent : All (λ d. is_recent at d ≡ true) n.dates
  -- with rest that goes on for good each period has its nights
  pub kept : list_all (has_nights (next_break at run) n.dates) n.starts ≡ true
