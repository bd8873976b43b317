-- When one state may stand for another: it asks nothing that the other does not ask.
use Rattle.std.specs.Prelude.{ℕ, List, max, Bool, not, ◌&&◌, ◌||◌, nat_eq, nat_le}
use Rattle.std.specs.List.{list_all, list_any}
use Rattle.duty_core.specs.declared.limits.TheConstants.{AU_LONG_START}
use Rattle.allowance.specs.declared.limit.Need.{Need}
use Rattle.allowance.specs.Allow.{Held, implies, gives}
use Rattle.hvnl_rules.specs.declared.state.HvnlState.{HvnlState}
use Rattle.hvnl_rules.specs.Nights.{Nights, lies_in, first_date, end_date, is_dated, has_nights, past_period, today}

-- # The test

-- before this need is met no unit may be duty
abbrev pub is_tight : Need → Bool
is_tight n = nat_le n.units n.rest

-- the need m asks for as much rest as n, and no later, or for no less and no unit before may be duty
abbrev pub meets : Need → Need → Bool
meets m n = gives m n || (is_tight m && nat_le n.rest m.rest)

-- Runs of rest in progress are equal, or no shorter than there, where the next duty unit begins the same periods after both: there is enough rest for each of them, or there is before a unit may be duty.
abbrev pub covers_run : Held → Held → Bool
covers_run a b = nat_eq a.run b.run || ((nat_le AU_LONG_START b.run || list_any is_tight b.needs) && nat_le b.run a.run)

-- each limit is implied by one of the other, and each need is met with one of the other
abbrev pub covers_held : Held → Held → Bool
covers_held a b =
    covers_run a b && (list_all (λ q. list_any (λ k. implies k q) b.limits) a.limits && list_all (λ n. list_any (λ k. meets k n) b.needs) a.needs)

-- At this minute the period asks no more than one of the other: each night of that one which has a break there, or may get one yet, is one of this, and has its break here where it has one there.
abbrev pub covers_start : ℕ → List ℕ → List ℕ → ℕ → ℕ → Bool
covers_start at dates others start other =
    (nat_le (end_date other) (end_date start) && nat_le (first_date start) (max (first_date other) (today at))) && list_all (λ d. not (lies_in d other) || (lies_in d start && is_dated dates d)) others

-- so is it with some period of the other, or it has its nights already
abbrev pub covers_period : ℕ → List ℕ → Nights → ℕ → Bool
covers_period at dates b start = list_any (covers_start at dates b.dates start) b.starts || has_nights (past_period start) dates start

abbrev pub covers_nights : ℕ → Nights → Nights → Bool
covers_nights at a b = list_all (covers_period at a.dates b) a.starts

abbrev pub covers_state : HvnlState → HvnlState → ℕ → Bool
covers_state a b at = covers_held a.held b.held && covers_nights at a.nights b.nights
