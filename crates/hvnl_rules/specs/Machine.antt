-- The machine of Australia: its state, and the successors of a state.
use Rattle.std.specs.Prelude.{ℕ, zero, suc, ◌+◌, ◌*◌, ◌≤◌, ◌&&◌, Bool, List, [], ◌∷◌, All, Option, None, Some, if◌then◌else◌}
use Rattle.duty_core.specs.declared.activity.Activity.{Activity}
use Rattle.duty_core.specs.declared.activity.Activity.TheVariants.{Wait, Off}
use Rattle.duty_core.specs.declared.limits.TheConstants.{DAY_MINUTES, AU_7D_REST}
use Rattle.duty_core.specs.Activity.{works}
use Rattle.rule_core.specs.declared.nexts.Next.{Next}
use Rattle.rule_core.specs.declared.nexts.Idles.{Idles}
use Rattle.allowance.specs.Allow.{IsHeld, may_spend}
use Rattle.hvnl_rules.specs.declared.state.HvnlState.{HvnlState}
use Rattle.hvnl_rules.specs.Counted.{begun, after_duty, after_rest, start_held}
use Rattle.hvnl_rules.specs.Few.{IsFewHeld, AreFewNights}
use Rattle.hvnl_rules.specs.Nights.{no_nights, minutes, nights_ok, dated, pushed, still_open}

-- nothing has begun, and there was rest before
abbrev pub root_state : HvnlState
root_state = record { held = start_held; nights = no_nights }

-- whether the unit that begins at this minute may be duty, with rest for good after it
abbrev pub duty_ok : HvnlState → ℕ → Bool
duty_ok s at = may_spend (begun s.held) && nights_ok (at + minutes 1) (pushed at s.held.run s.nights)

-- after a duty unit that begins at this minute
abbrev pub duty_state : HvnlState → ℕ → HvnlState
duty_state s at = record { held = after_duty s.held; nights = still_open (at + minutes 1) (pushed at s.held.run s.nights) }

-- after a rest unit that begins at this minute
abbrev pub rest_state : HvnlState → ℕ → HvnlState
rest_state s at = record { held = after_rest s.held; nights = still_open (at + minutes 1) (dated at (after_rest s.held).run s.nights) }

-- the successor without a mark
abbrev pub plain : HvnlState → Next HvnlState
plain s = record { state = s; mark = None }

-- the successors by one unit that begins at this minute
abbrev pub hvnl_nexts : HvnlState → ℕ → Activity → List (Next HvnlState)
hvnl_nexts s at x = if works x then (if duty_ok s at then plain (duty_state s at) ∷ [] else []) else plain (rest_state s at) ∷ []

-- the state after one unit, if there is one
abbrev pub hvnl_step : HvnlState → ℕ → Activity → Option HvnlState
hvnl_step s at x = if works x then (if duty_ok s at then Some (duty_state s at) else None) else Some (rest_state s at)

-- the state after n equal units
abbrev pub goes_on : Option HvnlState → ℕ → Activity → ℕ → Option HvnlState
goes_on None at x n = None
goes_on (Some s) at x zero = Some s
goes_on (Some s) at x (suc n) = goes_on (hvnl_step s at x) (at + minutes 1) x n

abbrev pub listed_state : Option HvnlState → List (Next HvnlState)
listed_state None = []
listed_state (Some s) = plain s ∷ []

-- the successors by n equal units, the first of which begins at this minute
abbrev pub hvnl_advances : HvnlState → ℕ → Activity → ℕ → List (Next HvnlState)
hvnl_advances s at x n = listed_state (goes_on (Some s) at x n)

-- rest and waiting
abbrev pub hvnl_idles : Idles
hvnl_idles = record { first = Off; second = Some Wait }

-- a state at this minute
pub record IsHvnlState (s : HvnlState) (at : ℕ) : Type 0 where
  pub held : IsHeld s.held
  pub run : s.held.run ≤ AU_7D_REST
  pub short : All (λ n. n.rest ≤ AU_7D_REST) s.held.needs
  pub starts : All (λ t. t ≤ at) s.nights.starts
  pub dates : All (λ d. DAY_MINUTES * d ≤ at) s.nights.dates
  pub few : IsFewHeld s.held
  pub few_nights : AreFewNights s.nights s.held.run at
