-- The machine of the counted periods, and what its state is of a history.
use Rattle.std.specs.Prelude.{◌↔◌, ℕ, ◌+◌, ◌<◌, ◌≤◌, List, ◌++◌, length, All}
use Rattle.duty_core.specs.declared.activity.Activity.{Activity}
use Rattle.duty_core.specs.declared.limits.TheConstants.{AU_SHORT_START, AU_LONG_START, AU_5H30_PERIOD, AU_5H30_DUTY, AU_8H_PERIOD, AU_8H_DUTY, AU_11H_PERIOD, AU_11H_DUTY, AU_24H_PERIOD, AU_24H_DUTY, AU_24H_REST, AU_7D_PERIOD, AU_7D_DUTY, AU_7D_REST, AU_14D_PERIOD, AU_14D_DUTY}
use Rattle.duty_core.specs.Stretch.{HoldsRest}
use Rattle.duty_core.specs.Counting.{duty}
use Rattle.duty_core.specs.AuPeriods.{IsStart}
use Rattle.allowance.specs.Allow.{Held, Allows, IsHeld}
use Rattle.hvnl_rules.specs.Laws.Ended.{Rests}

-- what is asked of the units from a short start on
pub record IsShortKept (p : List Activity) (i : ℕ) : Type 0 where
  pub half_past_five : duty p i (i + AU_5H30_PERIOD) ≤ AU_5H30_DUTY
  pub eight_hours : duty p i (i + AU_8H_PERIOD) ≤ AU_8H_DUTY
  pub eleven_hours : duty p i (i + AU_11H_PERIOD) ≤ AU_11H_DUTY

-- what is asked of the units from a long start on
pub record IsLongKept (p : List Activity) (i : ℕ) : Type 0 where
  pub day : duty p i (i + AU_24H_PERIOD) ≤ AU_24H_DUTY
  pub week : duty p i (i + AU_7D_PERIOD) ≤ AU_7D_DUTY
  pub fortnight : duty p i (i + AU_14D_PERIOD) ≤ AU_14D_DUTY
  pub day_rest : HoldsRest AU_24H_REST p i (i + AU_24H_PERIOD)
  pub week_rest : HoldsRest AU_7D_REST p i (i + AU_7D_PERIOD)

-- the counted periods that begin before place b are kept
pub record IsCountedBefore (b : ℕ) (p : List Activity) : Type 0 where
  pub short_starts : (i : ℕ) → i < b → IsStart AU_SHORT_START p i → IsShortKept p i
  pub long_starts : (i : ℕ) → i < b → IsStart AU_LONG_START p i → IsLongKept p i

-- The state h is that of the units p: whatever comes, followed by rest for good, the periods that have begun are kept exactly where h allows it.
pub record Tracks (p : List Activity) (h : Held) : Type 0 where
  pub held : IsHeld h
  pub rested : Rests AU_7D_REST p h.run
  pub short : All (λ n. n.rest ≤ AU_7D_REST) h.needs
  pub limits : (xs : List Activity) → IsCountedBefore (length p) (p ++ xs) ↔ Allows h xs
