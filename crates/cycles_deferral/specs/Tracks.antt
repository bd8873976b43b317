-- What the days say of lost minutes: those of today and of yesterday, and of the short rest that may still become lost. p is the history so far, after its padding.
use Rattle.std.proofs.Common.{◌≡◌, ℕ, ◌+◌, ◌-◌, ◌<◌, ◌≤◌, List, length}
use Rattle.duty_core.specs.declared.activity.Activity.{Activity}
use Rattle.duty_core.specs.declared.limits.TheConstants.{CA_BLOCK_LEAST}
use Rattle.duty_core.specs.LostMinutes.{lost}
use Rattle.cycles_deferral.specs.declared.days.CanadaDays.{CanadaDays}
use Rattle.cycles_deferral.specs.LostSteps.{IsOpenRun, day_places}

-- d is the day of the last minute, or of the next one
pub record Tracks (day : ℕ → ℕ) (p : List Activity) (d : ℕ) (s : CanadaDays) : Type 0 where
  pub later : 1 ≤ d
  pub run : IsOpenRun p s.rest
  pub upto : (k : ℕ) → k < length p → day k ≤ d
  pub lost_today : lost day p d ≡ s.today.lost
  pub lost_yesterday : (j : ℕ) → j + 1 ≡ d → lost day p j ≡ s.yesterday.lost
  -- while the run in progress is short: its minutes in each of the two days
  pub short_today : s.rest < CA_BLOCK_LEAST → day_places day d (length p - s.rest) (length p) ≡ s.today.short
  pub short_yesterday : s.rest < CA_BLOCK_LEAST → (j : ℕ) → j + 1 ≡ d → day_places day j (length p - s.rest) (length p) ≡ s.yesterday.short
  -- and where it is long, none
  pub long_today : CA_BLOCK_LEAST ≤ s.rest → s.today.short ≡ 0
  pub long_yesterday : CA_BLOCK_LEAST ≤ s.rest → s.yesterday.short ≡ 0
