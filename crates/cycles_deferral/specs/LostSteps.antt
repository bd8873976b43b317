-- The lost minutes of days at one more minute. A rest run that is not over is not lost, as if rest followed for good.
use Rattle.std.proofs.Common.{◌≡◌, ℕ, ◌+◌, ◌-◌, ◌<◌, ◌≤◌, false, ◌&&◌, List, length}
use Rattle.std.specs.Prelude.{nat_eq, nat_le}
use Rattle.duty_core.specs.declared.activity.Activity.{Activity}
use Rattle.duty_core.specs.Activity.{rests}
use Rattle.duty_core.specs.History.{unit_at}
use Rattle.duty_core.specs.Stretch.{IsRest}
use Rattle.duty_core.specs.Counting.{places}
use Rattle.cycles_deferral.specs.declared.days.TheConstants.{NEEDED_LIMIT}

-- # A minute of duty ends the rest run in progress

-- the run in progress: the last r minutes, as far as a deferral may need them; where r is less, no more
pub record IsOpenRun (p : List Activity) (r : ℕ) : Type 0 where
  pub there : r ≤ length p
  pub small : r ≤ NEEDED_LIMIT
  pub rest : IsRest p (length p - r) (length p)
  pub starts : r < NEEDED_LIMIT → (i : ℕ) → i + 1 + r ≡ length p → rests (unit_at p i) ≡ false

-- how many places of day j stand from b to n
abbrev pub day_places : (ℕ → ℕ) → ℕ → ℕ → ℕ → ℕ
day_places day j b n = places (λ i. nat_eq (day i) j && nat_le b i) n
