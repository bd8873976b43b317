-- Stretches of a padded history p: the places from one up to another, without that other. Past the end of p there is rest.
use Rattle.std.specs.Prelude.{◌≡◌, ℕ, ◌+◌, ◌<◌, ◌≤◌, true, false, List}
use Rattle.duty_core.specs.declared.activity.Activity.{Activity}
use Rattle.duty_core.specs.declared.activity.Activity.TheVariants.{Berth}
use Rattle.duty_core.specs.Activity.{rests, drives}
use Rattle.duty_core.specs.History.{unit_at}

-- the stretch is rest
abbrev pub IsRest : List Activity → ℕ → ℕ → Type 0
IsRest p from to = (k : ℕ) → from ≤ k → k < to → rests (unit_at p k) ≡ true

-- the stretch holds no driving
abbrev pub IsStill : List Activity → ℕ → ℕ → Type 0
IsStill p from to = (k : ℕ) → from ≤ k → k < to → drives (unit_at p k) ≡ false

-- the stretch is all Berth
abbrev pub IsBerth : List Activity → ℕ → ℕ → Type 0
IsBerth p from to = (k : ℕ) → from ≤ k → k < to → unit_at p k ≡ Berth

-- the stretch holds n consecutive units of Berth
pub record HoldsBerth (n : ℕ) (p : List Activity) (from to : ℕ) : Type 0 where
  pub at : ℕ
  pub after : from ≤ at
  pub before : at + n ≤ to
  pub berth : IsBerth p at (at + n)

-- the stretch holds n consecutive units of rest
pub record HoldsRest (n : ℕ) (p : List Activity) (from to : ℕ) : Type 0 where
  pub at : ℕ
  pub after : from ≤ at
  pub before : at + n ≤ to
  pub rest : IsRest p at (at + n)
