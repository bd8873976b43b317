-- The base of a place of a padded history p: from there driving, duty and elapsed time are counted.
use Rattle.std.specs.Prelude.{◌≡◌, ℕ, ◌+◌, ◌-◌, ◌⊎◌, List}
use Rattle.duty_core.specs.declared.activity.Activity.{Activity}
use Rattle.duty_core.specs.RestRun.{IsLongRun}
use Rattle.duty_core.specs.DeclaredRest.{IsLastDeclared, IsWaiting}

-- Where the last declared rest is full, counts run from its end, and elapsed time omits nothing.
pub record IsFullBase (full : ℕ) (p : List Activity) (Marked : ℕ → Type 0) (i base omitted : ℕ) : Type 0 where
  pub from : ℕ
  pub last : IsLastDeclared full p Marked i from base
  pub rest : IsLongRun full p from base
  pub none : omitted ≡ 0

-- Where it is split, counts run from the end of the declared rest before it, and elapsed time omits the split one.
pub record IsSplitBase (full : ℕ) (p : List Activity) (Marked : ℕ → Type 0) (i base omitted : ℕ) : Type 0 where
  pub from : ℕ
  pub to : ℕ
  pub waits : IsWaiting full p Marked i from to
  pub earlier : ℕ
  pub before : IsLastDeclared full p Marked from earlier base
  pub omits : omitted + from ≡ to

-- At place i counts run from place `base`, and elapsed time omits so many units.
abbrev pub IsBase : ℕ → List Activity → (ℕ → Type 0) → ℕ → ℕ → ℕ → Type 0
IsBase full p Marked i base omitted = IsFullBase full p Marked i base omitted ⊎ IsSplitBase full p Marked i base omitted

-- the time from the base up to place `to`, without the omitted units
abbrev pub elapsed : ℕ → ℕ → ℕ → ℕ
elapsed base omitted to = to - base - omitted
