-- What a search for a declared rest or for a base of a padded history p gives.
use Rattle.std.specs.Prelude.{ℕ, ◌+◌, ◌<◌, ◌≤◌, ◌⊎◌, List, Option, MatchOption}
use Rattle.duty_core.specs.declared.activity.Activity.{Activity}
use Rattle.duty_core.specs.DeclaredRest.{IsDeclared, IsLastDeclared}
use Rattle.rule_readings.specs.declared.padded.RestRun.{RestRun}

-- a rest run, which has ended, is declared: it is full, or a mark names it
abbrev pub DeclaresRun : ℕ → (ℕ → Type 0) → ℕ → ℕ → Type 0
DeclaresRun full Marked from to = (from + full ≤ to) ⊎ Marked from

-- the last declared rest that has ended at place i or before, where there is one
abbrev pub IsLastFound : ℕ → List Activity → (ℕ → Type 0) → ℕ → Option RestRun → Type 0
IsLastFound full p Marked i found =
    MatchOption found ((a b : ℕ) → IsDeclared full p Marked a b → b ≤ i → ⊥) (λ run. IsLastDeclared full p Marked i run.from run.to)

-- the first declared rest that ends after place i
pub record IsFirstDeclared (full : ℕ) (p : List Activity) (Marked : ℕ → Type 0) (i from to : ℕ) : Type 0 where
  pub declared : IsDeclared full p Marked from to
  pub thereafter : i < to
  pub first : (a b : ℕ) → IsDeclared full p Marked a b → i < b → to ≤ b

-- where there is one
abbrev pub IsFirstFound : ℕ → List Activity → (ℕ → Type 0) → ℕ → Option RestRun → Type 0
IsFirstFound full p Marked i found =
    MatchOption found ((a b : ℕ) → IsDeclared full p Marked a b → i < b → ⊥) (λ run. IsFirstDeclared full p Marked i run.from run.to)
