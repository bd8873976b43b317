-- What a search for the last long rest of a padded history p gives.
use Rattle.std.specs.Prelude.{ℕ, ◌≤◌, List, Option, MatchOption}
use Rattle.duty_core.specs.declared.activity.Activity.{Activity}
use Rattle.duty_core.specs.RestRun.{IsLongRun}
use Rattle.duty_core.specs.Counting.{IsLastEnd}

-- where the last rest run of at least so many units ended that ended at place i or before, if one has
abbrev pub IsEndFound : ℕ → List Activity → ℕ → Option ℕ → Type 0
IsEndFound least p i found = MatchOption found ((a b : ℕ) → IsLongRun least p a b → b ≤ i → ⊥) (λ to. IsLastEnd least p i to)
