-- What a search for a place from which is counted gives.
use Rattle.std.specs.Prelude.{ℕ, Option, None, Some, MatchOption}
use Rattle.rule_readings.specs.declared.base.Base.{Base}

-- the place, and how many units time omits, where there is one
abbrev pub IsBaseFound : (ℕ → ℕ → Type 0) → Option Base → Type 0
IsBaseFound From found = MatchOption found ((b u : ℕ) → From b u → ⊥) (λ at. From at.base at.omitted)

-- a place from which time omits nothing
abbrev pub whole : Option ℕ → Option Base
whole None = None
whole (Some from) = Some (record { base = from; omitted = 0 })
