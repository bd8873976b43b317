-- Where no marks help units after a history.
use Rattle.std.specs.Prelude.{ℕ, List, [], ◌∷◌, ◌++◌}
use Rattle.duty_core.specs.declared.activity.Activity.{Activity}
use Rattle.duty_core.specs.declared.mark.Mark.{Mark}
use Rattle.duty_core.specs.declared.params.Params.{Params}
use Rattle.duty_core.specs.Lawful.{IsLawfulWith}

-- The history h with these units after it is lawful neither with these marks, nor with these and one more that is first possible at the units: one with which
-- h is not lawful.
pub record IsRefused (params : Params) (first : ℕ) (h : List Activity) (marks : List Mark) (units : List Activity) : Type 0 where
  pub unmarked : IsLawfulWith params first (h ++ units) marks → ⊥
  pub marked : (m : Mark) → (IsLawfulWith params first h (marks ++ m ∷ []) → ⊥) → IsLawfulWith params first (h ++ units) (marks ++ m ∷ []) → ⊥
