-- The rules that are not kept, of a list of rules.
use Rattle.std.specs.Prelude.{◌≡◌, ◌⊎◌, List, [], ◌∷◌}
use Rattle.duty_core.specs.declared.rule.Rule.{Rule}

-- of these rules, in their order, exactly those that are not kept
abbrev pub AreBroken : (Rule → Type 0) → List Rule → List Rule → Type 0
AreBroken Kept [] broken = broken ≡ []
AreBroken Kept (rule ∷ rules) broken = (Kept rule × AreBroken Kept rules broken) ⊎ ((Kept rule → ⊥) × ((later : List Rule) × (broken ≡ rule ∷ later) × AreBroken Kept rules later))
