-- Successors as labels of a step.
use Rattle.std.specs.Prelude.{ℕ, List}
use Rattle.rule_core.specs.Reach.{IsOneOf}
use Rattle.cert_text.specs.declared.cover_lists.grown.Grown.{Grown}
use Rattle.cert_text.specs.CoverLists.Cover.{IsLabelAt}

-- Each successor is a label of the step.
abbrev pub AreGrownAt : {S : Type 0} → (S → ℕ → Type 0) → ℕ → ℕ → List (Grown S) → Type 0
AreGrownAt {S} is_state goal step gs = (g : Grown S) → IsOneOf gs g → IsLabelAt is_state goal step g.label
