-- The path to the place of a label: along the parents to a root.
use Rattle.std.specs.Prelude.{ℕ, ◌+◌, ◌<◌, zero, suc, List, [], ◌∷◌, ◌++◌, length, Option, None, Some, slice_get}
use Rattle.std.specs.Option.{option_to_list}
use Rattle.duty_core.specs.declared.activity.Activity.{Activity}
use Rattle.duty_core.specs.declared.mark.Mark.{Mark}
use Rattle.rule_core.specs.declared.roots.Root.{Root}
use Rattle.rule_core.specs.Reach.{IsOneOf}
use Rattle.tour_model.specs.Layer.{layer_at}
use Rattle.label_state.specs.declared.kept.Kept.{Kept}

-- the parent's place, the activity and the mark of the label at a place, where there is one
abbrev pub parent_of : {S : Type 0} → Option (Kept S) → ℕ
parent_of None = 0
parent_of (Some k) = k.parent

abbrev pub acts_of : {S : Type 0} → Option (Kept S) → List Activity
acts_of None = []
acts_of (Some k) = k.act ∷ []

abbrev pub marks_of : {S : Type 0} → Option (Kept S) → List Mark
marks_of None = []
marks_of (Some k) = option_to_list k.mark

-- the label at this place of the layer of this step, where there is one
abbrev pub kept_at : {S : Type 0} → List (List (Kept S)) → ℕ → ℕ → Option (Kept S)
kept_at layers step index = slice_get (layer_at layers step) index

-- the place of the root from which the label at this place of the layer of this step grew
abbrev pub root_of : {S : Type 0} → List (List (Kept S)) → ℕ → ℕ → ℕ
root_of layers zero index = parent_of (kept_at layers zero index)
root_of layers (suc step) index = root_of layers step (parent_of (kept_at layers (suc step) index))

-- the activities along the parents, to the label at this place of the layer of this step
abbrev pub path_of : {S : Type 0} → List (List (Kept S)) → ℕ → ℕ → List Activity
path_of layers zero index = []
path_of layers (suc step) index = path_of layers step (parent_of (kept_at layers (suc step) index)) ++ acts_of (kept_at layers (suc step) index)

-- the marks along the same way, those of the root left out
abbrev pub way_marks : {S : Type 0} → List (List (Kept S)) → ℕ → ℕ → List Mark
way_marks layers zero index = []
way_marks layers (suc step) index = way_marks layers step (parent_of (kept_at layers (suc step) index)) ++ marks_of (kept_at layers (suc step) index)

-- the marks of a root, where there is one
abbrev pub root_marks : {S : Type 0} → Option (Root S) → List Mark
root_marks None = []
root_marks (Some root) = root.marks

-- the marks of the path: those of its root, and those along the way
abbrev pub path_marks : {S : Type 0} → List (List (Kept S)) → List (Root S) → ℕ → ℕ → List Mark
path_marks layers roots step index = root_marks (slice_get roots (root_of layers step index)) ++ way_marks layers step index

-- Each label's parent is a place of the layer before, and in the first layer one of a list of so many roots.
pub record HaveParents {S : Type 0} (roots : ℕ) (layers : List (List (Kept S))) : Type 0 where
  pub first : (k : Kept S) → IsOneOf (layer_at layers 0) k → k.parent < roots
  pub later : (step : ℕ) (k : Kept S) → IsOneOf (layer_at layers (step + 1)) k → k.parent < length (layer_at layers step)
