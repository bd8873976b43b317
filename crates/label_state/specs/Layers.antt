-- The layers of kept labels, and what may be read from them.
use Rattle.std.specs.Prelude.{ℕ, ◌-◌, List, [], ◌∷◌, ◌++◌, length, map, take, sum_by}
use Rattle.tour_model.specs.declared.label.Label.{Label}
use Rattle.tour_model.specs.Layer.{layer_at}
use Rattle.label_state.specs.declared.kept.Kept.{Kept}

-- the number of labels in all layers
abbrev pub label_count : {X : Type 0} → List (List X) → ℕ
label_count layers = sum_by length layers

-- the place of the last layer, which is its step
abbrev pub last_step : {X : Type 0} → List (List X) → ℕ
last_step layers = length layers - 1

-- the last layer
abbrev pub last_layer : {X : Type 0} → List (List X) → List X
last_layer layers = layer_at layers (last_step layers)

-- the layers with one more label at the end of the last one
abbrev pub with_kept : {X : Type 0} → List (List X) → X → List (List X)
with_kept layers k = take (last_step layers) layers ++ (last_layer layers ++ k ∷ []) ∷ []

-- the labels of a layer, without their parents
abbrev pub labels_of : {S : Type 0} → List (Kept S) → List (Label S)
labels_of layer = map (λ k. k.label) layer

-- and of all layers
abbrev pub label_layers : {S : Type 0} → List (List (Kept S)) → List (List (Label S))
label_layers layers = map labels_of layers
