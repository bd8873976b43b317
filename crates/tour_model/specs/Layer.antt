-- Layers: lists, one for each step.
use Rattle.std.specs.Prelude.{ℕ, List, [], slice_index_or}

-- what stands in the layer of a step; a layer past the last one is empty
abbrev pub layer_at : {X : Type 0} → List (List X) → ℕ → List X
layer_at layers step = slice_index_or layers step []
