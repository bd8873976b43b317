-- Where the labels of each progress stand in the last layer.
use Rattle.std.specs.Prelude.{◌≡◌, ℕ, ◌+◌, ◌<◌, List, length, Some, slice_get, slice_index_or}
use Rattle.label_state.specs.declared.kept.Kept.{Kept}

-- The places are those of a layer's labels of this progress, all of them, in order, where the layer's first label stands at place i.
pub record ArePlaces {S : Type 0} (p i : ℕ) (layer : List (Kept S)) (places : List ℕ) : Type 0 where
  pub there : (m : ℕ) → m < length places → (j : ℕ) × (slice_index_or places m 0 ≡ i + j) × (j < length layer)
  pub all : (j : ℕ) (k : Kept S) → slice_get layer j ≡ Some k → k.label.progress ≡ p → (m : ℕ) × (m < length places) × (slice_index_or places m 0 ≡ i + j)
  pub own : (m j : ℕ) (k : Kept S) → m < length places → slice_index_or places m 0 ≡ i + j → slice_get layer j ≡ Some k → k.label.progress ≡ p
  pub rising : (m n : ℕ) → m < n → n < length places → slice_index_or places m 0 < slice_index_or places n 0
