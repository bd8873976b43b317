-- Where the labels of each progress stand in the last layer.
use Rattle.std.specs.Prelude.{◌≡◌, ℕ, ◌≤◌, suc, List, [], ◌∷◌, length, Option, None, Some, slice_get, nat_eq, if◌then◌else◌}
use Rattle.label_state.specs.declared.kept.Kept.{Kept}
use Rattle.label_state.specs.declared.buckets.Bucket.{Bucket}
use Rattle.label_state.specs.Layers.{last_layer}

-- the places of the labels of this progress in a layer, the first label of which stands at place i
unfoldable pub places_from : {S : Type 0} → ℕ → ℕ → List (Kept S) → List ℕ
places_from p i [] = []
places_from p i (k ∷ ks) = if nat_eq k.label.progress p then i ∷ places_from p (suc i) ks else places_from p (suc i) ks

abbrev pub places_of : {S : Type 0} → ℕ → List (Kept S) → List ℕ
places_of p layer = places_from p 0 layer

-- the place of a label, if it has the progress
abbrev pub place_if : ℕ → ℕ → ℕ → List ℕ
place_if p place progress = if nat_eq progress p then place ∷ [] else []

-- the places that a bucket has of the last of so many layers: one that was noted at another depth has none
abbrev pub places_in : ℕ → Option Bucket → List ℕ
places_in depth None = []
places_in depth (Some b) = if nat_eq b.depth depth then b.places.items else []

-- No bucket was noted at a greater depth.
abbrev pub AreUpTo : ℕ → List Bucket → Type 0
AreUpTo depth buckets = (p : ℕ) (b : Bucket) → slice_get buckets p ≡ Some b → b.depth ≤ depth

-- Each bucket has the places of the last layer's labels of its progress.
pub record AreBuckets {S : Type 0} (buckets : List Bucket) (layers : List (List (Kept S))) : Type 0 where
  pub here : (p : ℕ) → places_in (length layers) (slice_get buckets p) ≡ places_of p (last_layer layers)
  pub old : AreUpTo (length layers) buckets
