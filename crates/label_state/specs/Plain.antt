-- Layers as they are held in memory.
use Rattle.std.specs.Global.{Vec}
use Rattle.std.specs.Prelude.{◌≡◌, ℕ, ◌≤◌, List, length, map}
use Rattle.label_state.specs.Layers.{label_count}
use Rattle.label_state.specs.declared.layers.TheConstants.{LAYER_LIMIT}
use Rattle.label_state.specs.declared.kept.Kept.{Kept}
use Rattle.label_state.specs.declared.buckets.Bucket.{Bucket}
use Rattle.label_state.specs.Buckets.{AreBuckets}

-- the lists after the vectors
abbrev pub plain : {X : Type 0} → List (Vec X) → List (List X)
plain vs = map (λ v. v.items) vs

-- The number is that of the labels, and neither labels nor layers are too many.
pub record AreCounted {X : Type 0} (layers : List (List X)) (kept : ℕ) : Type 0 where
  pub counted : kept ≡ label_count layers
  pub few_labels : kept ≤ LAYER_LIMIT
  pub few_layers : length layers ≤ LAYER_LIMIT

-- and the buckets have the places of the last layer's labels
pub record AreHeld {S : Type 0} (layers : List (List (Kept S))) (kept : ℕ) (buckets : List Bucket) : Type 0 where
  pub counted : AreCounted layers kept
  pub placed : AreBuckets buckets layers
