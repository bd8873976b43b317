-- What the parts of a search promise of the labels that they make.
use Rattle.std.specs.Prelude.{◌≡◌, ℕ, List, Option, Some, slice_get}
use Rattle.label_state.specs.declared.kept.Kept.{Kept}
use Rattle.label_state.specs.declared.kept.Place.{Place}
use Rattle.tour_model.specs.Layer.{layer_at}
use Rattle.cert_text.specs.CoverLists.Cover.{taken}
use Rattle.cert_text.specs.CoverLists.Continuation.{takes}

-- The label at this place is finished, and this is its duration.
pub record IsFinishedAt {S : Type 0} (goal : ℕ) (layers : List (List (Kept S))) (place : Place) (duration : Option ℕ) : Type 0 where
  pub kept : Kept S
  pub there : slice_get (layer_at layers place.layer) place.index ≡ Some kept
  pub finished : kept.label.progress ≡ goal
  pub takes : duration ≡ Some (taken place.layer kept.label)
