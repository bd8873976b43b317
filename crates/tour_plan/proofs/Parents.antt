-- What a path asks of the layers that it is taken from.
use Rattle.std.proofs.Common.{List, length}
use Rattle.std.proofs.lemmas.Option.{slice_get_within}
use Rattle.rule_core.specs.declared.roots.Root.{Root}
use Rattle.tour_model.specs.Layer.{layer_at}
use Rattle.cert_text.specs.CoverLists.Problem.{Problem}
use Rattle.label_state.specs.declared.kept.Kept.{Kept}
use Rattle.label_state.specs.Path.{HaveParents}
use Rattle.label_search.specs.Sound.{IsSound}

-- sound layers have parents
pub sound_parents : {S : Type 0} (problem : Problem S) (roots : List (Root S)) (layers : List (List (Kept S))) → IsSound problem roots layers → HaveParents (length roots) layers
sound_parents problem roots layers sound = record {
  first = λ k o. (let f = sound.first k o in slice_get_within roots k.parent f.root f.there);
  later = λ step k o. (let g = sound.grew step k o in slice_get_within (layer_at layers step) k.parent g.parent g.there);
}
