-- Layers written one by one.
use Rattle.std.proofs.Common.{◌≡◌, ℕ, ◌+◌, ◌<◌, List, [], ◌∷◌, ◌++◌, length, take, get_or, refl, sym, ◌∙◌, ap, subst, arith}
use Rattle.std.specs.Prelude.{Option}
use Rattle.std.proofs.lemmas.List.{take_more, map-append}
use Rattle.tour_model.specs.declared.label.Label.{Label}
use Rattle.tour_model.specs.declared.tour.Tour.{Tour}
use Rattle.label_state.specs.declared.kept.Kept.{Kept}
use Rattle.label_state.specs.Layers.{labels_of, label_layers}
use Rattle.cert_text.specs.declared.cert.CertLabel.{CertLabel}
use Rattle.cert_text.specs.CoverLists.Planning.{minute_of}
use Rattle.cert_text.specs.Cert.{IsLabelOf, AreLabelsOf, AreLayersOf}

-- one label more
labels_one : {S : Type 0} (state_of : List ℕ → ℕ → Option S) (at : ℕ) (cs : List CertLabel) (ls : List (Label S)) (c : CertLabel) (l : Label S) →
    AreLabelsOf state_of at cs ls → IsLabelOf state_of at c l → AreLabelsOf state_of at (cs ++ c ∷ []) (ls ++ l ∷ [])
labels_one state_of at [] ls c l h i = (l, [], ap (λ ys. ys ++ l ∷ []) h, i, refl)
labels_one state_of at (d ∷ cs) ls c l h i = (h.0, h.1 ++ l ∷ [], ap (λ ys. ys ++ l ∷ []) h.2, h.3, labels_one state_of at cs h.1 c l h.4 i)

pub labels_more : {S : Type 0} (state_of : List ℕ → ℕ → Option S) (at : ℕ) (layer : List (Kept S)) (i : ℕ) (k : Kept S) (old new : List CertLabel) (c : CertLabel) → i < length layer → k ≡ get_or layer i k →
    AreLabelsOf state_of at old (labels_of (take i layer)) → IsLabelOf state_of at c k.label → new ≡ old ++ c ∷ [] → AreLabelsOf state_of at new (labels_of (take (i + 1) layer))
labels_more state_of at layer i k old new c lt e h one is =
    let more : take (i + 1) layer ≡ take i layer ++ k ∷ [] = take_more layer i k lt ∙ ap (λ y. take i layer ++ y ∷ []) (sym e) in
    let there : labels_of (take (i + 1) layer) ≡ labels_of (take i layer) ++ k.label ∷ [] = ap labels_of more ∙ map-append (λ k. k.label) (take i layer) (k ∷ []) in
    subst (λ ls. AreLabelsOf state_of at new ls) (sym there) (subst (λ cs. AreLabelsOf state_of at cs (labels_of (take i layer) ++ k.label ∷ [])) (sym is) (labels_one state_of at old (labels_of (take i layer)) c k.label h one))

-- one layer more
layers_one : {S : Type 0} (state_of : List ℕ → ℕ → Option S) (tour : Tour) (from : ℕ) (css : List (List CertLabel)) (layers : List (List (Label S))) (at : ℕ) (cs : List CertLabel) (layer : List (Label S)) →
    AreLayersOf state_of tour from css layers → from + length css ≡ at → AreLabelsOf state_of (minute_of tour at) cs layer → AreLayersOf state_of tour from (css ++ cs ∷ []) (layers ++ layer ∷ [])
layers_one state_of tour from [] layers at cs layer h e one =
    (layer, [], ap (λ ys. ys ++ layer ∷ []) h, subst (λ k. AreLabelsOf state_of (minute_of tour k) cs layer) (let f : at ≡ from = omega arith in f) one, refl)
layers_one state_of tour from (ds ∷ css) layers at cs layer h e one =
    (h.0, h.1 ++ layer ∷ [], ap (λ ys. ys ++ layer ∷ []) h.2, h.3, layers_one state_of tour (from + 1) css h.1 at cs layer h.4 (omega arith) one)

pub layers_more : {S : Type 0} (state_of : List ℕ → ℕ → Option S) (tour : Tour) (layers : List (List (Kept S))) (i : ℕ) (layer : List (Kept S)) (old new : List (List CertLabel)) (cs : List CertLabel) → i < length layers → layer ≡ get_or layers i [] →
    AreLayersOf state_of tour 0 old (label_layers (take i layers)) → length old ≡ i → AreLabelsOf state_of (minute_of tour i) cs (labels_of layer) → new ≡ old ++ cs ∷ [] → AreLayersOf state_of tour 0 new (label_layers (take (i + 1) layers))
layers_more state_of tour layers i layer old new cs lt e h n one is =
    let more : take (i + 1) layers ≡ take i layers ++ layer ∷ [] = take_more layers i [] lt ∙ ap (λ y. take i layers ++ y ∷ []) (sym e) in
    let there : label_layers (take (i + 1) layers) ≡ label_layers (take i layers) ++ labels_of layer ∷ [] = ap label_layers more ∙ map-append labels_of (take i layers) (layer ∷ []) in
    subst (λ ls. AreLayersOf state_of tour 0 new ls) (sym there) (subst (λ css. AreLayersOf state_of tour 0 css (label_layers (take i layers) ++ labels_of layer ∷ [])) (sym is)
    (layers_one state_of tour 0 old (label_layers (take i layers)) i cs (labels_of layer) h (omega arith) one))
