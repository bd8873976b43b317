-- What offering a label to the last layer comes to.
use Rattle.std.specs.Prelude.{◌≡◌, ◌==◌, ◌&&◌, ◌||◌, ℕ, nat_lt, ◌<◌, Bool, true, false, List, length, take, Option, None, Some, slice_get, slice_index_or}
use Rattle.rule_core.specs.Reach.{IsOneOf}
use Rattle.tour_model.specs.declared.tour.Tour.{Tour}
use Rattle.tour_model.specs.declared.label.Label.{Label}
use Rattle.tour_model.specs.Word.{may_idle}
use Rattle.label_state.specs.declared.kept.Kept.{Kept}
use Rattle.label_state.specs.Layers.{last_step, last_layer, with_kept, labels_of}
use Rattle.cert_text.specs.CoverLists.Problem.{Problem, is_better}
use Rattle.cert_text.specs.CoverLists.Cover.{NoneCovers}
use Rattle.label_dominance.specs.declared.dominance.Offered.{Offered}
use Rattle.label_dominance.specs.declared.dominance.Offered.TheVariants as offered

-- Each label's state is one of the step.
abbrev pub AreStatesAt : {S : Type 0} → (S → ℕ → Type 0) → ℕ → List (Label S) → Type 0
AreStatesAt {S} is_state step layer = (l : Label S) → IsOneOf layer l → is_state l.state step

-- What has done p steps of the tour may keep up with what has done q: it has done as much, or more and may idle.
abbrev pub may_keep_up : Tour → ℕ → ℕ → Bool
may_keep_up tour p q = p == q || (nat_lt q p && may_idle tour p)

-- The labels at these places may keep up with the label.
abbrev pub MayKeepUp : {S : Type 0} → Tour → List (Kept S) → List ℕ → Label S → Type 0
MayKeepUp {S} tour layer places l = (m : ℕ) (k : Kept S) → m < length places → slice_get layer (slice_index_or places m 0) ≡ Some k → may_keep_up tour k.label.progress l.progress ≡ true

-- Each label whose state is ahead has done less than `end`.
abbrev pub AreAheadBelow : {S : Type 0} → (S → Bool) → ℕ → List (Kept S) → Type 0
AreAheadBelow {S} ahead end layer = (k : Kept S) → IsOneOf layer k → ahead k.label.state ≡ true → k.label.progress < end

-- Each place is after those before it.
abbrev pub AreRising : List ℕ → Type 0
AreRising places = (m n : ℕ) → m < n → n < length places → slice_index_or places m 0 < slice_index_or places n 0

-- None of the labels at the places that pass the test is better.
abbrev pub NoneAt : {S : Type 0} → Problem S → ℕ → List (Kept S) → List ℕ → Label S → (ℕ → Type 0) → Type 0
NoneAt {S} problem step layer places l P = (m : ℕ) → m < length places → P (slice_index_or places m 0) → (k : Kept S) → slice_get layer (slice_index_or places m 0) ≡ Some k → is_better problem step k.label l ≡ false

-- The label at this place is there, and is better.
pub record IsCoverAt {S : Type 0} (problem : Problem S) (step : ℕ) (layer : List (Kept S)) (l : Label S) (index : ℕ) : Type 0 where
  pub cover : Kept S
  pub there : slice_get layer index ≡ Some cover
  pub better : is_better problem step cover.label l ≡ true

-- where no label at the places is better, None; else the first of the places at which one is
abbrev pub IsPlaceSought : {S : Type 0} → Problem S → ℕ → List (Kept S) → List ℕ → Label S → Option ℕ → Type 0
IsPlaceSought problem step layer places l None = NoneAt problem step layer places l (λ place. Unit {0})
IsPlaceSought problem step layer places l (Some index) = IsCoverAt problem step layer l index × NoneAt problem step layer places l (λ place. place < index)

-- The first label of the list that is better stands at this place.
pub record IsFirstCover {S : Type 0} (problem : Problem S) (step : ℕ) (layer : List (Label S)) (l : Label S) (index : ℕ) : Type 0 where
  pub cover : Label S
  pub there : slice_get layer index ≡ Some cover
  pub better : is_better problem step cover l ≡ true
  pub first : NoneCovers problem step (take index layer) l

-- where no label of the list is better, None; else the place of the first that is
abbrev pub IsCoverSought : {S : Type 0} → Problem S → ℕ → List (Label S) → Label S → Option ℕ → Type 0
IsCoverSought problem step layer l None = NoneCovers problem step layer l
IsCoverSought problem step layer l (Some index) = IsFirstCover problem step layer l index

-- An offered label is added to the last layer where no label there is better; else the first that is better is named, and nothing changes.
abbrev pub IsOffered : {S : Type 0} → Problem S → List (List (Kept S)) → Kept S → List (List (Kept S)) → Offered → Type 0
IsOffered problem old k new offered.Kept = NoneCovers problem (last_step old) (labels_of (last_layer old)) k.label × (new ≡ with_kept old k)
IsOffered problem old k new (offered.Covered index) = IsFirstCover problem (last_step old) (labels_of (last_layer old)) k.label index × (new ≡ old)
