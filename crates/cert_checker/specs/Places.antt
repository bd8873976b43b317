-- The labels of a layer, and the places at which those of a progress stand.
use Rattle.std.specs.Global.{Vec}
use Rattle.std.specs.Prelude.{◌≡◌, ℕ, ◌%◌, ◌<◌, List, [], ◌∷◌, ◌++◌, Option, None, Some, length, map, flat_map, slice_index_or, slice_set}
use Rattle.std.specs.Option.{option_to_list}
use Rattle.rule_core.specs.Reach.{IsOneOf}
use Rattle.tour_model.specs.declared.label.Label.{Label}

-- the lists after the vectors
abbrev pub plain : {X : Type 0} → List (Vec X) → List (List X)
plain vs = map (λ v. v.items) vs

-- the label at a place, where one is there
abbrev pub label_at : {X : Type 0} → List (Option X) → ℕ → List X
label_at os i = option_to_list (slice_index_or os i None)

-- the labels at places
abbrev pub labels_at : {X : Type 0} → List (Option X) → List ℕ → List X
labels_at os places = flat_map (label_at os) places

-- one of the lists, that of this progress, with one place more
abbrev pub with_place : List (List ℕ) → ℕ → ℕ → List (List ℕ)
with_place lists progress place =
    slice_set lists (progress % length lists) (slice_index_or lists (progress % length lists) [] ++ place ∷ [])

-- Each label up to a place has its own place in the list of its progress, of so many lists.
abbrev pub ArePlacedUpTo : {S : Type 0} → List (Option (Label S)) → ℕ → List (List ℕ) → Type 0
ArePlacedUpTo {S} os n lists =
    (i : ℕ) (l : Label S) → i < n → slice_index_or os i None ≡ Some l → IsOneOf (slice_index_or lists (l.progress % length lists) []) i

-- Each label has its place in the list of its progress, and there are as many lists as labels.
pub record ArePlaced {S : Type 0} (os : List (Option (Label S))) (lists : List (List ℕ)) : Type 0 where
  pub same : length lists ≡ length os
  pub placed : ArePlacedUpTo os (length os) lists

-- Each label whose progress names the same list has its place among these.
abbrev pub HasPlaces : {S : Type 0} → List (Option (Label S)) → ℕ → List ℕ → Type 0
HasPlaces {S} os progress places =
    (i : ℕ) (l : Label S) → i < length os → slice_index_or os i None ≡ Some l → l.progress % length os ≡ progress % length os → IsOneOf places i

-- Each label up to a place has done less than this.
abbrev pub HaveDoneLess : {S : Type 0} → List (Option (Label S)) → ℕ → ℕ → Type 0
HaveDoneLess {S} os n end = (i : ℕ) (l : Label S) → i < n → slice_index_or os i None ≡ Some l → l.progress < end

-- Each label has.
abbrev pub IsProgressEnd : {S : Type 0} → List (Option (Label S)) → ℕ → Type 0
IsProgressEnd os end = HaveDoneLess os (length os) end
