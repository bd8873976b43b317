-- What the parts of a search promise of the labels that they make.
use Rattle.std.specs.Prelude.{◌≡◌, ℕ, ◌+◌, ◌-◌, ◌<◌, ◌≤◌, Bool, true, List, [], ◌∷◌, ◌++◌, ◌⊎◌, length, nat_lt, Option, None, Some, slice_get}
use Rattle.std.specs.List.Sorted.{IsStrictlyIncreasing}
use Rattle.duty_core.specs.declared.activity.Activity.{Activity}
use Rattle.rule_core.specs.declared.roots.Root.{Root}
use Rattle.rule_core.specs.Reach.{IsOneOf}
use Rattle.tour_model.specs.declared.label.Label.{Label}
use Rattle.tour_model.specs.declared.limits.TheConstants.{STEP_LIMIT}
use Rattle.cert_text.specs.declared.cover_lists.grown.Grown.{Grown}
use Rattle.label_state.specs.declared.kept.Kept.{Kept}
use Rattle.label_state.specs.declared.kept.Place.{Place}
use Rattle.label_search.specs.declared.best.Best.{Best}
use Rattle.label_search.specs.declared.by_layers.Searched.{Searched}
use Rattle.label_search.specs.declared.by_layers.Searched.TheVariants.{Found, Never}
use Rattle.label_state.specs.Layers.{labels_of, label_count}
use Rattle.cert_text.specs.CoverLists.Problem.{Problem, root_label, successors_of}
use Rattle.cert_text.specs.CoverLists.Cover.{IsCovered, NoneIsBetter, IsAtLeast, taken, IsPruned, IsLabelAt}
use Rattle.label_search.specs.Sound.{IsFirst, parents_of, IsCoveredBefore, IsFullBefore, GrewFrom, AreOrdered}
use Rattle.cert_text.specs.CoverLists.Continuation.{Continues, takes}

-- The state is that of a root.
abbrev pub IsRootState : {S : Type 0} → List (Root S) → S → Type 0
IsRootState {S} roots s = (root : Root S) × IsOneOf roots root × (root.state ≡ s)

-- Each label of the list is one of the step.
abbrev pub AreLabelsAt : {S : Type 0} → (S → ℕ → Type 0) → ℕ → ℕ → List (Kept S) → Type 0
AreLabelsAt {S} is_state goal step layer = (k : Kept S) → IsOneOf layer k → IsLabelAt is_state goal step k.label

-- the rank of a departure
abbrev pub rank_of : Option ℕ → ℕ
rank_of None = 0
rank_of (Some depart) = 4294967296 - depart

-- A label of a list that stands for one of the successors of the parent at this place; it is not pruned.
pub record IsGathered {S : Type 0} (problem : Problem S) (limit : Option ℕ) (step place : ℕ) (gs : List (Grown S)) (k : Kept S) : Type 0 where
  pub parent : k.parent ≡ place
  pub grown : IsOneOf gs (record { label = k.label; act = k.act; mark = k.mark })
  pub unpruned : IsPruned problem limit step k.label → ⊥

-- What gathering the successors of the parent at this place adds to a list: those that are not pruned.
pub record Gathers {S : Type 0} (problem : Problem S) (limit : Option ℕ) (step place : ℕ) (gs : List (Grown S)) (old new : List (Kept S)) : Type 0 where
  pub only : (k : Kept S) → IsOneOf new k → IsOneOf old k ⊎ IsGathered problem limit step place gs k
  pub keeps : (k : Kept S) → IsOneOf old k → IsOneOf new k
  pub all : (g : Grown S) → IsOneOf gs g → IsPruned problem limit step g.label ⊎ IsOneOf (labels_of new) g.label

-- The list holds the successors of a layer's labels but for those that are pruned.
pub record AreGathered {S : Type 0} (problem : Problem S) (limit : Option ℕ) (step : ℕ) (layer list : List (Kept S)) : Type 0 where
  pub grew : (k : Kept S) → IsOneOf list k → GrewFrom problem step layer k
  pub unpruned : (k : Kept S) → IsOneOf list k → IsPruned problem limit (step + 1) k.label → ⊥
  pub all : (k : Kept S) → IsOneOf layer k → (g : Grown S) → IsOneOf (successors_of problem step k.label) g → IsPruned problem limit (step + 1) g.label ⊎ IsOneOf (labels_of list) g.label

-- The list holds the labels of the roots, in their order.
pub record AreFirst {S : Type 0} (roots : List (Root S)) (list : List (Kept S)) : Type 0 where
  pub first : (k : Kept S) → IsOneOf list k → IsFirst roots k
  pub rising : IsStrictlyIncreasing (parents_of list)
  pub all : (i : ℕ) → i < length roots → IsOneOf (parents_of list) i

-- Labels that are offered by rising places of their parents are kept in that order. One is left out only where one that is kept before it is better, or where the layer is full before it.
pub record AreKeptInTurn {S : Type 0} (problem : Problem S) (step room : ℕ) (offered layer : List (Kept S)) : Type 0 where
  pub rising : IsStrictlyIncreasing (parents_of layer)
  pub all : (k : Kept S) → IsOneOf offered k → IsOneOf layer k ⊎ (IsCoveredBefore problem step layer k.parent k.label ⊎ IsFullBefore room layer k.parent)

-- The layer that offering labels in order makes: it holds `room` labels at most, and where it holds fewer, it has a better label for each that was offered.
pub record IsFilled {S : Type 0} (problem : Problem S) (step room : ℕ) (offered layer : List (Kept S)) : Type 0 where
  pub only : (k : Kept S) → IsOneOf layer k → IsOneOf offered k
  pub better : NoneIsBetter problem step (labels_of layer)
  pub ordered : AreOrdered layer
  pub bounded : length layer ≤ room
  pub covers : length layer < room → (k : Kept S) → IsOneOf offered k → IsCovered problem step (labels_of layer) k.label
  pub in_turn : IsStrictlyIncreasing (parents_of offered) → AreKeptInTurn problem step room offered layer

-- One layer more, made of these labels.
pub record AddsLayer {S : Type 0} (problem : Problem S) (budget : ℕ) (offered : List (Kept S)) (old new : List (List (Kept S))) : Type 0 where
  pub layer : List (Kept S)
  pub thereafter : new ≡ old ++ layer ∷ []
  pub filled : IsFilled problem (length old) (budget - label_count old) offered layer

-- The new limit is not above the old one, nor above the durations of the finished labels of this step's layer. Where it is lower, a finished label of that layer has it, and its place is named.
pub record IsBestOf {S : Type 0} (goal step : ℕ) (layer : List (Kept S)) (old new : Best) : Type 0 where
  pub keeps : (n : ℕ) → IsAtLeast old.limit n → IsAtLeast new.limit n
  pub each : (k : Kept S) → IsOneOf layer k → k.label.progress ≡ goal → IsAtLeast new.limit (taken step k.label)
  pub made : (new ≡ old) ⊎ ((place : Place) × (kept : Kept S) × (new.place ≡ Some place) × (place.layer ≡ step) × (slice_get layer place.index ≡ Some kept) × (kept.label.progress ≡ goal) × (new.limit ≡ Some (taken step kept.label)))

-- what was found where no label is left to grow
abbrev pub ended_by : {S : Type 0} → Option Place → List (List (Kept S)) → Searched S
ended_by None layers = Never layers
ended_by (Some place) layers = Found layers place

-- The ranks of a label's departure and of its progress: the later it departs and the more it has done, the lower they are.
abbrev pub depart_rank : {S : Type 0} → Kept S → ℕ
depart_rank k = rank_of k.label.depart

abbrev pub progress_rank : {S : Type 0} → Kept S → ℕ
progress_rank k = 4294967295 - k.label.progress

-- The numbers of the labels are small.
abbrev pub AreSmall : {S : Type 0} → List (Kept S) → Type 0
AreSmall {S} list = (k : Kept S) → IsOneOf list k → (k.label.progress < STEP_LIMIT) × ((d : ℕ) → k.label.depart ≡ Some d → d < STEP_LIMIT)

-- whether the duration stays below the limit
abbrev pub is_below : ℕ → Option ℕ → Bool
is_below takes None = true
is_below takes (Some limit) = nat_lt takes limit

-- The new limit is not above the old one, nor above the duration of this label, where it is finished. Where it is lower, it is that duration, and the place is the label's.
pub record IsBestWith {S : Type 0} (goal : ℕ) (l : Label S) (place : Place) (old new : Best) : Type 0 where
  pub keeps : (n : ℕ) → IsAtLeast old.limit n → IsAtLeast new.limit n
  pub each : l.progress ≡ goal → IsAtLeast new.limit (taken place.layer l)
  pub made : (new ≡ old) ⊎ ((new ≡ record { limit = Some (taken place.layer l); place = Some place }) × (l.progress ≡ goal))

-- A whole way through the problem from a state in which the driver may start takes no more steps than so many.
pub record IsSolved {S : Type 0} (problem : Problem S) (allowed : Activity → Bool) (starts : S → Type 0) (n : ℕ) : Type 0 where
  pub start : S
  pub starts_there : starts start
  pub way : List Activity
  pub goes : Continues problem allowed 0 (root_label start) way
  pub within : takes 0 (root_label start) way ≤ n

-- Where there is a limit, a whole way takes fewer steps.
abbrev pub IsLimit : {S : Type 0} → Problem S → (Activity → Bool) → (S → Type 0) → Option ℕ → Type 0
IsLimit problem allowed starts None = Unit {0}
IsLimit problem allowed starts (Some limit) = (n : ℕ) × IsSolved problem allowed starts n × (n < limit)
