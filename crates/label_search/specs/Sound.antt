-- Sound layers, each label of which grew from a root, and worked ones, of which nothing was left out but in the last.
use Rattle.std.specs.Prelude.{◌≡◌, ℕ, ◌+◌, ◌<◌, ◌≤◌, true, List, [], ◌∷◌, ◌⊎◌, zero, suc, length, map, None, Some, slice_get}
use Rattle.std.specs.List.Sorted.{IsStrictlyIncreasing}
use Rattle.duty_core.specs.declared.activity.Activity.TheVariants.{Off}
use Rattle.rule_core.specs.declared.roots.Root.{Root}
use Rattle.rule_core.specs.Reach.{IsOneOf}
use Rattle.tour_model.specs.declared.label.Label.{Label}
use Rattle.cert_text.specs.declared.cover_lists.grown.Grown.{Grown}
use Rattle.label_state.specs.declared.kept.Kept.{Kept}
use Rattle.tour_model.specs.Layer.{layer_at}
use Rattle.label_state.specs.Layers.{labels_of, label_count}
use Rattle.cert_text.specs.CoverLists.Problem.{Problem, root_label, successors_of, is_better, later, HasBound}
use Rattle.cert_text.specs.CoverLists.Cover.{IsCovered, NoneIsBetter, taken, IsPrunedBy, IsPruned}

-- The label of the first layer is that of the root at the place of its parent; its activity is `Off`, and it has no mark.
pub record IsFirst {S : Type 0} (roots : List (Root S)) (k : Kept S) : Type 0 where
  pub root : Root S
  pub there : slice_get roots k.parent ≡ Some root
  pub label : k.label ≡ root_label root.state
  pub act : k.act ≡ Off
  pub mark : k.mark ≡ None

-- the places of the labels' parents
abbrev pub parents_of : {S : Type 0} → List (Kept S) → List ℕ
parents_of layer = map (λ k. k.parent) layer

-- A label of the layer whose parent stands before this place is better.
abbrev pub IsCoveredBefore : {S : Type 0} → Problem S → ℕ → List (Kept S) → ℕ → Label S → Type 0
IsCoveredBefore {S} problem step layer place l = (k : Kept S) × IsOneOf layer k × (k.parent < place) × (is_better problem step k.label l ≡ true)

-- The layer has all the labels that it may have, and their parents stand before this place.
abbrev pub IsFullBefore : {S : Type 0} → ℕ → List (Kept S) → ℕ → Type 0
IsFullBefore {S} most layer place = (length layer ≡ most) × ((k : Kept S) → IsOneOf layer k → k.parent < place)

-- The first layer has labels of the roots, in the order of the roots, and no more than the budget. A root has none there only where an earlier one is better, or where the layer is full before it.
pub record IsFirstLayer {S : Type 0} (problem : Problem S) (roots : List (Root S)) (budget : ℕ) (layer : List (Kept S)) : Type 0 where
  pub labels : (k : Kept S) → IsOneOf layer k → IsFirst roots k
  pub rising : IsStrictlyIncreasing (parents_of layer)
  pub bounded : length layer ≤ budget
  pub all : (i : ℕ) (root : Root S) → slice_get roots i ≡ Some root → IsOneOf (parents_of layer) i ⊎ (IsCoveredBefore problem 0 layer i (root_label root.state) ⊎ IsFullBefore budget layer i)

-- The label grew from its parent in the layer before, and can still be finished.
pub record GrewFrom {S : Type 0} (problem : Problem S) (step : ℕ) (layer : List (Kept S)) (k : Kept S) : Type 0 where
  pub parent : Kept S
  pub there : slice_get layer k.parent ≡ Some parent
  pub grown : IsOneOf (successors_of problem step parent.label) (record { label = k.label; act = k.act; mark = k.mark })
  pub has_bound : HasBound problem (step + 1) k.label

-- The first label departs no earlier, a label that has not departed being the last to depart; and of one departure it has done as much or more.
pub record StandsBefore {S : Type 0} (a b : Label S) : Type 0 where
  pub departs : later a.depart b.depart ≡ true
  pub progress : a.depart ≡ b.depart → b.progress ≤ a.progress

-- Labels that have not departed come first, the others by falling departure, and those of one departure by falling progress.
abbrev pub AreOrdered : {S : Type 0} → List (Kept S) → Type 0
AreOrdered [] = Unit {0}
AreOrdered {S} (k ∷ ks) = ((m : Kept S) → IsOneOf ks m → StandsBefore k.label m.label) × AreOrdered ks

-- Each label of the layers is reached from a root through its parents; none has an earlier better one in its layer; none is pruned by the duration of one that was finished in an earlier layer; and each layer after the first is in order.
pub record IsSound {S : Type 0} (problem : Problem S) (roots : List (Root S)) (layers : List (List (Kept S))) : Type 0 where
  pub first : (k : Kept S) → IsOneOf (layer_at layers 0) k → IsFirst roots k
  pub grew : (step : ℕ) (k : Kept S) → IsOneOf (layer_at layers (step + 1)) k → GrewFrom problem step (layer_at layers step) k
  pub better : (step : ℕ) → NoneIsBetter problem step (labels_of (layer_at layers step))
  pub unpruned : (step after : ℕ) (f k : Kept S) → step < after → IsOneOf (layer_at layers step) f → f.label.progress ≡ problem.goal → IsOneOf (layer_at layers after) k →
      IsPruned problem (Some (taken step f.label)) after k.label → ⊥
  pub ordered : (step : ℕ) → AreOrdered (layer_at layers (step + 1))

-- Where there is a second layer, the first one has a label for each state in which the driver may start. And up to the last layer but one, each successor of an unfinished label is pruned, since it can do no better than some solution or can end nowhere, or has a better label in the next layer. `solves` tells for which durations there is a solution that takes no more.
pub record IsWorked {S : Type 0} (problem : Problem S) (starts : S → Type 0) (solves : ℕ → Type 0) (layers : List (List (Kept S))) : Type 0 where
  pub started : 1 < length layers → (s : S) → starts s → IsCovered problem 0 (labels_of (layer_at layers 0)) (root_label s)
  pub answered : (step : ℕ) → step + 2 < length layers → (k : Kept S) → IsOneOf (layer_at layers step) k → k.label.progress < problem.goal → (g : Grown S) → IsOneOf (successors_of problem step k.label) g →
      IsPrunedBy solves g.label.depart (problem.bound (step + 1) g.label) ⊎ IsCovered problem (step + 1) (labels_of (layer_at layers (step + 1))) g.label

-- A label is reachable at the start where it is the first label of a state in which the driver may start, and later where it grows from a reachable one and can still be finished.
abbrev pub IsReachable : {S : Type 0} → Problem S → (S → Type 0) → ℕ → Label S → Type 0
IsReachable {S} problem starts zero l = (s : S) × starts s × (root_label s ≡ l)
IsReachable {S} problem starts (suc step) l = (b : Label S) × IsReachable problem starts step b × (g : Grown S) × IsOneOf (successors_of problem step b) g × (g.label ≡ l) × HasBound problem (suc step) l

-- no two labels of the list are equal
abbrev pub AreDistinct : {X : Type 0} → List X → Type 0
AreDistinct [] = Unit {0}
AreDistinct (x ∷ xs) = (IsOneOf xs x → ⊥) × AreDistinct xs

-- There are at least so many labels that are reachable, over all steps.
pub record HasLabels {S : Type 0} (problem : Problem S) (starts : S → Type 0) (n : ℕ) : Type 0 where
  pub layers : List (List (Label S))
  pub reachable : (step : ℕ) (l : Label S) → IsOneOf (layer_at layers step) l → IsReachable problem starts step l
  pub distinct : (step : ℕ) → AreDistinct (layer_at layers step)
  pub count : n ≤ label_count layers
