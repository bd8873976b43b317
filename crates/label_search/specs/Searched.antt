-- What a search answers.
use Rattle.std.specs.Prelude.{◌≡◌, ℕ, ◌<◌, ◌≤◌, List, None, Some, slice_get}
use Rattle.duty_core.specs.declared.activity.Activity.{Activity}
use Rattle.rule_core.specs.declared.roots.Root.{Root}
use Rattle.tour_model.specs.declared.tour.Tour.{Tour}
use Rattle.tour_model.specs.Schedule.{duration, IsSolution, IsSolutionWith, IsShortest, IsInfeasible}
use Rattle.label_state.specs.declared.kept.Kept.{Kept}
use Rattle.label_state.specs.declared.kept.Place.{Place}
use Rattle.label_search.specs.declared.by_layers.Searched.{Searched}
use Rattle.label_search.specs.declared.by_layers.Searched.TheVariants.{Found, Never, Spent}
use Rattle.tour_model.specs.Layer.{layer_at}
use Rattle.label_state.specs.Layers.{label_layers, label_count}
use Rattle.label_state.specs.Path.{path_of, path_marks}
use Rattle.cert_text.specs.CoverLists.Problem.{Problem}
use Rattle.cert_text.specs.CoverLists.Cover.{taken, IsCoverList}
use Rattle.label_search.specs.Sound.{IsWorked, HasLabels}

-- Some solution of the tour after the log takes no more steps than so many.
pub record HasSolution (tour : Tour) (log : List Activity) (n : ℕ) : Type 0 where
  pub schedule : List Activity
  pub solves : IsSolution tour log schedule
  pub takes : duration schedule ≤ n

-- the layers of an answer
abbrev pub layers_of : {S : Type 0} → Searched S → List (List (Kept S))
layers_of (Found layers place) = layers
layers_of (Never layers) = layers
layers_of (Spent layers) = layers

-- The place is that of a finished label. The path to it is a shortest schedule, lawful after the log with the marks of the path, and the layers are a cover list for its duration.
pub record IsFound {S : Type 0} (problem : Problem S) (is_state : S → ℕ → Type 0) (tour : Tour) (log : List Activity) (starts : S → Type 0) (roots : List (Root S)) (layers : List (List (Kept S))) (place : Place) : Type 0 where
  pub best : Kept S
  pub there : slice_get (layer_at layers place.layer) place.index ≡ Some best
  pub finished : best.label.progress ≡ problem.goal
  pub solves : IsSolutionWith tour log (path_of layers place.layer place.index) (path_marks layers roots place.layer place.index)
  pub shortest : IsShortest tour log (path_of layers place.layer place.index)
  pub takes : duration (path_of layers place.layer place.index) ≡ taken place.layer best.label
  pub covers : IsCoverList problem is_state starts (Some (taken place.layer best.label)) (label_layers layers)

-- There is no solution, and the layers are a cover list without a target.
pub record IsNever {S : Type 0} (problem : Problem S) (is_state : S → ℕ → Type 0) (tour : Tour) (log : List Activity) (starts : S → Type 0) (layers : List (List (Kept S))) : Type 0 where
  pub infeasible : IsInfeasible tour log
  pub covers : IsCoverList problem is_state starts None (label_layers layers)

-- The layers are worked, and there are at least as many labels as the budget allows.
pub record IsSpent {S : Type 0} (problem : Problem S) (tour : Tour) (log : List Activity) (starts : S → Type 0) (budget : ℕ) (layers : List (List (Kept S))) : Type 0 where
  pub worked : IsWorked problem starts (HasSolution tour log) layers
  pub many : HasLabels problem starts budget

-- what a search answers of a tour after a log: `starts` tells in which states the log leaves the driver
abbrev pub IsAnswer : {S : Type 0} → Problem S → (S → ℕ → Type 0) → Tour → List Activity → (S → Type 0) → List (Root S) → ℕ → Searched S → Type 0
IsAnswer problem is_state tour log starts roots budget (Found layers place) = IsFound problem is_state tour log starts roots layers place
IsAnswer problem is_state tour log starts roots budget (Never layers) = IsNever problem is_state tour log starts layers
IsAnswer problem is_state tour log starts roots budget (Spent layers) = IsSpent problem tour log starts budget layers

-- Only where the budget is spent there are as many labels as it allows; else there are fewer.
abbrev pub IsWithin : {S : Type 0} → ℕ → Searched S → Type 0
IsWithin budget (Found layers place) = label_count layers < budget
IsWithin budget (Never layers) = label_count layers < budget
IsWithin budget (Spent layers) = label_count layers ≡ budget
