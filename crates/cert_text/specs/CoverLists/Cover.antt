-- Cover lists: layers of labels from which it follows that no solution takes less than a target, or that there is none.
use Rattle.std.specs.Prelude.{◌≡◌, ℕ, ◌+◌, ◌-◌, ◌<◌, ◌≤◌, true, false, List, [], ◌∷◌, ◌⊎◌, Option, None, Some, unwrap_or}
use Rattle.rule_core.specs.Reach.{IsOneOf}
use Rattle.tour_model.specs.declared.label.Label.{Label}
use Rattle.tour_model.specs.Layer.{layer_at}
use Rattle.cert_text.specs.declared.cover_lists.grown.Grown.{Grown}
use Rattle.cert_text.specs.CoverLists.Problem.{Problem, root_label, successors_of, is_better}

-- Some label of the layer is better.
abbrev pub IsCovered : {S : Type 0} → Problem S → ℕ → List (Label S) → Label S → Type 0
IsCovered {S} problem step layer l = (m : Label S) × IsOneOf layer m × (is_better problem step m l ≡ true)

-- No label of the layer is better.
abbrev pub NoneCovers : {S : Type 0} → Problem S → ℕ → List (Label S) → Label S → Type 0
NoneCovers {S} problem step layer l = (m : Label S) → IsOneOf layer m → is_better problem step m l ≡ false

-- No label of the layer has an earlier one that is better.
abbrev pub NoneIsBetter : {S : Type 0} → Problem S → ℕ → List (Label S) → Type 0
NoneIsBetter problem step [] = Unit {0}
NoneIsBetter {S} problem step (l ∷ ls) = ((m : Label S) → IsOneOf ls m → is_better problem step l m ≡ false) × NoneIsBetter problem step ls

-- A duration is not below the target; where there is no target, no duration is meant.
abbrev pub IsAtLeast : Option ℕ → ℕ → Type 0
IsAtLeast None n = ⊥
IsAtLeast (Some target) n = target ≤ n

-- the steps from the departure on, at this step
abbrev pub taken : {S : Type 0} → ℕ → Label S → ℕ
taken step l = step - unwrap_or l.depart 0

-- What departed then and ends there at the earliest need not be kept: it can end nowhere, or it has departed and takes so long.
abbrev pub IsPrunedBy : (ℕ → Type 0) → Option ℕ → Option ℕ → Type 0
IsPrunedBy long depart None = Unit {0}
IsPrunedBy long None (Some bound) = ⊥
IsPrunedBy long (Some depart) (Some bound) = long (bound - depart)

-- It can end nowhere, or it has departed and cannot take less than the target.
abbrev pub IsPrunedAt : Option ℕ → Option ℕ → Option ℕ → Type 0
IsPrunedAt target depart bound = IsPrunedBy (IsAtLeast target) depart bound

-- A label need not be listed: it cannot be finished, or it cannot beat the target.
abbrev pub IsPruned : {S : Type 0} → Problem S → Option ℕ → ℕ → Label S → Type 0
IsPruned problem target step l = IsPrunedAt target l.depart (problem.bound step l)

-- A label of this step: its state is one of the step, it has done no more than there is to do, and it has departed exactly where it has done something, and then before the step.
pub record IsLabelAt {S : Type 0} (is_state : S → ℕ → Type 0) (goal step : ℕ) (l : Label S) : Type 0 where
  pub state : is_state l.state step
  pub progress : l.progress ≤ goal
  pub still : l.progress ≡ 0 → l.depart ≡ None
  pub departed : 0 < l.progress → (depart : ℕ) × (l.depart ≡ Some depart) × (depart < step)

-- Each successor of the unfinished labels of one step is pruned, or a better label is listed at the next.
abbrev pub IsAnsweredLayer : {S : Type 0} → Problem S → Option ℕ → ℕ → List (Label S) → List (Label S) → Type 0
IsAnsweredLayer {S} problem target step layer next =
    (l : Label S) → IsOneOf layer l → l.progress < problem.goal → (g : Grown S) → IsOneOf (successors_of problem step l) g →
    IsPruned problem target (step + 1) g.label ⊎ IsCovered problem (step + 1) next g.label

-- From such layers it follows that no solution takes less than the target, and where there is no target, that there is none.
-- `is_state` tells which states there are at a step, and `starts` in which the driver may start: each is covered by a label of the first layer that has not departed and has done nothing.
pub record IsCoverList {S : Type 0} (problem : Problem S) (is_state : S → ℕ → Type 0) (starts : S → Type 0) (target : Option ℕ) (layers : List (List (Label S))) : Type 0 where
  pub started : (s : S) → starts s → IsCovered problem 0 (layer_at layers 0) (root_label s)
  pub labels : (step : ℕ) (l : Label S) → IsOneOf (layer_at layers step) l → IsLabelAt is_state problem.goal step l
  pub finished : (step : ℕ) (l : Label S) → IsOneOf (layer_at layers step) l → l.progress ≡ problem.goal → IsAtLeast target (taken step l)
  pub better : (step : ℕ) → NoneIsBetter problem step (layer_at layers step)
  pub answered : (step : ℕ) → IsAnsweredLayer problem target step (layer_at layers step) (layer_at layers (step + 1))
