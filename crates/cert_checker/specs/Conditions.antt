-- The conditions on the labels of a certificate, in their order.
use Rattle.std.specs.Prelude.{◌≡◌, ℕ, ◌+◌, ◌<◌, List, Option, None, Some, ◌⊎◌, take, length, slice_index_or, sum_by}
use Rattle.rule_core.specs.Reach.{IsOneOf}
use Rattle.tour_model.specs.declared.label.Label.{Label}
use Rattle.tour_model.specs.declared.tour.Tour.{Tour}
use Rattle.tour_model.specs.Layer.{layer_at}
use Rattle.cert_text.specs.declared.cert.CertLabel.{CertLabel}
use Rattle.cert_text.specs.declared.cover_lists.grown.Grown.{Grown}
use Rattle.cert_text.specs.CoverLists.Problem.{Problem, successors_of}
use Rattle.cert_text.specs.CoverLists.Planning.{minute_of}
use Rattle.cert_text.specs.CoverLists.Cover.{IsAtLeast, IsLabelAt, IsPruned, IsCovered, NoneCovers, taken}
use Rattle.cert_checker.specs.declared.verdict.Reason.{Reason}
use Rattle.cert_checker.specs.declared.verdict.Reason.TheVariants as reason
use Rattle.cert_checker.specs.declared.layer.LabelFault.{LabelFault}
use Rattle.cert_checker.specs.declared.verdict.Rejection.{Rejection}
use Rattle.cert_checker.specs.Parsed.{labels_of, there}

-- A label of this step is pruned, or a label of the layer is better.
abbrev pub IsPrunedOrCovered : {S : Type 0} → Problem S → Option ℕ → ℕ → List (Label S) → Label S → Type 0
IsPrunedOrCovered problem target step layer l = IsPruned problem target step l ⊎ IsCovered problem step layer l

-- Each of these successors, labels of this step, is pruned, or a label of the layer is better.
abbrev pub AreAnswered : {S : Type 0} → Problem S → Option ℕ → ℕ → List (Label S) → List (Grown S) → Type 0
AreAnswered {S} problem target step layer gs = (g : Grown S) → IsOneOf gs g → IsPrunedOrCovered problem target step layer g.label

-- A finished label has not taken less than the target.
abbrev pub IsLongEnough : {S : Type 0} → Problem S → Option ℕ → ℕ → Label S → Type 0
IsLongEnough problem target step l = l.progress ≡ problem.goal → IsAtLeast target (taken step l)

-- The successors of a label that is not finished are answered.
abbrev pub IsAnsweredFor : {S : Type 0} → Problem S → Option ℕ → ℕ → List (Label S) → Label S → Type 0
IsAnsweredFor problem target step next l = l.progress < problem.goal → AreAnswered problem target (step + 1) next (successors_of problem step l)

-- A label of this step with these ones before it passes, where these stand in the next layer.
abbrev pub Passes : {S : Type 0} → Problem S → (S → ℕ → Type 0) → Option ℕ → ℕ → List (Label S) → List (Label S) → Option (Label S) → Type 0
Passes problem is_state target step earlier next None = ⊥
Passes problem is_state target step earlier next (Some l) =
    IsLabelAt is_state problem.goal step l × IsLongEnough problem target step l × NoneCovers problem step earlier l × IsAnsweredFor problem target step next l

-- The condition of this reason fails, and those before it hold.
abbrev pub FailsBy : {S : Type 0} → Problem S → (S → ℕ → Type 0) → Option ℕ → ℕ → List (Label S) → List (Label S) → Option (Label S) → Reason → Type 0
FailsBy problem is_state target step earlier next None reason.State = Unit {0}
FailsBy problem is_state target step earlier next (Some l) reason.State = IsLabelAt is_state problem.goal step l → ⊥
FailsBy problem is_state target step earlier next (Some l) reason.Finished = IsLabelAt is_state problem.goal step l × (IsLongEnough problem target step l → ⊥)
FailsBy problem is_state target step earlier next (Some l) reason.Repeated = IsLabelAt is_state problem.goal step l × IsLongEnough problem target step l × (NoneCovers problem step earlier l → ⊥)
FailsBy problem is_state target step earlier next (Some l) reason.Successor =
    IsLabelAt is_state problem.goal step l × IsLongEnough problem target step l × NoneCovers problem step earlier l × (IsAnsweredFor problem target step next l → ⊥)
FailsBy problem is_state target step earlier next o other = ⊥

-- The labels of a layer pass up to this place.
abbrev pub PassUpTo : {S : Type 0} → Problem S → (S → ℕ → Type 0) → Option ℕ → ℕ → List (Option (Label S)) → List (Label S) → ℕ → Type 0
PassUpTo problem is_state target step os next n = (i : ℕ) → i < n → Passes problem is_state target step (there (take i os)) next (slice_index_or os i None)

-- The label at this place is the first of its layer at which a condition fails, and that of this reason is the first.
pub record IsFirstFault {S : Type 0} (problem : Problem S) (is_state : S → ℕ → Type 0) (target : Option ℕ) (step : ℕ) (os : List (Option (Label S))) (next : List (Label S)) (f : LabelFault) : Type 0 where
  pub within : f.index < length os
  pub before : PassUpTo problem is_state target step os next f.index
  pub fails : FailsBy problem is_state target step (there (take f.index os)) next (slice_index_or os f.index None) f.reason

-- the labels of the layer of this step
abbrev pub layer_of : {S : Type 0} → (List ℕ → ℕ → Option S) → Tour → ℕ → List (List CertLabel) → ℕ → List (Option (Label S))
layer_of state_of tour goal layers step = labels_of state_of goal (minute_of tour step) (layer_at layers step)

-- The labels of the layer of this step pass up to this place.
abbrev pub LayerPasses : {S : Type 0} → Problem S → (S → ℕ → Type 0) → (List ℕ → ℕ → Option S) → Tour → Option ℕ → List (List CertLabel) → ℕ → ℕ → Type 0
LayerPasses problem is_state state_of tour target layers step n =
    PassUpTo problem is_state target step (layer_of state_of tour problem.goal layers step) (there (layer_of state_of tour problem.goal layers (step + 1))) n

-- All labels of the layers before this step pass.
abbrev pub LayersPass : {S : Type 0} → Problem S → (S → ℕ → Type 0) → (List ℕ → ℕ → Option S) → Tour → Option ℕ → List (List CertLabel) → ℕ → Type 0
LayersPass problem is_state state_of tour target layers n =
    (step : ℕ) → step < n → LayerPasses problem is_state state_of tour target layers step (length (layer_at layers step))

-- the lines of the layers before this step, where each layer has one line and each label one
abbrev pub lines_before : List (List CertLabel) → ℕ → ℕ
lines_before layers step = sum_by (λ cs. length cs + 1) (take step layers)

-- The label at place i of the layer of this step is the first at which a condition fails, and that of this reason is the first there; its line is this one, where the line of layer 0 is `first`.
pub record IsFirstLabel {S : Type 0} (problem : Problem S) (is_state : S → ℕ → Type 0) (state_of : List ℕ → ℕ → Option S) (tour : Tour) (target : Option ℕ) (layers : List (List CertLabel)) (first : ℕ) (r : Rejection) : Type 0 where
  pub step : ℕ
  pub fault : LabelFault
  pub inside : step < length layers
  pub before : LayersPass problem is_state state_of tour target layers step
  pub here : IsFirstFault problem is_state target step (layer_of state_of tour problem.goal layers step) (there (layer_of state_of tour problem.goal layers (step + 1))) fault
  pub reason : r.reason ≡ fault.reason
  pub line : r.line ≡ first + lines_before layers step + fault.index + 1
