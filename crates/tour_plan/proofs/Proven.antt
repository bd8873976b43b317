-- A schedule of which layers prove that it is a shortest one.
use Rattle.std.proofs.Common.{◌≡◌, ◌+◌, ◌*◌, ◌^◌, ◌<◌, ◌≤◌, List, length, Option, None, Some, sym, ◌∙◌, ap, subst, arith}
use Rattle.std.proofs.Math.Nat.{div-le_self}
use Rattle.duty_core.specs.declared.activity.Activity.{Activity}
use Rattle.duty_core.specs.declared.limits.TheConstants.{LONGEST_LOG}
use Rattle.duty_core.specs.Params.{unit_minutes}
use Rattle.tour_model.specs.declared.label.Label.{Label}
use Rattle.tour_model.specs.declared.limits.TheConstants.{LONGEST_TOUR}
use Rattle.tour_model.specs.declared.schedule.Schedule.{Schedule}
use Rattle.tour_model.specs.declared.tour.Tour.{Tour}
use Rattle.tour_model.specs.Laws.LengthLaws.{serves_few}
use Rattle.tour_model.specs.Schedule.{IsSolutionWith, duration}
use Rattle.tour_model.specs.Tour.{IsTour}
use Rattle.rule_core.specs.declared.roots.Root.{Root}
use Rattle.rule_core.specs.Machine.{Machine}
use Rattle.label_state.specs.declared.kept.Kept.{Kept}
use Rattle.label_state.specs.declared.kept.Place.{Place}
use Rattle.label_state.specs.Layers.{label_layers}
use Rattle.label_state.specs.Path.{path_of, path_marks}
use Rattle.label_search.specs.Searched.{IsFound}
use Rattle.cert_text.specs.CoverLists.Cover.{IsCoverList}
use Rattle.cert_text.specs.CoverLists.Planning.{problem_of, state_at, IsLogState}
use Rattle.refutation.specs.Refutes.{ProveAnswer, IsSolved, steps_of}

-- the path to the place that a search found is one
pub path_proven : {S : Type 0} (tour : Tour) (log : List Activity) (m : Machine S) (roots : List (Root S)) (layers : List (List (Kept S))) (place : Place) (schedule : Schedule) →
    IsFound (problem_of tour m) (state_at tour m) tour log (IsLogState tour log m) roots layers place → schedule.steps ≡ path_of layers place.layer place.index → schedule.marks ≡ path_marks layers roots place.layer place.index →
    ProveAnswer tour log m (Some schedule) (label_layers layers)
path_proven tour log m roots layers place schedule found steps marks = (
  subst (λ xs. IsSolutionWith tour log xs schedule.marks) (sym steps) (subst (IsSolutionWith tour log (path_of layers place.layer place.index)) (sym marks) found.solves),
  subst (λ n. IsCoverList (problem_of tour m) (state_at tour m) (IsLogState tour log m) (Some n) (label_layers layers)) (sym (ap duration steps ∙ found.takes)) found.covers,
)

-- it has few steps
pub proven_few : {S : Type 0} (tour : Tour) → IsTour tour → (log : List Activity) (m : Machine S) (best : Option Schedule) (layers : List (List (Label S))) →
    ProveAnswer tour log m best layers → length (steps_of best) + 1 < 2 ^ 32
proven_few tour t log m None layers h = omega arith
proven_few tour t log m (Some best) layers h =
    let few = serves_few tour t best.steps h.0.serves in
    omega (arith, div-le_self LONGEST_TOUR tour.grid)

-- and it is a solution
pub proven_solves : {S : Type 0} (tour : Tour) (log : List Activity) (m : Machine S) (best : Option Schedule) (layers : List (List (Label S))) →
    unit_minutes tour.params * length log ≤ LONGEST_LOG → ProveAnswer tour log m best layers → IsSolved tour best
proven_solves tour log m None layers short h = tt
proven_solves tour log m (Some best) layers short h = (log, short, h.0)
