-- The certificate of layers.
use Rattle.std.specs.Prelude.{◌≡◌, ℕ, ◌*◌, ◌≤◌, List, [], length, Option, None, Some}
use Rattle.duty_core.specs.declared.activity.Activity.{Activity}
use Rattle.duty_core.specs.declared.limits.TheConstants.{LONGEST_LOG}
use Rattle.duty_core.specs.declared.mark.Mark.{Mark}
use Rattle.duty_core.specs.Params.{unit_minutes}
use Rattle.rule_core.specs.Machine.{Machine}
use Rattle.tour_model.specs.declared.label.Label.{Label}
use Rattle.tour_model.specs.declared.schedule.Schedule.{Schedule}
use Rattle.tour_model.specs.declared.tour.Tour.{Tour}
use Rattle.tour_model.specs.Schedule.{duration, IsSolutionWith}
use Rattle.cert_text.specs.declared.cert.Cert.{Cert}
use Rattle.cert_text.specs.declared.cert.CertKind.{CertKind}
use Rattle.cert_text.specs.declared.cert.CertKind.TheVariants.{Shortest, Infeasible}
use Rattle.cert_text.specs.CoverLists.Planning.{problem_of, state_at, IsLogState}
use Rattle.cert_text.specs.CoverLists.Cover.{IsCoverList}
use Rattle.cert_text.specs.Cert.{acts_of_runs, AreLayersOf}

-- The layers prove the answer after the log: this schedule, with its marks, is a solution, and none is shorter; or there is none.
abbrev pub ProveAnswer : {S : Type 0} → Tour → List Activity → Machine S → Option Schedule → List (List (Label S)) → Type 0
ProveAnswer tour log m None layers = IsCoverList (problem_of tour m) (state_at tour m) (IsLogState tour log m) None layers
ProveAnswer tour log m (Some best) layers =
    IsSolutionWith tour log best.steps best.marks × IsCoverList (problem_of tour m) (state_at tour m) (IsLogState tour log m) (Some (duration best.steps)) layers

-- what a certificate says of the best schedule, where there is one
abbrev pub kind_of : Option Schedule → CertKind
kind_of None = Infeasible
kind_of (Some best) = Shortest

abbrev pub target_of : Option Schedule → Option ℕ
target_of None = None
target_of (Some best) = Some (duration best.steps)

abbrev pub steps_of : Option Schedule → List Activity
steps_of None = []
steps_of (Some best) = best.steps

abbrev pub marks_of : Option Schedule → List Mark
marks_of None = []
marks_of (Some best) = best.marks

-- The certificate says this of the best schedule, and its layers are these.
pub record Tells {S : Type 0} (state_of : List ℕ → ℕ → Option S) (tour : Tour) (best : Option Schedule) (listed : List (List (Label S))) (cert : Cert) : Type 0 where
  pub kind : cert.kind ≡ kind_of best
  pub target : cert.target ≡ target_of best
  pub schedule : acts_of_runs cert.schedule ≡ steps_of best
  pub marks : cert.marks ≡ marks_of best
  pub layers : AreLayersOf state_of tour 0 cert.layers listed

-- The schedule, where there is one, is a solution with its marks, after some log that is not too long.
abbrev pub IsSolved : Tour → Option Schedule → Type 0
IsSolved tour None = Unit {0}
IsSolved tour (Some best) = (log : List Activity) × (unit_minutes tour.params * length log ≤ LONGEST_LOG) × IsSolutionWith tour log best.steps best.marks
