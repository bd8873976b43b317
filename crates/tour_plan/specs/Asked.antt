-- What planning and an audit ask of the tour, the log and the book.
use Rattle.std.specs.Prelude.{◌≡◌, ℕ, ◌*◌, ◌≤◌, List, length}
use Rattle.duty_core.specs.declared.activity.Activity.{Activity}
use Rattle.duty_core.specs.declared.params.Params.{Params}
use Rattle.duty_core.specs.declared.limits.TheConstants.{LONGEST_LOG}
use Rattle.duty_core.specs.Params.{unit_minutes}
use Rattle.tour_model.specs.declared.tour.Tour.{Tour}
use Rattle.tour_model.specs.Tour.{IsTour}
use Rattle.tour_plan.specs.Planned.{IsBudget}

-- The log before the tour can be audited by a book with these parameters, which are the tour's.
pub record IsAuditable (tour : Tour) (log : List Activity) (params : Params) : Type 0 where
  pub is_tour : IsTour tour
  pub own : params ≡ tour.params
  pub short : unit_minutes tour.params * length log ≤ LONGEST_LOG

-- The tour after the log can be planned by such a book, with this budget of labels.
pub record IsPlannable (tour : Tour) (log : List Activity) (budget : ℕ) (params : Params) : Type 0 where
  pub auditable : IsAuditable tour log params
  pub is_budget : IsBudget budget
