-- The bound of labels, as what a search asks for.
use Rattle.std.specs.Prelude.{◌≡◌, ◌<◌, ◌≤◌, Bool, List, Contains}
use Rattle.duty_core.specs.declared.limits.TheConstants.{US_UNBROKEN_LIMIT}
use Rattle.sleeper_split.specs.Machine.{IsSplitCount}
use Rattle.us_rules.specs.declared.state.UsState.{UsState}
use Rattle.tour_model.specs.declared.limits.TheConstants.{GRIDS, STEP_LIMIT}
use Rattle.tour_model.specs.declared.piece.Piece.{Piece}
use Rattle.tour_model.specs.declared.tour.Tour.{Tour}
use Rattle.tour_model.specs.Tour.{IsTour}
use Rattle.tour_model.specs.Word.{word_of, word_length}
use Rattle.tour_model.specs.Eta.{eta_of}
use Rattle.cert_text.specs.CoverLists.Bound.{Bounds}
use Rattle.rest_bound.specs.declared.table.Table.{Table}
use Rattle.rest_bound.specs.Runs.{AreLimits}
use Rattle.rest_bound.specs.Table.{IsTable}
use Rattle.us_bound.specs.Projection.{limits_of}
use Rattle.us_bound.specs.Work.{plan_by}
use Rattle.us_bound.specs.ShiftBound.{later_bound}

-- What the code asks of its table: it is the one of the tour's work, by the limits of a shift.
pub record IsReady (tour : Tour) (berth : Bool) (pieces : List Piece) (t : Table) : Type 0 where
  pub grid : Contains GRIDS tour.grid
  pub pieces_are : pieces ≡ word_of tour
  pub table : IsTable (plan_by pieces tour) t
  pub limits : AreLimits t.limits
  pub limits_are : t.limits ≡ limits_of berth tour.grid
  pub long : t.pieces ≡ word_length tour

-- The later bound, as what a search asks for: the progress alone tells the earliest end with no rules.
abbrev pub later_bounds : Tour → Bool → List Piece → Table → Bounds UsState
later_bounds tour berth pieces t = record {
  asks_early = λ step progress. IsTour tour × (progress ≤ word_length tour) × (step < STEP_LIMIT);
  asks = λ step progress s. IsReady tour berth pieces t × (progress ≤ word_length tour) × IsSplitCount s.split × (s.rest_break.driven ≤ US_UNBROKEN_LIMIT);
  early = eta_of tour;
  bound = later_bound tour berth t.horizon;
}
