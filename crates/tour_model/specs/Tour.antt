-- The numbers that a tour may have.
use Rattle.std.specs.Prelude.{ℕ, ◌+◌, ◌*◌, ◌≤◌, List, length, All, Contains}
use Rattle.duty_core.specs.declared.params.Params.{Params}
use Rattle.duty_core.specs.Params.{BookUnit, InMinutes, InQuarters, terms_of, BeginsUnit, AreGoodParams}
use Rattle.tour_model.specs.declared.limits.TheConstants.{GRIDS, HVNL_GRIDS, EARLIEST_START, LATEST_START, FEWEST_STOPS, MOST_STOPS, LONGEST_NAME, MOST_DRIVE, MOST_SERVICE, MOST_WINDOWS, LONGEST_TOUR}
use Rattle.tour_model.specs.declared.window.Window.{Window}
use Rattle.tour_model.specs.declared.stop.Stop.{Stop}
use Rattle.tour_model.specs.declared.tour.Tour.{Tour}

-- the numbers that a book's parameters may have
abbrev pub IsParams : Params → Type 0
IsParams params = AreGoodParams params

-- the lengths of a step that a tour of the unit may have, in minutes
abbrev pub grids_in : BookUnit → List ℕ
grids_in InMinutes = GRIDS
grids_in InQuarters = HVNL_GRIDS

-- those of a tour of the book
abbrev pub grids_of : Params → List ℕ
grids_of params = grids_in (terms_of params).unit

-- a window of a service of so many steps of so many minutes: the service ends within the longest tour
pub record IsWindow (grid service : ℕ) (w : Window) : Type 0 where
  pub ordered : w.opens ≤ w.closes
  pub ends : (w.closes + service) * grid ≤ LONGEST_TOUR

-- a stop of a tour whose steps have so many minutes
pub record IsStop (grid : ℕ) (stop : Stop) : Type 0 where
  pub named : 1 ≤ length stop.name
  pub short_name : length stop.name ≤ LONGEST_NAME
  pub drive : stop.drive * grid ≤ MOST_DRIVE
  pub some_service : 1 ≤ stop.service
  pub service : stop.service * grid ≤ MOST_SERVICE
  pub few_windows : length stop.windows ≤ MOST_WINDOWS
  pub windows : All (IsWindow grid stop.service) stop.windows

-- the numbers that a tour may have
pub record IsTour (tour : Tour) : Type 0 where
  pub params : IsParams tour.params
  pub grid : Contains (grids_of tour.params) tour.grid
  pub whole_start : BeginsUnit tour.params tour.start
  pub not_early : EARLIEST_START ≤ tour.start
  pub not_late : tour.start ≤ LATEST_START
  pub some_stops : FEWEST_STOPS ≤ length tour.stops
  pub few_stops : length tour.stops ≤ MOST_STOPS
  pub stops : All (IsStop tour.grid) tour.stops
