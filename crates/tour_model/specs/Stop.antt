-- One stop of a tour, by itself.
use Rattle.std.specs.Prelude.{ℕ, ◌+◌, ◌-◌, ◌≤◌, Option, Some, All, nat_lt, ◌==◌, if◌then◌else◌}
use Rattle.std.specs.Option.{option_map}
use Rattle.tour_model.specs.declared.limits.TheConstants.{LONGEST_TOUR}
use Rattle.tour_model.specs.declared.stop.Stop.{Stop}
use Rattle.tour_model.specs.declared.piece.Piece.{Piece}
use Rattle.tour_model.specs.declared.piece.Piece.TheVariants as piece
use Rattle.tour_model.specs.Window.{first_open}

-- No number of the stop is greater than the longest tour, in steps.
pub record IsSmall (stop : Stop) : Type 0 where
  pub drive : stop.drive ≤ LONGEST_TOUR
  pub service : stop.service ≤ LONGEST_TOUR
  pub windows : All (λ w. w.closes ≤ LONGEST_TOUR) stop.windows

-- the piece of the stop's work after so much of it is done
abbrev pub piece_in : Stop → ℕ → ℕ → Piece
piece_in stop number done = if nat_lt done stop.drive then piece.Drive number else piece.Serve number (done == stop.drive)

-- the step at which the stop is left at the earliest, where so much of its work is done at this step
abbrev pub leaves_at : Stop → ℕ → ℕ → Option ℕ
leaves_at stop step done =
    if nat_lt stop.drive done then Some (step + (stop.drive + stop.service - done))
    else option_map (λ begins. begins + stop.service) (first_open stop.windows (step + (stop.drive - done)))
