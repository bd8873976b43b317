-- The work of a tour, piece by piece, as the bound reads it.
use Rattle.std.specs.Prelude.{ℕ, true, false, ◌||◌, List, Option, None, Some, slice_get}
use Rattle.tour_model.specs.declared.piece.Piece.{Piece}
use Rattle.tour_model.specs.declared.piece.Piece.TheVariants as piece
use Rattle.tour_model.specs.declared.window.Window.{Window}
use Rattle.tour_model.specs.declared.tour.Tour.{Tour}
use Rattle.tour_model.specs.Window.{first_open}
use Rattle.tour_model.specs.Word.{word_of, windows_at, is_drive, is_service, is_pause}
use Rattle.rest_bound.specs.Ends.{Plan}

-- Driving may be done at any step, and service where a window of its stop allows it.
abbrev pub plan_by : List Piece → Tour → Plan
plan_by pieces tour = record {
  drives = λ p. is_drive (slice_get pieces p);
  opens = λ p k. is_drive (slice_get pieces p) || is_service (windows_at tour.stops) k (slice_get pieces p);
  idles = λ p. is_pause (slice_get pieces p);
}

abbrev pub plan_of : Tour → Plan
plan_of tour = plan_by (word_of tour) tour

-- The first step from this one on at which a piece may be done; None where there is no piece, or no such step.
abbrev pub first_step : (ℕ → List Window) → ℕ → Option Piece → Option ℕ
first_step windows from None = None
first_step windows from (Some (piece.Drive stop)) = Some from
first_step windows from (Some (piece.Serve stop true)) = first_open (windows stop) from
first_step windows from (Some (piece.Serve stop false)) = Some from
