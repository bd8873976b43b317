-- The earliest end of a tour, as a function of its word.
use Rattle.std.specs.Prelude.{ℕ, ◌+◌, true, false, Option, Some, List, [], ◌∷◌, drop}
use Rattle.std.specs.Option.{option_and_then}
use Rattle.tour_model.specs.declared.window.Window.{Window}
use Rattle.tour_model.specs.declared.piece.Piece.{Piece}
use Rattle.tour_model.specs.declared.piece.Piece.TheVariants as piece
use Rattle.tour_model.specs.declared.tour.Tour.{Tour}
use Rattle.tour_model.specs.Window.{first_open}
use Rattle.tour_model.specs.Word.{word_of, windows_at}

-- Each piece takes a step, and a service waits for a window before it begins.
abbrev pub end_after : (ℕ → List Window) → ℕ → List Piece → Option ℕ
end_after windows step [] = Some step
end_after windows step (piece.Drive number ∷ pieces) = end_after windows (step + 1) pieces
end_after windows step (piece.Serve number true ∷ pieces) = option_and_then (λ begins. end_after windows (begins + 1) pieces) (first_open (windows number) step)
end_after windows step (piece.Serve number false ∷ pieces) = end_after windows (step + 1) pieces

-- the earliest end from this step and progress on; None where there is none
unfoldable pub eta_of : Tour → ℕ → ℕ → Option ℕ
eta_of tour step progress = end_after (windows_at tour.stops) step (drop progress (word_of tour))
