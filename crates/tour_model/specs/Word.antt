-- The word of a tour: its driving and service, piece by piece, and what each piece allows.
use Rattle.std.specs.Prelude.{ℕ, zero, suc, ◌+◌, Bool, true, false, Option, None, Some, List, [], ◌∷◌, ◌++◌, length, replicate, slice_get}
use Rattle.duty_core.specs.declared.activity.Activity.{Activity}
use Rattle.duty_core.specs.declared.activity.Activity.TheVariants.{Drive, Serve, Wait, Off, Berth}
use Rattle.tour_model.specs.declared.window.Window.{Window}
use Rattle.tour_model.specs.declared.stop.Stop.{Stop}
use Rattle.tour_model.specs.declared.piece.Piece.{Piece}
use Rattle.tour_model.specs.declared.piece.Piece.TheVariants as piece
use Rattle.tour_model.specs.declared.tour.Tour.{Tour}
use Rattle.tour_model.specs.Window.{is_open}

-- the pieces of a service of so many steps at the stop of this number
abbrev pub service_word : ℕ → ℕ → List Piece
service_word number zero = []
service_word number (suc more) = piece.Serve number true ∷ replicate more (piece.Serve number false)

-- stop by stop its driving and then its service, the first stop having this number
abbrev pub word_from : ℕ → List Stop → List Piece
word_from number [] = []
word_from number (s ∷ stops) = replicate s.drive (piece.Drive number) ++ (service_word number s.service ++ word_from (number + 1) stops)

-- the word of a tour
abbrev pub word_of : Tour → List Piece
word_of tour = word_from 0 tour.stops

-- the number of pieces of the word
abbrev pub word_length : Tour → ℕ
word_length tour = length (word_of tour)

-- the piece that comes after so much progress
abbrev pub next_piece : Tour → ℕ → Option Piece
next_piece tour progress = slice_get (word_of tour) progress

-- the windows of a stop, where there is one
abbrev pub windows_of : Option Stop → List Window
windows_of None = []
windows_of (Some s) = s.windows

-- the windows of the stop of this number
abbrev pub windows_at : List Stop → ℕ → List Window
windows_at stops number = windows_of (slice_get stops number)

-- whether driving is next
abbrev pub is_drive : Option Piece → Bool
is_drive None = false
is_drive (Some (piece.Drive number)) = true
is_drive (Some (piece.Serve number first)) = false

-- whether service is next and may be done at this step, given the windows of each stop
abbrev pub is_service : (ℕ → List Window) → ℕ → Option Piece → Bool
is_service windows step None = false
is_service windows step (Some (piece.Drive number)) = false
is_service windows step (Some (piece.Serve number true)) = is_open (windows number) step
is_service windows step (Some (piece.Serve number false)) = true

-- whether something is next that is not in the midst of a service
abbrev pub is_pause : Option Piece → Bool
is_pause None = false
is_pause (Some (piece.Drive number)) = true
is_pause (Some (piece.Serve number first)) = first

-- whether the activity may be done at this step before this piece
abbrev pub allows_piece : (ℕ → List Window) → ℕ → Activity → Option Piece → Bool
allows_piece windows step Drive next = is_drive next
allows_piece windows step Serve next = is_service windows step next
allows_piece windows step Wait next = is_pause next
allows_piece windows step Off next = is_pause next
allows_piece windows step Berth next = is_pause next

-- whether the tour allows service at this step, after so much progress
abbrev pub may_serve : Tour → ℕ → ℕ → Bool
may_serve tour step progress = is_service (windows_at tour.stops) step (next_piece tour progress)

-- whether the tour allows to idle after so much progress
abbrev pub may_idle : Tour → ℕ → Bool
may_idle tour progress = is_pause (next_piece tour progress)

-- whether the tour allows the activity at this step, after so much progress
abbrev pub may_do : Tour → ℕ → ℕ → Activity → Bool
may_do tour step progress act = allows_piece (windows_at tour.stops) step act (next_piece tour progress)
