-- From minutes to steps: driving and service are rounded up, and so are openings; closings are rounded down.
use Rattle.std.specs.Prelude.{ℕ, ◌-◌, ◌/◌, ◌&&◌, nat_le, if◌then◌else◌, List, Option, Some, None, map}
use Rattle.std.specs.List.{filter_map}
use Rattle.std.specs.Int.{div_ceil}
use Rattle.tour_model.specs.declared.window.Window.{Window}
use Rattle.tour_model.specs.declared.stop.Stop.{Stop}
use Rattle.tour_model.specs.declared.tour.Tour.{Tour}
use Rattle.tour_reader.specs.declared.head.Head.{Head}
use Rattle.tour_reader.specs.declared.written.Span.{Span}
use Rattle.tour_reader.specs.declared.written.WrittenStop.{WrittenStop}

-- so many minutes in steps, where a part of a step counts as one
abbrev pub steps_up : ℕ → ℕ → ℕ
steps_up grid minutes = div_ceil minutes grid

-- the whole steps of so many minutes
abbrev pub steps_down : ℕ → ℕ → ℕ
steps_down grid minutes = minutes / grid

-- the first step that begins in the span; the first of all for a span that begins before the start
abbrev pub opening : ℕ → ℕ → Span → ℕ
opening grid start span = steps_up grid (span.from - start)

-- the last step that begins in a span that ends after the start
abbrev pub closing : ℕ → ℕ → Span → ℕ
closing grid start span = steps_down grid (span.to - start)

-- the window of a span, unless the span ends before the start or no step begins in it
abbrev pub window_of : ℕ → ℕ → Span → Option Window
window_of grid start span =
    if nat_le start span.to && nat_le (opening grid start span) (closing grid start span)
    then Some (record { opens = opening grid start span; closes = closing grid start span }) else None

-- the windows of the spans that have one
abbrev pub windows_of : ℕ → ℕ → List Span → List Window
windows_of grid start spans = filter_map (window_of grid start) spans

-- a stop in steps
abbrev pub stop_of : ℕ → ℕ → WrittenStop → Stop
stop_of grid start stop = record {
  name = stop.name;
  drive = steps_up grid stop.drive;
  service = steps_up grid stop.service;
  windows = windows_of grid start stop.spans;
}

-- the tour of this head and these stops, in steps
abbrev pub tour_from : Head → List WrittenStop → Tour
tour_from head stops = record { params = head.params; grid = head.grid; start = head.start; stops = map (stop_of head.grid head.start) stops }
