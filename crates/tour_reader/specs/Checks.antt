-- What is asked of all stops together.
use Rattle.std.specs.Prelude.{ℕ, ◌+◌, nat_lt, if◌then◌else◌, Bool, List, [], ◌∷◌, ◌++◌, map, position, Option, Some, None, option_map, Result, Ok, Err}
use Rattle.std.specs.List.{list_any}
use Rattle.std.specs.Str.{bytes_eq}
use Rattle.tour_model.specs.declared.limits.TheConstants.{LONGEST_TOUR}
use Rattle.tour_reader.specs.declared.written.Span.{Span}
use Rattle.tour_reader.specs.declared.written.WrittenStop.{WrittenStop}
use Rattle.tour_reader.specs.declared.fault.TourFault.{TourFault}
use Rattle.tour_reader.specs.declared.fault.TourFault.TheVariants.{DuplicateStop, BeyondHorizon}

-- the names of the stops
abbrev pub stop_names : List WrittenStop → List (List ℕ)
stop_names stops = map (λ stop. stop.name) stops

-- the first of the names that equals an earlier one of them, or one of those before all of them
abbrev pub first_repeated : List (List ℕ) → List (List ℕ) → Option (List ℕ)
first_repeated before [] = None
first_repeated before (name ∷ names) = if list_any (bytes_eq name) before then Some name else first_repeated (before ++ name ∷ []) names

-- the stops, if no name is repeated
abbrev pub with_repeated : Option (List ℕ) → List WrittenStop → Result (List WrittenStop) TourFault
with_repeated (Some name) stops = Err (DuplicateStop name)
with_repeated None stops = Ok stops

-- the stops, if no two have one name
unfoldable pub distinct : List WrittenStop → Result (List WrittenStop) TourFault
distinct stops = with_repeated (first_repeated [] (stop_names stops)) stops

-- whether a service of so many minutes that begins as the window closes ends too long after the start
abbrev pub closes_late : ℕ → ℕ → Span → Bool
closes_late start service span = nat_lt (start + LONGEST_TOUR) (span.to + service)

-- whether a service that begins as one of the stop's windows closes ends too long after the start
abbrev pub ends_late : ℕ → WrittenStop → Bool
ends_late start stop = list_any (closes_late start stop.service) stop.spans

-- the number, from 1, of the first such stop
abbrev pub first_late : ℕ → List WrittenStop → Option ℕ
first_late start stops = option_map (λ place. place + 1) (position (ends_late start) stops)

-- the stops, if none is late
abbrev pub with_late : Option ℕ → List WrittenStop → Result (List WrittenStop) TourFault
with_late (Some number) stops = Err (BeyondHorizon number)
with_late None stops = Ok stops

-- the stops, if each service can end in time
unfoldable pub in_time : ℕ → List WrittenStop → Result (List WrittenStop) TourFault
in_time start stops = with_late (first_late start stops) stops
