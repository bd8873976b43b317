-- The stops of a form, as they are written: in minutes.
use Rattle.std.specs.Prelude.{ℕ, ◌+◌, ◌==◌, ◌&&◌, not, nat_le, nat_lt, if◌then◌else◌, Bool, List, [], ◌∷◌, length, Option, Some, None, option_map, option_and_then, is_some, Result, Ok, Err}
use Rattle.std.specs.List.{list_all}
use Rattle.serde_json.specs.Data.{Data}
use Rattle.serde_json.specs.Find.{as_object, as_str}
use Rattle.tour_model.specs.declared.limits.TheConstants.{MOST_STOPS, LONGEST_NAME, MOST_DRIVE, MOST_SERVICE, MOST_WINDOWS}
use Rattle.tour_reader.specs.declared.field.Field.TheVariants as field
use Rattle.tour_reader.specs.declared.field.TheConstants.{STOP_FIELDS}
use Rattle.tour_reader.specs.declared.written.Span.{Span}
use Rattle.tour_reader.specs.declared.written.WrittenStop.{WrittenStop}
use Rattle.tour_reader.specs.declared.fault.TourFault.{TourFault}
use Rattle.tour_reader.specs.declared.fault.TourFault.TheVariants.{BadValue, NoStops, TooManyStops}
use Rattle.tour_reader.specs.Fields.{with_fields}
use Rattle.tour_reader.specs.Gives.{◌>>=◌, good}
use Rattle.tour_reader.specs.Values.{whole_of, text_of, array_of, items_of}
use Rattle.civil_minutes.specs.TimeOf.{time_of}

-- ---- the name

-- whether the byte is of no control character
abbrev pub is_plain : ℕ → Bool
is_plain byte = nat_le 0x20 byte && not (byte == 0x7f)

-- whether a stop may have the name
abbrev pub is_name : List ℕ → Bool
is_name name = not (length name == 0) && nat_le (length name) LONGEST_NAME && list_all is_plain name

-- the name, if a stop may have it
abbrev pub named : List ℕ → Option (List ℕ)
named name = if is_name name then Some name else None

-- the name of a stop
unfoldable pub name_at : Option ℕ → Data → Result (List ℕ) TourFault
name_at stop form = good field.Name stop (option_and_then named (text_of field.Name form))

-- ---- the windows

-- the time of a value
abbrev pub time_at : Data → Option ℕ
time_at d = option_and_then time_of (as_str d)

-- the span between two times, if the first is not after the second
abbrev pub span_between : Option ℕ → Option ℕ → Option Span
span_between None to = None
span_between (Some from) None = None
span_between (Some from) (Some to) = if nat_le from to then Some (record { from = from; to = to }) else None

-- the span of two times
abbrev pub span_from : List Data → Option Span
span_from [] = None
span_from (from ∷ []) = None
span_from (from ∷ to ∷ []) = span_between (time_at from) (time_at to)
span_from (from ∷ to ∷ other ∷ more) = None

-- the span of an array of two times
abbrev pub span_of : Data → Option Span
span_of d = option_and_then span_from (array_of d)

-- one span and the others, if they are all there
abbrev pub and_others : Option Span → Option (List Span) → Option (List Span)
and_others None others = None
and_others (Some span) others = option_map (λ spans. span ∷ spans) others

-- the spans of these values, if each has one
abbrev pub spans_of : List Data → Option (List Span)
spans_of [] = Some []
spans_of (d ∷ ds) = and_others (span_of d) (spans_of ds)

-- the spans of these values, if they are neither none nor too many
abbrev pub few_spans : List Data → Option (List Span)
few_spans ds = if nat_le 1 (length ds) && nat_le (length ds) MOST_WINDOWS then spans_of ds else None

-- the windows of a stop
unfoldable pub spans_at : Option ℕ → Data → Result (List Span) TourFault
spans_at stop form = good field.Windows stop (option_and_then few_spans (items_of field.Windows form))

-- ---- one stop

-- a stop that has its fields, and no other
unfoldable pub written_fields : Option ℕ → Data → Result WrittenStop TourFault
written_fields stop form = do
  name ← name_at stop form
  drive ← good field.Drive stop (whole_of field.Drive 0 MOST_DRIVE form)
  service ← good field.Service stop (whole_of field.Service 1 MOST_SERVICE form)
  spans ← spans_at stop form
  Ok (record { name = name; drive = drive; service = service; spans = spans })

-- the stop of this number
unfoldable pub written_stop : ℕ → Data → Result WrittenStop TourFault
written_stop number form =
    if is_some (as_object form) then (with_fields STOP_FIELDS (Some number) form >>= written_fields (Some number))
    else Err (BadValue field.Stops (Some number))

-- ---- the stops

-- the stops of these values, numbered from this number on
unfoldable pub written_stops : ℕ → List Data → Result (List WrittenStop) TourFault
written_stops number [] = Ok []
written_stops number (d ∷ ds) = do
  first ← written_stop number d
  others ← written_stops (number + 1) ds
  Ok (first ∷ others)

-- the stops of these values, if they are neither none nor too many
abbrev pub few_stops : List Data → Result (List WrittenStop) TourFault
few_stops ds =
    if length ds == 0 then Err NoStops
    else if nat_lt MOST_STOPS (length ds) then Err TooManyStops
    else written_stops 1 ds

-- the stops of a form
unfoldable pub stops_of : Data → Result (List WrittenStop) TourFault
stops_of form = good field.Stops None (items_of field.Stops form) >>= few_stops
