-- The tour that bytes are, or the first fault that they have.
use Rattle.std.specs.Prelude.{ℕ, nat_lt, if◌then◌else◌, List, length, Option, Some, None, is_some, Result, Ok, Err}
use Rattle.std.specs.Str.{is_utf8}
use Rattle.serde_json.specs.Data.{Data}
use Rattle.serde_json.specs.Find.{as_object}
use Rattle.serde_json.specs.Read.{read}
use Rattle.tour_model.specs.declared.tour.Tour.{Tour}
use Rattle.tour_reader.specs.declared.form.TheConstants.{TOUR_LIMIT}
use Rattle.tour_reader.specs.declared.fault.TourFault.{TourFault}
use Rattle.tour_reader.specs.declared.fault.TourFault.TheVariants.{TooBig, NotJson}
use Rattle.tour_reader.specs.Gives.{◌>>=◌}
use Rattle.tour_reader.specs.Head.{head_of}
use Rattle.tour_reader.specs.Written.{stops_of}
use Rattle.tour_reader.specs.Checks.{distinct, in_time}
use Rattle.tour_reader.specs.Rounding.{tour_from}

-- the JSON value that the bytes are; None where they are no UTF-8, or no JSON
abbrev pub json_of : List ℕ → Option Data
json_of bytes = if is_utf8 bytes then read bytes else None

-- the value, if it is an object
abbrev pub object_from : Option Data → Result Data TourFault
object_from None = Err NotJson
object_from (Some d) = if is_some (as_object d) then Ok d else Err NotJson

-- the JSON object that the bytes are
unfoldable pub form_of : List ℕ → Result Data TourFault
form_of bytes = if nat_lt TOUR_LIMIT (length bytes) then Err TooBig else object_from (json_of bytes)

-- the tour of a form: its head, then its stops, then what is asked of all stops together
unfoldable pub tour_in : Data → Result Tour TourFault
tour_in form = do
  head ← head_of form
  stops ← stops_of form
  apart ← distinct stops
  timely ← in_time head.start apart
  Ok (tour_from head timely)

-- the tour that the bytes are, or the first fault that they have
unfoldable pub tour_of : List ℕ → Result Tour TourFault
tour_of bytes = form_of bytes >>= tour_in
