-- What each rule book says of a tour's form: its word, its fields, its unit, and its parameters.
use Rattle.std.specs.Prelude.{ℕ, Bool, if◌then◌else◌, List, codes, Option, Some, None, option_and_then, Result, Ok}
use Rattle.std.specs.Str.{bytes_eq}
use Rattle.serde_json.specs.Data.{Data}
use Rattle.serde_json.specs.Find.{get, as_bool}
use Rattle.duty_core.specs.declared.params.Params.{Params}
use Rattle.duty_core.specs.declared.params.Params.TheVariants as params
use Rattle.duty_core.specs.declared.params.RestWay.{RestWay}
use Rattle.duty_core.specs.declared.params.RestWay.TheVariants.{Split, Defer}
use Rattle.duty_core.specs.Params.{BookUnit, InMinutes, InQuarters, minutes_in}
use Rattle.tour_model.specs.declared.limits.TheConstants.{FEWEST_DAYS, MOST_DAYS, MOST_CYCLE}
use Rattle.tour_model.specs.Tour.{grids_in}
use Rattle.tour_reader.specs.declared.field.Field.{Field}
use Rattle.tour_reader.specs.declared.field.Field.TheVariants as field
use Rattle.tour_reader.specs.declared.book.Book.{Book}
use Rattle.tour_reader.specs.declared.book.Book.TheVariants.{Us, Canada, Hvnl}
use Rattle.tour_reader.specs.declared.book.TheConstants.{US_FIELDS, CANADA_FIELDS, HVNL_FIELDS}
use Rattle.tour_reader.specs.declared.fault.TourFault.{TourFault}
use Rattle.tour_reader.specs.Fields.{key}
use Rattle.tour_reader.specs.Gives.{◌>>=◌, good}
use Rattle.tour_reader.specs.Values.{whole_of, text_of}
use Rattle.tour_reader.specs.Times.{clock_of}

-- ---- the word, the fields and the unit

-- the book of this name
abbrev pub book_named : List ℕ → Option Book
book_named name =
    if bytes_eq name (codes "us") then Some Us
    else if bytes_eq name (codes "canada") then Some Canada
    else if bytes_eq name (codes "hvnl") then Some Hvnl
    else None

-- the fields of a tour of the book, in the order in which their faults are told
abbrev pub fields_of : Book → List Field
fields_of Us = US_FIELDS
fields_of Canada = CANADA_FIELDS
fields_of Hvnl = HVNL_FIELDS

-- the book's unit of time
abbrev pub book_unit : Book → BookUnit
book_unit Us = InMinutes
book_unit Canada = InMinutes
book_unit Hvnl = InQuarters

-- the lengths of a step that a tour of the book may have, in minutes
abbrev pub grids_of_book : Book → List ℕ
grids_of_book book = grids_in (book_unit book)

-- the length of the book's unit, in minutes
abbrev pub unit_of_book : Book → ℕ
unit_of_book book = minutes_in (book_unit book)

-- ---- the parameters

-- whether the truck has a sleeper berth
abbrev pub berth_of : Data → Result Bool TourFault
berth_of form = good field.Berth None (option_and_then as_bool (get (key field.Berth) form))

-- the minute at which a day begins
unfoldable pub day_start_of : Data → Result ℕ TourFault
day_start_of form = good field.DayStart None (option_and_then clock_of (text_of field.DayStart form))

-- the way to part rest that has this name
abbrev pub way_named : List ℕ → Option RestWay
way_named name =
    if bytes_eq name (codes "split") then Some Split
    else if bytes_eq name (codes "defer") then Some Defer
    else None

-- the parameters of the United States
unfoldable pub us_params : Data → Result Params TourFault
us_params form = do
  berth ← berth_of form
  days ← good field.Days None (whole_of field.Days FEWEST_DAYS MOST_DAYS form)
  day_start ← day_start_of form
  Ok (params.UsProperty berth days day_start)

-- the parameters of Canada
unfoldable pub canada_params : Data → Result Params TourFault
canada_params form = do
  berth ← berth_of form
  way ← good field.Rest None (option_and_then way_named (text_of field.Rest form))
  cycle ← good field.Cycle None (whole_of field.Cycle 1 MOST_CYCLE form)
  day_start ← day_start_of form
  Ok (params.Canada berth way cycle day_start)

-- the parameters of the book
abbrev pub params_of : Book → Data → Result Params TourFault
params_of Us form = us_params form
params_of Canada form = canada_params form
params_of Hvnl form = Ok params.Hvnl
