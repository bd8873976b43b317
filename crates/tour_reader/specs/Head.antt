-- What a form says before its stops: the book and its parameters, the grid and the start.
use Rattle.std.specs.Prelude.{ℕ, ◌%◌, ◌==◌, if◌then◌else◌, List, Option, Some, None, option_and_then, Result, Ok, Err}
use Rattle.std.specs.List.{list_any}
use Rattle.serde_json.specs.Data.{Data}
use Rattle.serde_json.specs.Find.{get, as_str}
use Rattle.tour_model.specs.declared.limits.TheConstants.{EARLIEST_START, LATEST_START}
use Rattle.tour_reader.specs.declared.field.Field.TheVariants as field
use Rattle.tour_reader.specs.declared.book.Book.{Book}
use Rattle.tour_reader.specs.declared.head.Head.{Head}
use Rattle.tour_reader.specs.declared.fault.TourFault.{TourFault}
use Rattle.tour_reader.specs.declared.fault.TourFault.TheVariants.{Missing}
use Rattle.tour_reader.specs.Fields.{key, with_fields}
use Rattle.tour_reader.specs.Books.{book_named, fields_of, grids_of_book, unit_of_book, params_of}
use Rattle.tour_reader.specs.Gives.{◌>>=◌, good}
use Rattle.tour_reader.specs.Values.{number_of, text_of, within}
use Rattle.civil_minutes.specs.TimeOf.{time_of}

-- ---- the book

-- the book that the value of the field book names
abbrev pub book_from : Option Data → Result Book TourFault
book_from None = Err (Missing field.Book None)
book_from (Some d) = good field.Book None (option_and_then book_named (as_str d))

-- the book that a form names
unfoldable pub book_of : Data → Result Book TourFault
book_of form = book_from (get (key field.Book) form)

-- ---- the grid and the start

-- the number, if it is one of these
abbrev pub one_of : List ℕ → ℕ → Option ℕ
one_of ns n = if list_any (λ m. m == n) ns then Some n else None

-- the minutes of a step
unfoldable pub grid_of : Book → Data → Option ℕ
grid_of book form = option_and_then (one_of (grids_of_book book)) (number_of field.Grid form)

-- the minute, if a unit of so many minutes begins with it
abbrev pub on_unit : ℕ → ℕ → Option ℕ
on_unit unit at = if at % unit == 0 then Some at else None

-- the civil minute at which the first step begins
unfoldable pub start_of : Book → Data → Option ℕ
start_of book form = option_and_then (on_unit (unit_of_book book)) (option_and_then (within EARLIEST_START LATEST_START) (option_and_then time_of (text_of field.Start form)))

-- ---- all of it

-- what a form with the fields of the book says before its stops
unfoldable pub head_in : Book → Data → Result Head TourFault
head_in book form = do
  grid ← good field.Grid None (grid_of book form)
  start ← good field.Start None (start_of book form)
  params ← params_of book form
  Ok (record { params = params; grid = grid; start = start })

-- what a form says before its stops
unfoldable pub head_of : Data → Result Head TourFault
head_of form = do
  book ← book_of form
  whole ← with_fields (fields_of book) None form
  head_in book whole
