-- The times that stand in a form, and those of the tour that it is.
use Rattle.std.specs.Prelude.{◌≡◌, ℕ, List, [], ◌∷◌, Some}
use Rattle.std.specs.List.{AllZip}
use Rattle.serde_json.specs.Data.{Data}
use Rattle.serde_json.specs.Find.{get, as_str}
use Rattle.civil_minutes.specs.Time.{IsTimeText}
use Rattle.tour_model.specs.declared.stop.Stop.{Stop}
use Rattle.tour_model.specs.declared.tour.Tour.{Tour}
use Rattle.tour_reader.specs.declared.field.Field.TheVariants as field
use Rattle.tour_reader.specs.declared.written.Span.{Span}
use Rattle.tour_reader.specs.Fields.{key}
use Rattle.tour_reader.specs.Values.{array_of, items_of}
use Rattle.tour_reader.specs.Rounding.{windows_of}

-- the value is a text, and that of this civil minute
pub record IsTimeAt (value : Data) (at : ℕ) : Type 0 where
  pub text : List ℕ
  pub said : as_str value ≡ Some text
  pub time : IsTimeText text at

-- the value is an array of two times, those from which and to which the span goes
pub record IsSpanAt (value : Data) (span : Span) : Type 0 where
  pub from : Data
  pub to : Data
  pub two : array_of value ≡ Some (from ∷ to ∷ [])
  pub opens : IsTimeAt from span.from
  pub closes : IsTimeAt to span.to

-- The windows of the stop are the spans that its value writes, in steps of so many minutes from the start on: openings rounded up and closings down.
pub record HasWindowsAt (grid start : ℕ) (value : Data) (stop : Stop) : Type 0 where
  pub items : List Data
  pub listed : items_of field.Windows value ≡ Some items
  pub spans : List Span
  pub timed : AllZip IsSpanAt items spans
  pub rounded : stop.windows ≡ windows_of grid start spans

-- The tour starts at the time that the form writes, and each of its stops, in their order, has the windows that the form writes.
pub record HasTimesOf (form : Data) (tour : Tour) : Type 0 where
  pub start : Data
  pub written : get (key field.Start) form ≡ Some start
  pub starts : IsTimeAt start tour.start
  pub items : List Data
  pub listed : items_of field.Stops form ≡ Some items
  pub stops : AllZip (HasWindowsAt tour.grid tour.start) items tour.stops
