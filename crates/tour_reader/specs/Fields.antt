-- The fields of a tour's form: their names, and how a form is asked for those that it should have.
use Rattle.std.specs.Prelude.{ℕ, Bool, not, List, [], ◌∷◌, codes, Option, Some, None, is_none, find, Result, Ok, Err}
use Rattle.std.specs.List.{list_any}
use Rattle.std.specs.Str.{bytes_eq}
use Rattle.serde_json.specs.Data.{Data, Members, no_members, member}
use Rattle.serde_json.specs.Find.{get, as_object}
use Rattle.tour_reader.specs.declared.field.Field.{Field}
use Rattle.tour_reader.specs.declared.field.Field.TheVariants as field
use Rattle.tour_reader.specs.declared.fault.TourFault.{TourFault}
use Rattle.tour_reader.specs.declared.fault.TourFault.TheVariants.{Missing, Unknown}

-- the field's name in a form
abbrev pub key : Field → List ℕ
key field.Book = codes "book"
key field.Grid = codes "grid"
key field.Start = codes "start"
key field.Berth = codes "berth"
key field.Days = codes "days"
key field.Rest = codes "rest"
key field.Cycle = codes "cycle"
key field.DayStart = codes "day_start"
key field.Stops = codes "stops"
key field.Name = codes "name"
key field.Drive = codes "drive"
key field.Service = codes "service"
key field.Windows = codes "windows"

-- whether one of the fields has this name
abbrev pub is_known : List Field → List ℕ → Bool
is_known fields name = list_any (λ f. bytes_eq name (key f)) fields

-- the names of the members, in byte order
abbrev pub names_of_members : Members → List (List ℕ)
names_of_members no_members = []
names_of_members (member name d ms) = name ∷ names_of_members ms

-- the names of an object's members, in byte order; none for another value
abbrev pub names_from : Option Members → List (List ℕ)
names_from None = []
names_from (Some ms) = names_of_members ms

-- the names of the fields of a form, in byte order
abbrev pub names_of : Data → List (List ℕ)
names_of form = names_from (as_object form)

-- the first of the fields that the form lacks
abbrev pub first_missing : List Field → Data → Option Field
first_missing fields form = find (λ f. is_none (get (key f) form)) fields

-- the first name in the form, in byte order, that is of none of the fields
abbrev pub first_unknown : List Field → Data → Option (List ℕ)
first_unknown fields form = find (λ name. not (is_known fields name)) (names_of form)

-- the form, if it has no field of an unknown name
abbrev pub with_unknown : Option (List ℕ) → Option ℕ → Data → Result Data TourFault
with_unknown (Some name) stop form = Err (Unknown name stop)
with_unknown None stop form = Ok form

-- the form, if it lacks no field and has none of an unknown name
abbrev pub with_missing : Option Field → Option (List ℕ) → Option ℕ → Data → Result Data TourFault
with_missing (Some f) unknown stop form = Err (Missing f stop)
with_missing None unknown stop form = with_unknown unknown stop form

-- the form of a stop or a tour, if it has each of these fields, and no other; else the first missing one, or else the first unknown one
unfoldable pub with_fields : List Field → Option ℕ → Data → Result Data TourFault
with_fields fields stop form = with_missing (first_missing fields form) (first_unknown fields form) stop form
