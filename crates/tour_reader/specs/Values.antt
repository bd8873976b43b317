-- The values of a form's fields.
use Rattle.std.specs.Prelude.{ℕ, ◌&&◌, nat_le, if◌then◌else◌, List, [], ◌∷◌, Option, Some, None, option_map, option_and_then}
use Rattle.serde_json.specs.Data.{Data, Items, no_items, item}
use Rattle.serde_json.specs.Find.{get, as_array, as_str, as_number, as_u64}
use Rattle.tour_reader.specs.declared.field.Field.{Field}
use Rattle.tour_reader.specs.Fields.{key}

-- the number, if it lies from low to high
abbrev pub within : ℕ → ℕ → ℕ → Option ℕ
within low high n = if nat_le low n && nat_le n high then Some n else None

-- the number of a field, if serde_json gives it as an unsigned integer
abbrev pub number_of : Field → Data → Option ℕ
number_of field form = option_and_then as_u64 (option_and_then as_number (get (key field) form))

-- the number of a field, if it is a whole one from low to high
abbrev pub whole_of : Field → ℕ → ℕ → Data → Option ℕ
whole_of field low high form = option_and_then (within low high) (number_of field form)

-- the text of a field
abbrev pub text_of : Field → Data → Option (List ℕ)
text_of field form = option_and_then as_str (get (key field) form)

-- the items as a list
abbrev pub list_of : Items → List Data
list_of no_items = []
list_of (item d ds) = d ∷ list_of ds

-- the items of an array
abbrev pub array_of : Data → Option (List Data)
array_of d = option_map list_of (as_array d)

-- the items of a field that is an array
abbrev pub items_of : Field → Data → Option (List Data)
items_of field form = option_and_then array_of (get (key field) form)
