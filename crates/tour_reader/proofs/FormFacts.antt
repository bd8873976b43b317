-- A form beside the values that the reader holds.
use Rattle.std.proofs.Common.{◌≡◌, ℕ, ◌≤◌, List, [], ◌∷◌, length, map, find, not, Bool, true, false, cond, nat_lt, Option, Some, None, Ok, Err, option_map, is_some, String, Global, string_bytes, IsUtf8, refl, sym, ap, ◌∙◌}
use Rattle.std.specs.Map.{keys_of}
use Rattle.std.specs.Str.{is_utf8}
use Rattle.std.proofs.lemmas.Bool.{le-ltb}
use Rattle.std.proofs.lemmas.Str.{is_utf8-from_IsUtf8, IsUtf8-from_is_utf8}
use Rattle.serde_json.specs.Data.{Data, Members}
use Rattle.serde_json.specs.Find.{as_object}
use Rattle.serde_json.specs.Read.{read}
use Rattle.serde_json.specs.View.{items_of, members_view}
use Rattle.serde_json.specs.declared.value.Value.{Value}
use Rattle.tour_reader.specs.declared.field.Field.{Field}
use Rattle.tour_reader.specs.declared.form.TheConstants.{TOUR_LIMIT}
use Rattle.tour_reader.specs.declared.fault.TourFault.TheVariants.{TooBig, NotJson}
use Rattle.tour_reader.specs.Fields.{is_known, names_of_members, names_from, first_unknown}
use Rattle.tour_reader.specs.Values.{list_of}
use Rattle.tour_reader.specs.Tour.{object_from, form_of}

-- the items that a list was made into are that list
pub list_of-items_of : (ds : List Data) → list_of (items_of ds) ≡ ds
list_of-items_of [] = refl
list_of-items_of (d ∷ ds) = ap (λ (rest : List Data). d ∷ rest) (list_of-items_of ds)

-- ---- the object

by_tests : (big valid object : Bool) (value : Option Data) (d : Data) → big ≡ false → valid ≡ true → value ≡ Some d → is_some (as_object d) ≡ object
    → cond big (Err TooBig) (object_from (cond valid value None)) ≡ cond object (Ok d) (Err NotJson)
by_tests big valid object value d b v is o = rw (b, v, is, o) refl

-- what was read, where the bytes are few enough
pub form_of_read : (bytes : List ℕ) (d : Data) (object : Bool) → length bytes ≤ TOUR_LIMIT → IsUtf8 bytes → read bytes ≡ Some d → is_some (as_object d) ≡ object → form_of bytes ≡ cond object (Ok d) (Err NotJson)
unfolding form_of
form_of_read bytes d object few text is o = by_tests (nat_lt TOUR_LIMIT (length bytes)) (is_utf8 bytes) object (read bytes) d (le-ltb _ _ few) (is_utf8-from_IsUtf8 bytes text) is o

none_by_tests : (big valid : Bool) (value : Option Data) → big ≡ false → (valid ≡ true → value ≡ None) → cond big (Err TooBig) (object_from (cond valid value None)) ≡ Err NotJson
none_by_tests big true value b none = rw (b, none refl) refl
none_by_tests big false value b none = rw b refl

-- bytes that are no text, or no JSON
pub form_of_refused : (bytes : List ℕ) → length bytes ≤ TOUR_LIMIT → (IsUtf8 bytes → read bytes ≡ None) → form_of bytes ≡ Err NotJson
unfolding form_of
form_of_refused bytes few none = none_by_tests (nat_lt TOUR_LIMIT (length bytes)) (is_utf8 bytes) (read bytes) (le-ltb _ _ few) (λ valid. none (IsUtf8-from_is_utf8 bytes valid))

-- ---- names

names_of_members-view : (es : List (String Global × Value)) → names_of_members (members_view es) ≡ map (λ k. string_bytes k) (keys_of es)
names_of_members-view [] = refl
names_of_members-view (e ∷ es) = ap (λ (rest : List (List ℕ)). string_bytes e.0 ∷ rest) (names_of_members-view es)

found : (b : Bool) (k : String Global) (o : Option (String Global)) (p : Option (List ℕ)) → option_map (λ k. string_bytes k) o ≡ p → option_map (λ k. string_bytes k) (cond b (Some k) o) ≡ cond b (Some (string_bytes k)) p
found true k o p e = refl
found false k o p e = e

find-map : (test : List ℕ → Bool) (ks : List (String Global)) → option_map (λ k. string_bytes k) (find (λ k. test (string_bytes k)) ks) ≡ find test (map (λ k. string_bytes k) ks)
find-map test [] = refl
find-map test (k ∷ ks) = found (test (string_bytes k)) k _ _ (find-map test ks)

-- the first unknown name, by the keys of the map
unknown_by_keys : (fields : List Field) (es : List (String Global × Value))
    → option_map (λ k. string_bytes k) (find (λ key. not (is_known fields (string_bytes key))) (keys_of es)) ≡ find (λ name. not (is_known fields name)) (names_from (Some (members_view es)))
unknown_by_keys fields es = find-map (λ name. not (is_known fields name)) (keys_of es) ∙ ap (find (λ name. not (is_known fields name))) (sym (names_of_members-view es))

-- the first unknown name of a form, by the keys of its members
pub unknown_name : (fields : List Field) (form : Data) (es : List (String Global × Value)) (o : Option (String Global)) → Some (members_view es) ≡ as_object form
    → o ≡ find (λ key. not (is_known fields (string_bytes key))) (keys_of es) → option_map (λ k. string_bytes k) o ≡ first_unknown fields form
unknown_name fields form es o object is = ap (option_map (λ k. string_bytes k)) is ∙ unknown_by_keys fields es ∙ ap (λ (ms : Option Members). find (λ name. not (is_known fields name)) (names_from ms)) object
