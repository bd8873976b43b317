-- Each tour has the times of its form.
use Rattle.std.proofs.Common.{◌≡◌, ℕ, ◌+◌, ◌&&◌, ◌==◌, ◌%◌, nat_le, nat_lt, Bool, true, false, cond, List, [], ◌∷◌, length, map, Option, Some, None, option_and_then, Result, Ok, Err, IfOk, is_some, refl, sym, ◌∙◌, ap, subst}
use Rattle.std.specs.List.{AllZip}
use Rattle.serde_json.specs.Data.{Data}
use Rattle.serde_json.specs.Find.{get, as_str, as_object}
use Rattle.civil_minutes.specs.TimeOf.{time_of}
use Rattle.civil_minutes.specs.Laws.TimeOfLaws.{text_of_time}
use Rattle.tour_model.specs.declared.limits.TheConstants.{MOST_DRIVE, MOST_SERVICE, MOST_STOPS, MOST_WINDOWS, EARLIEST_START, LATEST_START}
use Rattle.tour_model.specs.declared.tour.Tour.{Tour}
use Rattle.tour_reader.specs.declared.book.Book.{Book}
use Rattle.tour_reader.specs.declared.field.Field.{Field}
use Rattle.tour_reader.specs.declared.field.Field.TheVariants as field
use Rattle.tour_reader.specs.declared.field.TheConstants.{STOP_FIELDS}
use Rattle.tour_reader.specs.declared.fault.TourFault.{TourFault}
use Rattle.tour_reader.specs.declared.fault.TourFault.TheVariants.{BadValue, NoStops, TooManyStops, TooBig, NotJson}
use Rattle.tour_reader.specs.declared.form.TheConstants.{TOUR_LIMIT}
use Rattle.tour_reader.specs.declared.head.Head.{Head}
use Rattle.tour_reader.specs.declared.written.Span.{Span}
use Rattle.tour_reader.specs.declared.written.WrittenStop.{WrittenStop}
use Rattle.tour_reader.specs.Gives.{◌>>=◌, good}
use Rattle.tour_reader.specs.Fields.{key, first_missing, first_unknown, with_missing, with_fields}
use Rattle.tour_reader.specs.Values.{within, text_of, array_of, items_of, whole_of}
use Rattle.tour_reader.specs.Head.{book_of, grid_of, on_unit, start_of, head_in, head_of}
use Rattle.tour_reader.specs.Books.{fields_of, unit_of_book, params_of}
use Rattle.tour_reader.specs.Written.{name_at, time_at, span_between, span_from, span_of, and_others, spans_of, few_spans, spans_at, written_fields, written_stop, written_stops, few_stops, stops_of}
use Rattle.tour_reader.specs.Checks.{distinct, in_time}
use Rattle.tour_reader.specs.Rounding.{stop_of, tour_from}
use Rattle.tour_reader.specs.Tour.{json_of, object_from, form_of, tour_in, tour_of}
use Rattle.tour_reader.specs.WrittenTimes.{IsTimeAt, IsSpanAt, HasWindowsAt, HasTimesOf}
use Rattle.tour_reader.proofs.StopLaws.{distinct_same, ArePassed, in_time_passed}

-- ---- what gave a value

-- both steps gave one
bind_ok : {A B : Type 0} (r : Result A TourFault) (f : A → Result B TourFault) (y : B) → (r >>= f) ≡ Ok y → (x : A) × (r ≡ Ok x) × (f x ≡ Ok y)
bind_ok (Ok x) f y is = (x, refl, is)
bind_ok (Err e) f y is = absurd cc

good_ok : {A : Type 0} (field : Field) (stop : Option ℕ) (o : Option A) (x : A) → good field stop o ≡ Ok x → o ≡ Some x
good_ok field stop None x is = absurd cc
good_ok field stop (Some y) x is = cc

then_some : {A B : Type 0} (f : A → Option B) (o : Option A) (y : B) → option_and_then f o ≡ Some y → (x : A) × (o ≡ Some x) × (f x ≡ Some y)
then_some f None y is = absurd cc
then_some f (Some x) y is = (x, refl, is)

if_some : {A : Type 0} (b : Bool) (o : Option A) (y : A) → cond b o None ≡ Some y → o ≡ Some y
if_some true o y is = is
if_some false o y is = absurd cc

then_ok : {A : Type 0} (b : Bool) (r : Result A TourFault) (fault : TourFault) (x : A) → cond b r (Err fault) ≡ Ok x → r ≡ Ok x
then_ok true r fault x is = is
then_ok false r fault x is = absurd cc

else_ok : {A : Type 0} (b : Bool) (fault : TourFault) (r : Result A TourFault) (x : A) → cond b (Err fault) r ≡ Ok x → r ≡ Ok x
else_ok true fault r x is = absurd cc
else_ok false fault r x is = is

at_ok : {A : Type 0} (r : Result A TourFault) (P : A → Type 0) (x : A) → r ≡ Ok x → IfOk r P → P x
at_ok r P x is holds = subst (λ (q : Result _ TourFault). IfOk q P) is holds

is_some_of : {A : Type 0} (x y : A) → Some x ≡ Some y → x ≡ y
is_some_of x y is = cc

abbrev answered : {A : Type 0} → A → Result A TourFault
answered x = Ok x

is_ok_of : {A : Type 0} (x y : A) → answered x ≡ Ok y → x ≡ y
is_ok_of x y is = cc

-- a form that has its fields is left as it is
whole_is : (missing : Option Field) (unknown : Option (List ℕ)) (stop : Option ℕ) (form whole : Data) → with_missing missing unknown stop form ≡ Ok whole → whole ≡ form
whole_is (Some f) unknown stop form whole is = absurd cc
whole_is None (Some name) stop form whole is = absurd cc
whole_is None None stop form whole is = sym (is_ok_of form whole is)

fields_same : (fields : List Field) (stop : Option ℕ) (form whole : Data) → with_fields fields stop form ≡ Ok whole → whole ≡ form
unfolding with_fields
fields_same fields stop form whole is = whole_is (first_missing fields form) (first_unknown fields form) stop form whole is

-- ---- times and spans

time_told : (value : Data) (at : ℕ) → time_at value ≡ Some at → IsTimeAt value at
time_told value at is =
    let t = then_some time_of (as_str value) at is in
    record { text = t.0; said = t.1; time = text_of_time t.0 at t.2 }

-- a span's two times
between_told : (a b : Option ℕ) (span : Span) → span_between a b ≡ Some span → (a ≡ Some span.from) × (b ≡ Some span.to)
between_told None b span is = absurd cc
between_told (Some from) None span is = absurd cc
between_told (Some from) (Some to) span is =
    let same : record { from = from; to = to } ≡ span = is_some_of (record { from = from; to = to }) span (if_some (nat_le from to) (Some (record { from = from; to = to })) span is) in
    (ap (λ (s : Span). Some s.from) same, ap (λ (s : Span). Some s.to) same)

pair_told : (value : Data) (items : List Data) (span : Span) → array_of value ≡ Some items → span_from items ≡ Some span → IsSpanAt value span
pair_told value [] span listed is = absurd cc
pair_told value (a ∷ []) span listed is = absurd cc
pair_told value (a ∷ b ∷ []) span listed is =
    let t = between_told (time_at a) (time_at b) span is in
    record { from = a; to = b; two = listed; opens = time_told a span.from t.0; closes = time_told b span.to t.1 }
pair_told value (a ∷ b ∷ c ∷ more) span listed is = absurd cc

span_told : (value : Data) (span : Span) → span_of value ≡ Some span → IsSpanAt value span
span_told value span is = let t = then_some span_from (array_of value) span is in pair_told value t.0 span t.1 t.2

-- one and the others
others_told : (one : Option Span) (others : Option (List Span)) (spans : List Span) → and_others one others ≡ Some spans → (span : Span) × (later : List Span) × (one ≡ Some span) × (others ≡ Some later) × (spans ≡ span ∷ later)
others_told None others spans is = absurd cc
others_told (Some span) None spans is = absurd cc
others_told (Some span) (Some later) spans is = (span, later, refl, refl, sym (is_some_of (span ∷ later) spans is))

spans_told : (values : List Data) (spans : List Span) → spans_of values ≡ Some spans → AllZip IsSpanAt values spans
spans_told [] spans is = subst (λ (s : List Span). AllZip IsSpanAt [] s) (is_some_of [] spans is) tt
spans_told (value ∷ values) spans is =
    let t = others_told (span_of value) (spans_of values) spans is in
    subst (λ (s : List Span). AllZip IsSpanAt (value ∷ values) s) (sym t.4) (span_told value t.0 t.2, spans_told values t.1 t.3)

-- ---- stops

-- the spans of a stop are those that its value writes
record HasSpansAt (value : Data) (stop : WrittenStop) : Type 0 where
  pub items : List Data
  pub listed : items_of field.Windows value ≡ Some items
  pub timed : AllZip IsSpanAt items stop.spans

windows_told : (number : Option ℕ) (value : Data) (spans : List Span) → spans_at number value ≡ Ok spans → (items : List Data) × (items_of field.Windows value ≡ Some items) × AllZip IsSpanAt items spans
unfolding spans_at
windows_told number value spans is =
    let t = then_some few_spans (items_of field.Windows value) spans (good_ok field.Windows number (option_and_then few_spans (items_of field.Windows value)) spans is) in
    (t.0, t.1, spans_told t.0 spans (if_some (nat_le 1 (length t.0) && nat_le (length t.0) MOST_WINDOWS) (spans_of t.0) spans t.2))

same_spans : (made stop : WrittenStop) → answered made ≡ Ok stop → made.spans ≡ stop.spans
same_spans made stop is = ap (λ (s : WrittenStop). s.spans) (is_ok_of made stop is)

fields_told : (number : Option ℕ) (value : Data) (stop : WrittenStop) → written_fields number value ≡ Ok stop → HasSpansAt value stop
unfolding written_fields
fields_told number value stop is =
    let drive_is = good field.Drive number (whole_of field.Drive 0 MOST_DRIVE value) in
    let service_is = good field.Service number (whole_of field.Service 1 MOST_SERVICE value) in
    let a = bind_ok (name_at number value) (λ name. drive_is >>= λ drive. service_is >>= λ service. spans_at number value >>= λ spans. Ok (record { name = name; drive = drive; service = service; spans = spans })) stop is in
    let b = bind_ok drive_is (λ drive. service_is >>= λ service. spans_at number value >>= λ spans. Ok (record { name = a.0; drive = drive; service = service; spans = spans })) stop a.2 in
    let c = bind_ok service_is (λ service. spans_at number value >>= λ spans. Ok (record { name = a.0; drive = b.0; service = service; spans = spans })) stop b.2 in
    let d = bind_ok (spans_at number value) (λ spans. Ok (record { name = a.0; drive = b.0; service = c.0; spans = spans })) stop c.2 in
    let t = windows_told number value d.0 d.1 in
    record { items = t.0; listed = t.1; timed = subst (λ (s : List Span). AllZip IsSpanAt t.0 s) (same_spans (record { name = a.0; drive = b.0; service = c.0; spans = d.0 }) stop d.2) t.2 }

stop_told : (number : ℕ) (value : Data) (stop : WrittenStop) → written_stop number value ≡ Ok stop → HasSpansAt value stop
unfolding written_stop
stop_told number value stop is =
    let t = bind_ok (with_fields STOP_FIELDS (Some number) value) (written_fields (Some number)) stop
    (then_ok (is_some (as_object value)) (with_fields STOP_FIELDS (Some number) value >>= written_fields (Some number)) (BadValue field.Stops (Some number)) stop is) in
    fields_told (Some number) value stop (subst (λ (v : Data). written_fields (Some number) v ≡ Ok stop) (fields_same STOP_FIELDS (Some number) value t.0 t.1) t.2)

all_told : (number : ℕ) (values : List Data) (stops : List WrittenStop) → written_stops number values ≡ Ok stops → AllZip HasSpansAt values stops
unfolding written_stops
all_told number [] stops is = subst (λ (s : List WrittenStop). AllZip HasSpansAt [] s) (is_ok_of [] stops is) tt
all_told number (value ∷ values) stops is =
    let a = bind_ok (written_stop number value) (λ first. written_stops (number + 1) values >>= λ others. Ok (first ∷ others)) stops is in
    let b = bind_ok (written_stops (number + 1) values) (λ others. Ok (a.0 ∷ others)) stops a.2 in
    subst (λ (s : List WrittenStop). AllZip HasSpansAt (value ∷ values) s) (is_ok_of (a.0 ∷ b.0) stops b.2) (stop_told number value a.0 a.1, all_told (number + 1) values b.0 b.1)

stops_told : (form : Data) (stops : List WrittenStop) → stops_of form ≡ Ok stops → (items : List Data) × (items_of field.Stops form ≡ Some items) × AllZip HasSpansAt items stops
unfolding stops_of
stops_told form stops is =
    let t = bind_ok (good field.Stops None (items_of field.Stops form)) few_stops stops is in
    let few = else_ok (length t.0 == 0) NoStops (cond (nat_lt MOST_STOPS (length t.0)) (Err TooManyStops) (written_stops 1 t.0)) stops t.2 in
    (t.0, good_ok field.Stops None (items_of field.Stops form) t.0 t.1, all_told 1 t.0 stops (else_ok (nat_lt MOST_STOPS (length t.0)) TooManyStops (written_stops 1 t.0) stops few))

rounded_told : (grid start : ℕ) (values : List Data) (stops : List WrittenStop) → AllZip HasSpansAt values stops → AllZip (HasWindowsAt grid start) values (map (stop_of grid start) stops)
rounded_told grid start [] [] told = tt
rounded_told grid start [] (stop ∷ stops) told = told
rounded_told grid start (value ∷ values) [] told = told
rounded_told grid start (value ∷ values) (stop ∷ stops) told =
    let one = told.0 in
    (record { items = one.items; listed = one.listed; spans = stop.spans; timed = one.timed; rounded = refl }, rounded_told grid start values stops told.1)

-- ---- the start

start_told : (book : Book) (form : Data) (at : ℕ) → start_of book form ≡ Some at → (start : Data) × (get (key field.Start) form ≡ Some start) × IsTimeAt start at
unfolding start_of
start_told book form at is =
    let a = then_some (on_unit (unit_of_book book)) (option_and_then (within EARLIEST_START LATEST_START) (option_and_then time_of (text_of field.Start form))) at is in
    let b = then_some (within EARLIEST_START LATEST_START) (option_and_then time_of (text_of field.Start form)) a.0 a.1 in
    let c = then_some time_of (text_of field.Start form) b.0 b.1 in
    let d = then_some as_str (get (key field.Start) form) c.0 c.1 in
    let on : a.0 ≡ at = is_some_of a.0 at (if_some (a.0 % unit_of_book book == 0) (Some a.0) at a.2) in
    let inside : b.0 ≡ a.0 = is_some_of b.0 a.0 (if_some (nat_le EARLIEST_START b.0 && nat_le b.0 LATEST_START) (Some b.0) a.0 b.2) in
    (d.0, d.1, subst (IsTimeAt d.0) (inside ∙ on) (record { text = c.0; said = d.2; time = text_of_time c.0 b.0 c.2 }))

same_start : (made head : Head) → answered made ≡ Ok head → made.start ≡ head.start
same_start made head is = ap (λ (h : Head). h.start) (is_ok_of made head is)

head_told : (book : Book) (form : Data) (head : Head) → head_in book form ≡ Ok head → (start : Data) × (get (key field.Start) form ≡ Some start) × IsTimeAt start head.start
unfolding head_in
head_told book form head is =
    let start_is = good field.Start None (start_of book form) in
    let a = bind_ok (good field.Grid None (grid_of book form)) (λ grid. start_is >>= λ start. params_of book form >>= λ params. Ok (record { params = params; grid = grid; start = start })) head is in
    let b = bind_ok start_is (λ start. params_of book form >>= λ params. Ok (record { params = params; grid = a.0; start = start })) head a.2 in
    let c = bind_ok (params_of book form) (λ params. Ok (record { params = params; grid = a.0; start = b.0 })) head b.2 in
    let t = start_told book form b.0 (good_ok field.Start None (start_of book form) b.0 b.1) in
    (t.0, t.1, subst (IsTimeAt t.0) (same_start (record { params = c.0; grid = a.0; start = b.0 }) head c.2) t.2)

whole_head_told : (form : Data) (head : Head) → head_of form ≡ Ok head → (start : Data) × (get (key field.Start) form ≡ Some start) × IsTimeAt start head.start
unfolding head_of
whole_head_told form head is =
    let a = bind_ok (book_of form) (λ book. with_fields (fields_of book) None form >>= λ whole. head_in book whole) head is in
    let b = bind_ok (with_fields (fields_of a.0) None form) (λ whole. head_in a.0 whole) head a.2 in
    head_told a.0 form head (subst (λ (v : Data). head_in a.0 v ≡ Ok head) (fields_same (fields_of a.0) None form b.0 b.1) b.2)

-- ---- the tour

in_told : (form : Data) (tour : Tour) → tour_in form ≡ Ok tour → HasTimesOf form tour
unfolding tour_in
in_told form tour is =
    let a = bind_ok (head_of form) (λ head. stops_of form >>= λ stops. distinct stops >>= λ apart. in_time head.start apart >>= λ timely. Ok (tour_from head timely)) tour is in
    let b = bind_ok (stops_of form) (λ stops. distinct stops >>= λ apart. in_time a.0.start apart >>= λ timely. Ok (tour_from a.0 timely)) tour a.2 in
    let c = bind_ok (distinct b.0) (λ apart. in_time a.0.start apart >>= λ timely. Ok (tour_from a.0 timely)) tour b.2 in
    let d = bind_ok (in_time a.0.start c.0) (λ timely. Ok (tour_from a.0 timely)) tour c.2 in
    let apart : c.0 ≡ b.0 = at_ok (distinct b.0) (λ apart. apart ≡ b.0) c.0 c.1 (distinct_same b.0) in
    let timely : d.0 ≡ c.0 = (at_ok (in_time a.0.start c.0) (ArePassed a.0.start c.0) d.0 d.1 (in_time_passed a.0.start c.0)).same in
    let start = whole_head_told form a.0 a.1 in
    let stops = stops_told form b.0 b.1 in
    let rounded = rounded_told a.0.grid a.0.start stops.0 b.0 stops.2 in
    let same : tour_from a.0 b.0 ≡ tour = ap (tour_from a.0) (sym (timely ∙ apart)) ∙ is_ok_of (tour_from a.0 d.0) tour d.2 in
    subst (HasTimesOf form) same (record { start = start.0; written = start.1; starts = start.2; items = stops.0; listed = stops.1; stops = rounded })

object_told : (value : Option Data) (form : Data) → object_from value ≡ Ok form → value ≡ Some form
object_told None form is = absurd cc
object_told (Some d) form is = ap (λ (v : Data). Some v) (is_ok_of d form (then_ok (is_some (as_object d)) (Ok d) NotJson form is))

form_told : (bytes : List ℕ) (form : Data) → form_of bytes ≡ Ok form → json_of bytes ≡ Some form
unfolding form_of
form_told bytes form is = object_told (json_of bytes) form (else_ok (nat_lt TOUR_LIMIT (length bytes)) TooBig (object_from (json_of bytes)) form is)

-- each tour that bytes are has the times of their form
pub tour_of-HasTimesOf : (bytes : List ℕ) (tour : Tour) → tour_of bytes ≡ Ok tour → (form : Data) × (json_of bytes ≡ Some form) × HasTimesOf form tour
unfolding tour_of
tour_of-HasTimesOf bytes tour is =
    let t = bind_ok (form_of bytes) tour_in tour is in
    (t.0, form_told bytes t.0 t.1, in_told t.0 tour t.2)
