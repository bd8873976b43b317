-- What holds of all stops that are read, and that they pass.
use Rattle.std.proofs.Common.{◌≡◌, ℕ, suc, ◌+◌, ◌≤◌, ◌==◌, ◌&&◌, ◌||◌, not, nat_le, nat_lt, Bool, true, false, cond, List, [], ◌∷◌, length, position, All, Option, Some, None, Result, Ok, Err, IfSome, IfOk, option_map, option_and_then, is_some, refl, sym, ap, arith}
use Rattle.std.specs.List.{list_any, list_all, position_or_len}
use Rattle.std.proofs.lemmas.Bool.{ltb-false}
use Rattle.std.proofs.lemmas.Bool.Decides.{nat_tests}
use Rattle.std.proofs.lemmas.List.Elements.{All-nil, All-cons}
use Rattle.std.proofs.lemmas.List.Sums.{prefix_len_passes}
use Rattle.serde_json.specs.Data.{Data}
use Rattle.serde_json.specs.Find.{as_object}
use Rattle.tour_model.specs.declared.limits.TheConstants.{MOST_STOPS, LONGEST_NAME, MOST_DRIVE, MOST_SERVICE, MOST_WINDOWS, LONGEST_TOUR}
use Rattle.tour_reader.specs.declared.field.Field.TheVariants as field
use Rattle.tour_reader.specs.declared.field.TheConstants.{STOP_FIELDS}
use Rattle.tour_reader.specs.declared.written.Span.{Span}
use Rattle.tour_reader.specs.declared.written.WrittenStop.{WrittenStop}
use Rattle.tour_reader.specs.declared.fault.TourFault.{TourFault}
use Rattle.tour_reader.specs.declared.fault.TourFault.TheVariants.{BadValue, NoStops, TooManyStops}
use Rattle.tour_reader.specs.Fields.{with_fields}
use Rattle.tour_reader.specs.Gives.{◌>>=◌, good}
use Rattle.civil_minutes.specs.Laws.TimeOfLaws.{parts, le_from}
use Rattle.tour_reader.specs.Values.{whole_of, text_of, items_of}
use Rattle.tour_reader.specs.Written.{is_plain, is_name, named, name_at, span_of, and_others, spans_of, few_spans, spans_at, written_fields, written_stop, written_stops, few_stops, stops_of}
use Rattle.tour_reader.specs.Checks.{stop_names, first_repeated, with_repeated, distinct, closes_late, ends_late, first_late, with_late, in_time}
use Rattle.tour_reader.proofs.Holds.{any_some, if_holds, guard_holds, then_holds, any_ok, good_holds, else_holds, then_ok_holds, bind_holds}
use Rattle.tour_reader.proofs.HeadLaws.{whole_within}

-- what holds of each stop
pub record IsWritten (stop : WrittenStop) : Type 0 where
  pub named : 1 ≤ length stop.name
  pub short_name : length stop.name ≤ LONGEST_NAME
  pub drive : stop.drive ≤ MOST_DRIVE
  pub some_service : 1 ≤ stop.service
  pub service : stop.service ≤ MOST_SERVICE
  pub few_windows : length stop.spans ≤ MOST_WINDOWS

-- what holds of all stops
pub record AreWritten (stops : List WrittenStop) : Type 0 where
  pub some : 1 ≤ length stops
  pub few : length stops ≤ MOST_STOPS
  pub each : All IsWritten stops

-- ---- the name

record IsName (name : List ℕ) : Type 0 where
  pub some : 1 ≤ length name
  pub short : length name ≤ LONGEST_NAME

some_from : (n : ℕ) → not (n == 0) ≡ true → 1 ≤ n
some_from n is = grind (arith, nat_tests)

name_holds : (stop : Option ℕ) (form : Data) → IfOk (name_at stop form) IsName
unfolding name_at
name_holds stop form = good_holds IsName field.Name stop (option_and_then named (text_of field.Name form))
    (then_holds (λ _. Unit {0}) IsName named (text_of field.Name form) (any_some _) (λ name _.
    if_holds IsName (is_name name) name (λ b.
    let both = parts (not (length name == 0) && nat_le (length name) LONGEST_NAME) (list_all is_plain name) b in
    let sizes = parts (not (length name == 0)) (nat_le (length name) LONGEST_NAME) both.0 in
    record { some = some_from _ sizes.0; short = le_from _ _ sizes.1 })))

-- ---- the windows

others_len : (o : Option Span) (others : Option (List Span)) (n : ℕ) → IfSome others (λ spans. length spans ≡ n) → IfSome (and_others o others) (λ spans. length spans ≡ suc n)
others_len None others n h = tt
others_len (Some span) None n h = tt
others_len (Some span) (Some spans) n h = ap suc h

spans_len : (ds : List Data) → IfSome (spans_of ds) (λ spans. length spans ≡ length ds)
spans_len [] = refl
spans_len (d ∷ ds) = others_len (span_of d) (spans_of ds) (length ds) (spans_len ds)

abbrev AreFew : List Span → Type 0
AreFew spans = length spans ≤ MOST_WINDOWS

few_from : (o : Option (List Span)) (n : ℕ) → n ≤ MOST_WINDOWS → IfSome o (λ spans. length spans ≡ n) → IfSome o AreFew
few_from None n few len = tt
few_from (Some spans) n few len = omega arith

few_spans_hold : (ds : List Data) → IfSome (few_spans ds) AreFew
few_spans_hold ds = guard_holds AreFew (nat_le 1 (length ds) && nat_le (length ds) MOST_WINDOWS) (spans_of ds) (λ b.
    let p = parts (nat_le 1 (length ds)) (nat_le (length ds) MOST_WINDOWS) b in
    few_from (spans_of ds) (length ds) (le_from _ _ p.1) (spans_len ds))

spans_hold : (stop : Option ℕ) (form : Data) → IfOk (spans_at stop form) AreFew
unfolding spans_at
spans_hold stop form = good_holds AreFew field.Windows stop (option_and_then few_spans (items_of field.Windows form)) (then_holds (λ _. Unit {0}) AreFew few_spans (items_of field.Windows form) (any_some _) (λ ds _. few_spans_hold ds))

-- ---- one stop

abbrev IsDrive : ℕ → Type 0
IsDrive drive = (0 ≤ drive) × (drive ≤ MOST_DRIVE)

abbrev IsService : ℕ → Type 0
IsService service = (1 ≤ service) × (service ≤ MOST_SERVICE)

fields_hold : (stop : Option ℕ) (form : Data) → IfOk (written_fields stop form) IsWritten
unfolding written_fields
fields_hold stop form =
    let drive_is = good field.Drive stop (whole_of field.Drive 0 MOST_DRIVE form) in
    let service_is = good field.Service stop (whole_of field.Service 1 MOST_SERVICE form) in
    bind_holds IsName IsWritten (name_at stop form) (λ name. drive_is >>= λ drive. service_is >>= λ service. spans_at stop form >>= λ spans. Ok (record { name = name; drive = drive; service = service; spans = spans })) (name_holds stop form) (λ name n.
    bind_holds IsDrive IsWritten drive_is (λ drive. service_is >>= λ service. spans_at stop form >>= λ spans. Ok (record { name = name; drive = drive; service = service; spans = spans }))
    (good_holds IsDrive field.Drive stop (whole_of field.Drive 0 MOST_DRIVE form) (whole_within field.Drive 0 MOST_DRIVE form)) (λ drive d.
    bind_holds IsService IsWritten service_is (λ service. spans_at stop form >>= λ spans. Ok (record { name = name; drive = drive; service = service; spans = spans }))
    (good_holds IsService field.Service stop (whole_of field.Service 1 MOST_SERVICE form) (whole_within field.Service 1 MOST_SERVICE form)) (λ service s.
    bind_holds AreFew IsWritten (spans_at stop form) (λ spans. Ok (record { name = name; drive = drive; service = service; spans = spans })) (spans_hold stop form) (λ spans few.
    record { named = n.some; short_name = n.short; drive = d.1; some_service = s.0; service = s.1; few_windows = few }))))

stop_holds : (number : ℕ) (form : Data) → IfOk (written_stop number form) IsWritten
unfolding written_stop
stop_holds number form = then_ok_holds IsWritten (is_some (as_object form)) (BadValue field.Stops (Some number)) (with_fields STOP_FIELDS (Some number) form >>= written_fields (Some number))
    (bind_holds (λ _. Unit {0}) IsWritten (with_fields STOP_FIELDS (Some number) form) (written_fields (Some number)) (any_ok _) (λ whole _. fields_hold (Some number) whole))

-- ---- the stops

record AreOf (n : ℕ) (stops : List WrittenStop) : Type 0 where
  pub each : All IsWritten stops
  pub count : length stops ≡ n

all_hold : (number : ℕ) (ds : List Data) → IfOk (written_stops number ds) (AreOf (length ds))
unfolding written_stops
all_hold number [] = record { each = All-nil IsWritten; count = refl }
all_hold number (d ∷ ds) =
    bind_holds IsWritten (AreOf (suc (length ds))) (written_stop number d) (λ first. written_stops (number + 1) ds >>= λ others. Ok (first ∷ others)) (stop_holds number d) (λ first one.
    bind_holds (AreOf (length ds)) (AreOf (suc (length ds))) (written_stops (number + 1) ds) (λ others. Ok (first ∷ others)) (all_hold (number + 1) ds) (λ others more.
    record { each = All-cons IsWritten first others one more.each; count = ap suc more.count }))

are_written : (r : Result (List WrittenStop) TourFault) (n : ℕ) → 1 ≤ n → n ≤ MOST_STOPS → IfOk r (AreOf n) → IfOk r AreWritten
are_written (Err e) n some few h = tt
are_written (Ok stops) n some few h = record { some = rw h.count some; few = rw h.count few; each = h.each }

some_of : (n : ℕ) → (n == 0) ≡ false → 1 ≤ n
some_of n is = grind (arith, nat_tests)

few_hold : (ds : List Data) → IfOk (few_stops ds) AreWritten
few_hold ds = else_holds AreWritten (length ds == 0) NoStops (cond (nat_lt MOST_STOPS (length ds)) (Err TooManyStops) (written_stops 1 ds)) (λ some.
    else_holds AreWritten (nat_lt MOST_STOPS (length ds)) TooManyStops (written_stops 1 ds) (λ few.
    are_written (written_stops 1 ds) (length ds) (some_of _ some) (ltb-false _ _ few) (all_hold 1 ds)))

pub stops_hold : (form : Data) → IfOk (stops_of form) AreWritten
unfolding stops_of
stops_hold form = bind_holds (λ _. Unit {0}) AreWritten (good field.Stops None (items_of field.Stops form)) few_stops (any_ok _) (λ ds _. few_hold ds)

-- the stops of so few items are few
pub few_items : (ds : List Data) → length ds ≤ MOST_STOPS → IfOk (written_stops 1 ds) (λ stops. length stops ≤ MOST_STOPS)
few_items ds few = counted (written_stops 1 ds) (length ds) few (all_hold 1 ds)
  where
    counted : (r : Result (List WrittenStop) TourFault) (n : ℕ) → n ≤ MOST_STOPS → IfOk r (AreOf n) → IfOk r (λ stops. length stops ≤ MOST_STOPS)
    counted (Err e) n few h = tt
    counted (Ok stops) n few h = rw h.count few

-- ---- names and ends

repeated_same : (o : Option (List ℕ)) (stops : List WrittenStop) → IfOk (with_repeated o stops) (λ apart. apart ≡ stops)
repeated_same (Some name) stops = tt
repeated_same None stops = refl

pub distinct_same : (stops : List WrittenStop) → IfOk (distinct stops) (λ apart. apart ≡ stops)
unfolding distinct
distinct_same stops = repeated_same (first_repeated [] (stop_names stops)) stops

-- each service of the stop can end in time
abbrev pub IsTimely : ℕ → WrittenStop → Type 0
IsTimely start stop = All (λ span. span.to + stop.service ≤ start + LONGEST_TOUR) stop.spans

-- each element fails a test that none passes
or_false : (a b : Bool) → (a || b) ≡ false → (a ≡ false) × (b ≡ false)
or_false true b is = absurd cc
or_false false b is = (refl, is)

all_fail : {A : Type 0} (test : A → Bool) (xs : List A) → list_any test xs ≡ false → All (λ x. test x ≡ false) xs
all_fail test [] none = All-nil (λ x. test x ≡ false)
all_fail test (x ∷ xs) none =
    let p = or_false (test x) (list_any test xs) none in
    All-cons (λ y. test y ≡ false) x xs p.0 (all_fail test xs p.1)

all_then : {A : Type 0} (P Q : A → Type 0) → ((x : A) → P x → Q x) → (xs : List A) → All P xs → All Q xs
all_then P Q f xs h k d lt = f _ (h k d lt)

timely_stop : (start : ℕ) (stop : WrittenStop) → ends_late start stop ≡ false → IsTimely start stop
timely_stop start stop none = all_then (λ span. closes_late start stop.service span ≡ false) (λ span. span.to + stop.service ≤ start + LONGEST_TOUR) (λ span is. ltb-false (start + LONGEST_TOUR) (span.to + stop.service) is) stop.spans (all_fail (closes_late start stop.service) stop.spans none)

not_less : (b : Bool) (place : ℕ) → cond b (Some place) None ≡ None → b ≡ false
not_less true place none = absurd cc
not_less false place none = refl

fails : (b : Bool) → not b ≡ true → b ≡ false
fails true is = absurd cc
fails false is = refl

-- where no place passes, each element fails
no_place : {A : Type 0} (test : A → Bool) (xs : List A) → position test xs ≡ None → All (λ x. test x ≡ false) xs
no_place test xs none k d lt =
    let long : length xs ≤ position_or_len test xs = ltb-false _ _ (not_less _ (position_or_len test xs) none) in
    fails _ (prefix_len_passes (λ x. not (test x)) xs k d (omega arith))

none_mapped : (o : Option ℕ) → option_map (λ place. place + 1) o ≡ None → o ≡ None
none_mapped None is = refl
none_mapped (Some n) is = absurd cc

-- the stops that pass are those that were asked, and each is timely
pub record ArePassed (start : ℕ) (stops passed : List WrittenStop) : Type 0 where
  pub same : passed ≡ stops
  pub timely : All (IsTimely start) stops

late_passed : (start : ℕ) (stops : List WrittenStop) (o : Option ℕ) → o ≡ first_late start stops → IfOk (with_late o stops) (ArePassed start stops)
late_passed start stops (Some number) is = tt
late_passed start stops None is = record {
  same = refl;
  timely = all_then (λ stop. ends_late start stop ≡ false) (IsTimely start) (timely_stop start) stops (no_place (ends_late start) stops (none_mapped _ (sym is)));
}

pub in_time_passed : (start : ℕ) (stops : List WrittenStop) → IfOk (in_time start stops) (ArePassed start stops)
unfolding in_time
in_time_passed start stops = late_passed start stops (first_late start stops) refl
