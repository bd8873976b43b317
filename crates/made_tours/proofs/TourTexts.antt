-- The tour that a made text reads as.
use Rattle.std.proofs.Common.{◌≡◌, ℕ, zero, suc, ◌+◌, ◌*◌, ◌%◌, ◌<◌, ◌≤◌, ◌==◌, ◌&&◌, ◌||◌, Bool, true, false, cond, not, nat_lt, Option, None, Some, Result, Ok, Err, List, [], ◌∷◌, ◌++◌, map, length, refl, ap, ap₂, ◌∙◌, arith}
use Rattle.std.specs.Prelude.{flat_map}
use Rattle.std.specs.List.{range_with_len, prefix_len, position}
use Rattle.std.specs.Str.{is_utf8}
use Rattle.std.proofs.lemmas.Bool.{le-leb, le-ltb, ne_eqb}
use Rattle.std.proofs.lemmas.Str.{is_utf8-from_IsUtf8}
use Rattle.serde_json.specs.Data.{Data, Items}
use Rattle.serde_json.specs.Read.{read}
use Rattle.duty_core.specs.declared.params.Params.TheVariants.{UsProperty}
use Rattle.tour_model.specs.declared.stop.Stop.{Stop}
use Rattle.tour_model.specs.declared.tour.Tour.{Tour}
use Rattle.tour_model.specs.declared.limits.TheConstants.{MOST_STOPS, MOST_DRIVE, MOST_SERVICE}
use Rattle.tour_reader.specs.declared.fault.TourFault.{TourFault}
use Rattle.tour_reader.specs.declared.fault.TourFault.TheVariants.{TooBig, NoStops, TooManyStops}
use Rattle.tour_reader.specs.declared.form.TheConstants.{TOUR_LIMIT}
use Rattle.tour_reader.specs.declared.head.Head.{Head}
use Rattle.tour_reader.specs.declared.written.Span.{Span}
use Rattle.tour_reader.specs.declared.written.WrittenStop.{WrittenStop}
use Rattle.tour_reader.specs.Checks.{stop_names, first_repeated, with_repeated, distinct, ends_late, in_time}
use Rattle.tour_reader.specs.Fields.{with_fields}
use Rattle.tour_reader.specs.Gives.{◌>>=◌}
use Rattle.tour_reader.specs.Books.{day_start_of, us_params}
use Rattle.tour_reader.specs.Head.{book_of, grid_of, start_of, head_in, head_of}
use Rattle.tour_reader.specs.Rounding.{stop_of, tour_from}
use Rattle.tour_reader.specs.Times.{clock_of}
use Rattle.tour_reader.specs.Tour.{object_from, form_of, tour_in, tour_of}
use Rattle.tour_reader.specs.Values.{within, list_of}
use Rattle.tour_reader.specs.Written.{is_name, named, name_at, spans_at, written_fields, written_stop, written_stops, few_stops, stops_of}
use Rattle.report_text.specs.Made.{draw, drive_drawn, service_drawn, stop_made, tour_head, tour_made}
use Rattle.made_tours.specs.Drawn.{name_drawn, stop_drawn, tour_drawn}
use Rattle.made_tours.proofs.Bytes.{text_utf8, text_length}
use Rattle.made_tours.proofs.Form.{stop_data, stops_data, tour_data, text_reads}
use Rattle.made_tours.proofs.Lexed.{stops_text, tour_end, AreDrawn}
use Rattle.made_tours.proofs.Names.{plain_name, different_names}
use Rattle.made_tours.proofs.Numbers.{drive_most, service_least, service_most, whole_steps}
use Rattle.made_tours.proofs.Times.{start_time, last_time}

-- ---- one stop

-- the span of each stop's windows
abbrev span_written : Span
span_written = record { from = 13_762_440; to = 13_781_160 }

-- a stop as it is written, in minutes
abbrev written : (ℕ → ℕ) → (ℕ → ℕ) → ℕ → WrittenStop
written drive service before = record { name = name_drawn before; drive = drive before; service = service before; spans = span_written ∷ [] }

named_is : (name : List ℕ) → is_name name ≡ true → named name ≡ Some name
named_is name good = ap (λ b. cond b (Some name) None) good

within_is : (low high n : ℕ) → low ≤ n → n ≤ high → within low high n ≡ Some n
within_is low high n from to = ap₂ (λ a b. cond (a && b) (Some n) None) (le-leb low n from) (le-leb n high to)

fields_read : (stop : Option ℕ) (name : List ℕ) (drive service : ℕ) → is_name name ≡ true → drive ≤ 240 → 30 ≤ service → service ≤ 90
    → written_fields stop (stop_data name drive service) ≡ Ok (record { name = name; drive = drive; service = service; spans = span_written ∷ [] })
unfolding written_fields name_at spans_at
fields_read stop name drive service good most some few =
    rw (named_is name good, within_is 0 MOST_DRIVE drive (omega arith) (omega arith), within_is 1 MOST_SERVICE service (omega arith) (omega arith), start_time, last_time) refl

stop_read : (number before drive service : ℕ) → is_name (name_drawn before) ≡ true → drive ≤ 240 → 30 ≤ service → service ≤ 90
    → written_stop number (stop_data (name_drawn before) drive service) ≡ Ok (record { name = name_drawn before; drive = drive; service = service; spans = span_written ∷ [] })
unfolding written_stop with_fields
stop_read number before drive service good most some few = fields_read (Some number) (name_drawn before) drive service good most some few

-- ---- the stops

stops_read : (drive service : ℕ → ℕ) → AreDrawn drive service → (n before number : ℕ) → before + n ≤ 20
    → written_stops number (list_of (stops_data drive service before n)) ≡ Ok (map (written drive service) (range_with_len before n))
unfolding written_stops
stops_read drive service drawn zero before number few = refl
stops_read drive service drawn (suc n) before number few =
    ap (λ (r : Result WrittenStop TourFault). r >>= λ first. written_stops (number + 1) (list_of (stops_data drive service (before + 1) n)) >>= λ others. Ok (first ∷ others))
    (stop_read number before (drive before) (service before) (plain_name before (omega arith)).good (drawn.drive_most before) (drawn.service_least before) (drawn.service_most before))
    ∙ ap (λ (r : Result (List WrittenStop) TourFault). r >>= λ others. Ok (written drive service before ∷ others)) (stops_read drive service drawn n (before + 1) (number + 1) (omega arith))

length-stops_data : (drive service : ℕ → ℕ) (n before : ℕ) → length (list_of (stops_data drive service before n)) ≡ n
length-stops_data drive service zero before = refl
length-stops_data drive service (suc n) before = ap suc (length-stops_data drive service n (before + 1))

few_is : (ds : List Data) (n : ℕ) → length ds ≡ n → 0 < n → n ≤ 20 → few_stops ds ≡ written_stops 1 ds
few_is ds n e some few =
    let a : (length ds == 0) ≡ false = ne_eqb (length ds) 0 (λ z. omega arith) in
    let b : nat_lt MOST_STOPS (length ds) ≡ false = le-ltb MOST_STOPS (length ds) (omega arith) in
    ap₂ (λ p q. cond p (Err NoStops) (cond q (Err TooManyStops) (written_stops 1 ds))) a b

all_read : (drive service : ℕ → ℕ) → AreDrawn drive service → (n : ℕ) → 0 < n → n ≤ 20
    → stops_of (tour_data (stops_data drive service 0 n)) ≡ Ok (map (written drive service) (range_with_len 0 n))
unfolding stops_of
all_read drive service drawn n some few =
    few_is (list_of (stops_data drive service 0 n)) n (length-stops_data drive service n 0) some few ∙ stops_read drive service drawn n 0 1 (omega arith)

-- ---- what is asked of all stops together

names_are : (drive service : ℕ → ℕ) (n before : ℕ) → stop_names (map (written drive service) (range_with_len before n)) ≡ map name_drawn (range_with_len before n)
names_are drive service zero before = refl
names_are drive service (suc n) before = ap (λ names. name_drawn before ∷ names) (names_are drive service n (before + 1))

distinct_is : (drive service : ℕ → ℕ) (more : ℕ) → more < 9
    → distinct (map (written drive service) (range_with_len 0 (12 + more))) ≡ Ok (map (written drive service) (range_with_len 0 (12 + more)))
unfolding distinct
distinct_is drive service more few =
    ap (λ o. with_repeated o (map (written drive service) (range_with_len 0 (12 + more))))
    (ap (first_repeated []) (names_are drive service (12 + more) 0) ∙ different_names more few)

-- no service ends too long after the start
none_late : (drive service : ℕ → ℕ) → AreDrawn drive service → (k : ℕ) → ends_late 13_762_440 (written drive service k) ≡ false
none_late drive service drawn k =
    let most = drawn.service_most k in
    ap (λ b. b || false) (le-ltb 13_782_600 (13_781_160 + service k) (omega arith))

all_pass : (p : WrittenStop → Bool) (w : ℕ → WrittenStop) → ((k : ℕ) → p (w k) ≡ false) → (n before : ℕ) → prefix_len (λ x. not (p x)) (map w (range_with_len before n)) ≡ length (map w (range_with_len before n))
all_pass p w none zero before = refl
all_pass p w none (suc n) before =
    let more = all_pass p w none n (before + 1) in
    ap (λ b. cond (not b) (1 + prefix_len (λ x. not (p x)) (map w (range_with_len (before + 1) n))) 0) (none before) ∙ (let e : 1 + prefix_len (λ x. not (p x)) (map w (range_with_len (before + 1) n)) ≡ suc (length (map w (range_with_len (before + 1) n))) = omega arith in e)

no_position : (p : WrittenStop → Bool) (xs : List WrittenStop) → prefix_len (λ x. not (p x)) xs ≡ length xs → position p xs ≡ None
no_position p xs all =
    let none : nat_lt (prefix_len (λ x. not (p x)) xs) (length xs) ≡ false = le-ltb (prefix_len (λ x. not (p x)) xs) (length xs) (omega arith) in
    ap (λ b. cond b (Some (prefix_len (λ x. not (p x)) xs)) None) none

in_time_is : (drive service : ℕ → ℕ) → AreDrawn drive service → (n : ℕ) → in_time 13_762_440 (map (written drive service) (range_with_len 0 n)) ≡ Ok (map (written drive service) (range_with_len 0 n))
unfolding in_time
in_time_is drive service drawn n =
    let stops = map (written drive service) (range_with_len 0 n) in
    rw (no_position (ends_late 13_762_440) stops (all_pass (ends_late 13_762_440) (written drive service) (none_late drive service drawn) n 0)) refl

-- ---- the head

abbrev head_drawn : Head
head_drawn = record { params = UsProperty true 8 0; grid = 30; start = 13_762_440 }

head_read : (stops : Items) → head_of (tour_data stops) ≡ Ok head_drawn
unfolding head_of book_of with_fields head_in grid_of start_of us_params day_start_of clock_of
head_read stops = rw start_time refl

-- ---- the tour

-- the tour of a form, from what each step of reading it gives
steps_read : (form : Data) (head : Head) (stops : List WrittenStop) → head_of form ≡ Ok head → stops_of form ≡ Ok stops → distinct stops ≡ Ok stops → in_time head.start stops ≡ Ok stops → tour_in form ≡ Ok (tour_from head stops)
unfolding tour_in
steps_read form head stops a b c d = rw (a, b, c, d) refl

-- the steps that are drawn
stop_is : (seed k : ℕ) → stop_of 30 13_762_440 (written (λ k. drive_drawn (draw seed (2 * k + 2))) (λ k. service_drawn (draw seed (2 * k + 3))) k) ≡ stop_drawn seed k
unfolding stop_drawn
stop_is seed k =
    let stop : ℕ → ℕ → Stop = λ drive service. record { name = name_drawn k; drive = drive; service = service; windows = record { opens = 0; closes = 624 } ∷ [] } in
    ap₂ stop (whole_steps (1 + draw seed (2 * k + 2) % 8)) (whole_steps (1 + draw seed (2 * k + 3) % 3))

stops_are : (seed n before : ℕ)
    → map (stop_of 30 13_762_440) (map (written (λ k. drive_drawn (draw seed (2 * k + 2))) (λ k. service_drawn (draw seed (2 * k + 3)))) (range_with_len before n)) ≡ map (stop_drawn seed) (range_with_len before n)
stops_are seed zero before = refl
stops_are seed (suc n) before = ap₂ (λ s ss. s ∷ ss) (stop_is seed before) (stops_are seed n (before + 1))

drawn_numbers : (seed : ℕ) → AreDrawn (λ k. drive_drawn (draw seed (2 * k + 2))) (λ k. service_drawn (draw seed (2 * k + 3)))
drawn_numbers seed = record {
  drive_most = λ k. drive_most (draw seed (2 * k + 2));
  service_least = λ k. service_least (draw seed (2 * k + 3));
  service_most = λ k. service_most (draw seed (2 * k + 3));
}

-- the tour of so many stops
abbrev tour_with : ℕ → ℕ → Tour
tour_with seed n = record { params = UsProperty true 8 0; grid = 30; start = 13_762_440; stops = map (stop_drawn seed) (range_with_len 0 n) }

form_read : (seed more : ℕ) → more < 9
    → tour_in (tour_data (stops_data (λ k. drive_drawn (draw seed (2 * k + 2))) (λ k. service_drawn (draw seed (2 * k + 3))) 0 (12 + more))) ≡ Ok (tour_with seed (12 + more))
form_read seed more few =
    let drive : ℕ → ℕ = λ k. drive_drawn (draw seed (2 * k + 2)) in
    let service : ℕ → ℕ = λ k. service_drawn (draw seed (2 * k + 3)) in
    let drawn = drawn_numbers seed in
    let stops = map (written drive service) (range_with_len 0 (12 + more)) in
    steps_read (tour_data (stops_data drive service 0 (12 + more))) head_drawn stops (head_read (stops_data drive service 0 (12 + more)))
    (all_read drive service drawn (12 + more) (omega arith) (omega arith)) (distinct_is drive service more few) (in_time_is drive service drawn (12 + more))
    ∙ ap (λ ss. Ok (record { params = UsProperty true 8 0; grid = 30; start = 13_762_440; stops = ss })) (stops_are seed (12 + more) 0)

-- bytes that are few and UTF-8 have the form that they read as
form_is : (bytes : List ℕ) (form : Data) → length bytes ≤ 5_000 → is_utf8 bytes ≡ true → read bytes ≡ Some form → object_from (Some form) ≡ Ok form → form_of bytes ≡ Ok form
unfolding form_of
form_is bytes form few utf8 reads object =
    let short : nat_lt TOUR_LIMIT (length bytes) ≡ false = le-ltb TOUR_LIMIT (length bytes) (omega arith) in
    ap₂ (λ b u. cond b (Err TooBig) (object_from (cond u (read bytes) None))) short utf8 ∙ ap object_from reads ∙ object

text_is : (seed n : ℕ) → (tour_head ++ flat_map (λ (stop : List ℕ). stop) (map (stop_made seed) (range_with_len 0 n))) ++ tour_end
    ≡ (tour_head ++ stops_text (λ k. drive_drawn (draw seed (2 * k + 2))) (λ k. service_drawn (draw seed (2 * k + 3))) 0 n) ++ tour_end
unfolding stop_made
text_is seed n = refl

text_says : (seed more : ℕ) → more < 9 → tour_of ((tour_head ++ flat_map (λ (stop : List ℕ). stop) (map (stop_made seed) (range_with_len 0 (12 + more)))) ++ tour_end) ≡ Ok (tour_with seed (12 + more))
unfolding tour_of
text_says seed more few =
    let drive : ℕ → ℕ = λ k. drive_drawn (draw seed (2 * k + 2)) in
    let service : ℕ → ℕ = λ k. service_drawn (draw seed (2 * k + 3)) in
    let drawn = drawn_numbers seed in
    let text = (tour_head ++ stops_text drive service 0 (12 + more)) ++ tour_end in
    let form = tour_data (stops_data drive service 0 (12 + more)) in
    ap (λ (bytes : List ℕ). form_of bytes >>= tour_in) (text_is seed (12 + more))
    ∙ ap (λ (r : Result Data TourFault). r >>= tour_in)
    (form_is text form (text_length drive service drawn (12 + more) (omega arith)) (is_utf8-from_IsUtf8 text (text_utf8 drive service drawn (12 + more) (omega arith))) (text_reads drive service drawn (12 + more) (omega arith) (omega arith)) refl)
    ∙ form_read seed more few

-- the tour's text says the tour that the number draws
pub tour_says : (seed : ℕ) → tour_of (tour_made seed) ≡ Ok (tour_drawn seed)
tour_says seed = text_says seed (draw seed 1 % 9) (omega arith)
