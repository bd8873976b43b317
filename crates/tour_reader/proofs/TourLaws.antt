-- Each tour that is read is one.
use Rattle.std.proofs.Common.{◌≡◌, ℕ, ◌+◌, ◌-◌, ◌*◌, ◌/◌, ◌≤◌, ◌&&◌, nat_le, List, [], ◌∷◌, length, map, filter_map, All, Option, Some, None, Ok, IfSome, IfOk, arith}
use Rattle.std.specs.Int.{div_ceil}
use Rattle.std.specs.List.{cons_option}
use Rattle.std.proofs.lemmas.List.{length-map}
use Rattle.std.proofs.lemmas.List.Elements.{All-nil, All-cons, All-head, All-tail}
use Rattle.serde_json.specs.Data.{Data}
use Rattle.tour_model.specs.declared.limits.TheConstants.{MOST_DRIVE, MOST_SERVICE, LONGEST_TOUR}
use Rattle.tour_model.specs.Tour.{IsWindow, IsStop, IsTour}
use Rattle.tour_reader.specs.declared.head.Head.{Head}
use Rattle.tour_reader.specs.declared.written.Span.{Span}
use Rattle.tour_reader.specs.declared.written.WrittenStop.{WrittenStop}
use Rattle.tour_reader.specs.Gives.{◌>>=◌}
use Rattle.civil_minutes.specs.Laws.TimeOfLaws.{parts, le_from}
use Rattle.tour_reader.specs.Head.{head_of}
use Rattle.tour_reader.specs.Written.{stops_of}
use Rattle.tour_reader.specs.Checks.{distinct, in_time}
use Rattle.tour_reader.specs.Rounding.{steps_up, opening, closing, window_of, stop_of, tour_from}
use Rattle.tour_reader.specs.Tour.{form_of, tour_in, tour_of}
use Rattle.tour_reader.proofs.Holds.{if_holds, any_ok, bind_holds}
use Rattle.tour_reader.proofs.HeadLaws.{IsHead, head_holds, IsGrid, is_grid, at_grid}
use Rattle.tour_reader.proofs.StopLaws.{IsWritten, AreWritten, stops_hold, distinct_same, IsTimely, ArePassed, in_time_passed}

-- ---- rounding stays within the limits

drive_fits : (minutes : ℕ) → minutes ≤ MOST_DRIVE → (grid : ℕ) → IsGrid grid → div_ceil minutes grid * grid ≤ MOST_DRIVE
drive_fits minutes few = at_grid (λ grid. div_ceil minutes grid * grid ≤ MOST_DRIVE) (omega arith) (omega arith) (omega arith) (omega arith)

service_fits : (minutes : ℕ) → minutes ≤ MOST_SERVICE → (grid : ℕ) → IsGrid grid → div_ceil minutes grid * grid ≤ MOST_SERVICE
service_fits minutes few = at_grid (λ grid. div_ceil minutes grid * grid ≤ MOST_SERVICE) (omega arith) (omega arith) (omega arith) (omega arith)

some_steps : (minutes : ℕ) → 1 ≤ minutes → (grid : ℕ) → IsGrid grid → 1 ≤ div_ceil minutes grid
some_steps minutes some = at_grid (λ grid. 1 ≤ div_ceil minutes grid) (omega arith) (omega arith) (omega arith) (omega arith)

end_fits : (closes service : ℕ) → closes + service ≤ LONGEST_TOUR → (grid : ℕ) → IsGrid grid → (closes / grid + div_ceil service grid) * grid ≤ LONGEST_TOUR
end_fits closes service fits = at_grid (λ grid. (closes / grid + div_ceil service grid) * grid ≤ LONGEST_TOUR) (omega arith) (omega arith) (omega arith) (omega arith)

-- ---- the windows

all_cons_option : {A : Type 0} (P : A → Type 0) (o : Option A) (xs : List A) → IfSome o P → All P xs → All P (cons_option o xs)
all_cons_option P None xs one more = more
all_cons_option P (Some x) xs one more = All-cons P x xs one more

all_filter_map : {A B : Type 0} (P : A → Type 0) (Q : B → Type 0) (f : A → Option B) → ((x : A) → P x → IfSome (f x) Q) → (xs : List A) → All P xs → All Q (filter_map f xs)
all_filter_map P Q f each [] all = All-nil Q
all_filter_map P Q f each (x ∷ xs) all = all_cons_option Q (f x) (filter_map f xs) (each x (All-head P x xs all)) (all_filter_map P Q f each xs (All-tail P x xs all))

length-cons_option : {A : Type 0} (o : Option A) (xs : List A) (n : ℕ) → length xs ≤ n → length (cons_option o xs) ≤ n + 1
length-cons_option None xs n le = omega arith
length-cons_option (Some x) xs n le = omega arith

fewer : {A B : Type 0} (f : A → Option B) (xs : List A) → length (filter_map f xs) ≤ length xs
fewer f [] = omega arith
fewer f (x ∷ xs) =
    let more = length-cons_option (f x) (filter_map f xs) (length xs) (fewer f xs) in
    omega arith

window_holds : (grid start service : ℕ) (span : Span) → IsGrid grid → span.to + service ≤ start + LONGEST_TOUR → IfSome (window_of grid start span) (IsWindow grid (steps_up grid service))
window_holds grid start service span g timely =
    if_holds (IsWindow grid (steps_up grid service)) (nat_le start span.to && nat_le (opening grid start span) (closing grid start span)) (record { opens = opening grid start span; closes = closing grid start span }) (λ b.
    let p = parts (nat_le start span.to) (nat_le (opening grid start span) (closing grid start span)) b in
    let begins : start ≤ span.to = le_from _ _ p.0 in
    record { ordered = le_from _ _ p.1; ends = end_fits (span.to - start) service (omega arith) grid g })

-- ---- the stops

stop_lawful : (grid start : ℕ) (stop : WrittenStop) → IsGrid grid → IsWritten stop → IsTimely start stop → IsStop grid (stop_of grid start stop)
stop_lawful grid start stop g w timely = record {
  named = w.named;
  short_name = w.short_name;
  drive = drive_fits stop.drive w.drive grid g;
  some_service = some_steps stop.service w.some_service grid g;
  service = service_fits stop.service w.service grid g;
  few_windows = (let few = fewer (window_of grid start) stop.spans in let most = w.few_windows in omega arith);
  windows = all_filter_map (λ span. span.to + stop.service ≤ start + LONGEST_TOUR) (IsWindow grid (steps_up grid stop.service)) (window_of grid start) (λ span t. window_holds grid start stop.service span g t) stop.spans timely;
}

stops_lawful : (grid start : ℕ) (stops : List WrittenStop) → IsGrid grid → All IsWritten stops → All (IsTimely start) stops → All (IsStop grid) (map (stop_of grid start) stops)
stops_lawful grid start [] g each timely = All-nil (IsStop grid)
stops_lawful grid start (stop ∷ stops) g each timely =
    All-cons (IsStop grid) (stop_of grid start stop) (map (stop_of grid start) stops) (stop_lawful grid start stop g (All-head IsWritten stop stops each) (All-head (IsTimely start) stop stops timely))
    (stops_lawful grid start stops g (All-tail IsWritten stop stops each) (All-tail (IsTimely start) stop stops timely))

-- ---- the tour

tour_lawful : (head : Head) (stops : List WrittenStop) → IsHead head → AreWritten stops → All (IsTimely head.start) stops → IsTour (tour_from head stops)
tour_lawful head stops h w timely = record {
  params = h.params;
  grid = h.grid;
  whole_start = h.whole_start;
  not_early = h.not_early;
  not_late = h.not_late;
  some_stops = rw length-map w.some;
  few_stops = rw length-map w.few;
  stops = stops_lawful head.grid head.start stops (is_grid head.params head.grid h.grid) w.each timely;
}

tour_in_holds : (form : Data) → IfOk (tour_in form) IsTour
unfolding tour_in
tour_in_holds form =
    bind_holds IsHead IsTour (head_of form) (λ head. stops_of form >>= λ stops. distinct stops >>= λ apart. in_time head.start apart >>= λ timely. Ok (tour_from head timely)) (head_holds form) (λ head h.
    bind_holds AreWritten IsTour (stops_of form) (λ stops. distinct stops >>= λ apart. in_time head.start apart >>= λ timely. Ok (tour_from head timely)) (stops_hold form) (λ stops w.
    bind_holds (λ apart. apart ≡ stops) IsTour (distinct stops) (λ apart. in_time head.start apart >>= λ timely. Ok (tour_from head timely)) (distinct_same stops) (λ apart same.
    bind_holds (ArePassed head.start apart) IsTour (in_time head.start apart) (λ timely. Ok (tour_from head timely)) (in_time_passed head.start apart) (λ timely passed.
    tour_lawful head timely h (rw (passed.same, same) w) (rw passed.same passed.timely)))))

-- each tour that is read is one
pub tour_of-IsTour : (bytes : List ℕ) → IfOk (tour_of bytes) IsTour
unfolding tour_of
tour_of-IsTour bytes = bind_holds (λ _. Unit {0}) IsTour (form_of bytes) tour_in (any_ok _) (λ form _. tour_in_holds form)
