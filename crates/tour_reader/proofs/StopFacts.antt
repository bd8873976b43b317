-- Reading the windows of a stop, and the stops, one after the other, as a loop does.
use Rattle.std.proofs.Common.{◌≡◌, ◌≢◌, ℕ, ◌+◌, ◌≤◌, ◌<◌, List, [], ◌∷◌, ◌++◌, drop, length, map, get_or, Option, Some, None, option_map, Result, Ok, Err, refl, sym, ap, ◌∙◌, append_assoc, append-nil}
use Rattle.serde_json.specs.Data.{Data}
use Rattle.serde_json.specs.View.{view}
use Rattle.serde_json.specs.declared.value.Value.{Value}
use Rattle.tour_reader.specs.declared.written.Span.{Span}
use Rattle.tour_reader.specs.declared.written.WrittenStop.{WrittenStop}
use Rattle.tour_reader.specs.declared.fault.TourFault.{TourFault}
use Rattle.tour_reader.specs.declared.fault.TourFault.TheVariants.{Memory}
use Rattle.tour_reader.specs.Gives.{◌>>=◌}
use Rattle.tour_reader.specs.Written.{span_of, and_others, spans_of, span_from, written_stop, written_stops}
use Rattle.tour_reader.proofs.Lists.{left_at, left_none}

-- ---- windows

-- the spans before, and those that are still read
abbrev pub with_spans : List Span → Option (List Span) → Option (List Span)
with_spans spans later = option_map (λ later. spans ++ later) later

regroup_spans : (spans : List Span) (span : Span) (later : Option (List Span)) → with_spans spans (and_others (Some span) later) ≡ with_spans (spans ++ span ∷ []) later
regroup_spans spans span None = refl
regroup_spans spans span (Some later) = ap (λ (s : List Span). Some s) (sym (append_assoc spans (span ∷ []) later))

pub spans_more : (spans : List Span) (vs : List Value) (i : ℕ) (v : Value) (span : Span) (total : Option (List Span)) → i < length vs → v ≡ get_or vs i v → Some span ≡ span_of (view v)
    → with_spans spans (spans_of (drop i (map view vs))) ≡ total → with_spans (spans ++ span ∷ []) (spans_of (drop (i + 1) (map view vs))) ≡ total
spans_more spans vs i v span total lt is one so_far =
    let left = left_at view vs i v lt is in
    let here : with_spans spans (spans_of (drop i (map view vs))) ≡ with_spans spans (and_others (Some span) (spans_of (drop (i + 1) (map view vs)))) =
    ap (λ (ds : List Data). with_spans spans (spans_of ds)) left ∙ ap (λ (o : Option Span). with_spans spans (and_others o (spans_of (drop (i + 1) (map view vs))))) (sym one) in
    sym (regroup_spans spans span (spans_of (drop (i + 1) (map view vs)))) ∙ sym here ∙ so_far

pub spans_stop : (spans : List Span) (vs : List Value) (i : ℕ) (v : Value) (total : Option (List Span)) → i < length vs → v ≡ get_or vs i v → None ≡ span_of (view v)
    → with_spans spans (spans_of (drop i (map view vs))) ≡ total → total ≡ None
spans_stop spans vs i v total lt is none so_far =
    let left = left_at view vs i v lt is in
    sym so_far ∙ ap (λ (ds : List Data). with_spans spans (spans_of ds)) left ∙ ap (λ (o : Option Span). with_spans spans (and_others o (spans_of (drop (i + 1) (map view vs))))) (sym none)

pub spans_all : (spans : List Span) (vs : List Value) (i : ℕ) (total : Option (List Span)) → length vs ≤ i → with_spans spans (spans_of (drop i (map view vs))) ≡ total → total ≡ Some spans
spans_all spans vs i total le so_far =
    sym so_far ∙ ap (λ (ds : List Data). with_spans spans (spans_of ds)) (left_none view vs i le) ∙ ap (λ (s : List Span). Some s) (append-nil spans)

-- an array of another length than two has no span
pub span_none : (vs : List Value) → length vs ≢ 2 → None ≡ span_from (map view vs)
span_none [] other = refl
span_none (a ∷ []) other = refl
span_none (a ∷ b ∷ []) other = absurd (other refl)
span_none (a ∷ b ∷ c ∷ vs) other = refl

-- ---- stops

-- the stops before, and those that are still read
abbrev pub with_stops : List WrittenStop → Result (List WrittenStop) TourFault → Result (List WrittenStop) TourFault
with_stops stops later = later >>= λ later. Ok (stops ++ later)

regroup_stops : (stops : List WrittenStop) (stop : WrittenStop) (later : Result (List WrittenStop) TourFault) → with_stops stops (later >>= λ others. Ok (stop ∷ others)) ≡ with_stops (stops ++ stop ∷ []) later
regroup_stops stops stop (Ok later) = ap (λ (s : List WrittenStop). Ok s) (sym (append_assoc stops (stop ∷ []) later))
regroup_stops stops stop (Err fault) = refl

first_reads : (number : ℕ) (d : Data) (ds : List Data) (stop : WrittenStop) → written_stop number d ≡ Ok stop → written_stops number (d ∷ ds) ≡ (written_stops (number + 1) ds >>= λ others. Ok (stop ∷ others))
unfolding written_stops
first_reads number d ds stop is = rw is refl

first_fails : (number : ℕ) (d : Data) (ds : List Data) (fault : TourFault) → written_stop number d ≡ Err fault → written_stops number (d ∷ ds) ≡ Err fault
unfolding written_stops
first_fails number d ds fault is = rw is refl

none_left : (number : ℕ) → written_stops number [] ≡ Ok []
unfolding written_stops
none_left number = refl

pub stops_more : (stops : List WrittenStop) (vs : List Value) (i : ℕ) (v : Value) (stop : WrittenStop) (total : Result (List WrittenStop) TourFault) → i < length vs → v ≡ get_or vs i v
    → written_stop (i + 1) (view v) ≡ Ok stop → with_stops stops (written_stops (i + 1) (drop i (map view vs))) ≡ total
    → with_stops (stops ++ stop ∷ []) (written_stops (i + 1 + 1) (drop (i + 1) (map view vs))) ≡ total
stops_more stops vs i v stop total lt is one so_far =
    let left = left_at view vs i v lt is in
    let here = ap (λ (ds : List Data). with_stops stops (written_stops (i + 1) ds)) left ∙ ap (with_stops stops) (first_reads (i + 1) (view v) (drop (i + 1) (map view vs)) stop one) in
    sym (regroup_stops stops stop (written_stops (i + 1 + 1) (drop (i + 1) (map view vs)))) ∙ sym here ∙ so_far

pub stops_stop : (stops : List WrittenStop) (vs : List Value) (i : ℕ) (v : Value) (fault : TourFault) (total : Result (List WrittenStop) TourFault) → i < length vs → v ≡ get_or vs i v
    → (fault ≢ Memory → written_stop (i + 1) (view v) ≡ Err fault) → with_stops stops (written_stops (i + 1) (drop i (map view vs))) ≡ total → fault ≢ Memory → total ≡ Err fault
stops_stop stops vs i v fault total lt is fails so_far other =
    let left = left_at view vs i v lt is in
    sym so_far ∙ ap (λ (ds : List Data). with_stops stops (written_stops (i + 1) ds)) left ∙ ap (with_stops stops) (first_fails (i + 1) (view v) (drop (i + 1) (map view vs)) fault (fails other))

pub stops_all : (stops : List WrittenStop) (vs : List Value) (i : ℕ) (total : Result (List WrittenStop) TourFault) → length vs ≤ i → with_stops stops (written_stops (i + 1) (drop i (map view vs))) ≡ total → total ≡ Ok stops
stops_all stops vs i total le so_far =
    sym so_far ∙ ap (λ (ds : List Data). with_stops stops (written_stops (i + 1) ds)) (left_none view vs i le) ∙ ap (with_stops stops) (none_left (i + 1)) ∙ ap (λ (s : List WrittenStop). Ok s) (append-nil stops)
