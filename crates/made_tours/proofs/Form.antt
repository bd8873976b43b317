-- The value that a made tour's text is.
use Rattle.std.proofs.Common.{◌≡◌, ℕ, zero, suc, ◌+◌, ◌<◌, ◌≤◌, true, Option, Some, List, [], ◌++◌, codes, refl, sym, ap, ◌∙◌, append-nil, option_map, option_and_then, arith}
use Rattle.std.specs.Fmt.{decimal, digits}
use Rattle.json.specs.Json as json
use Rattle.json.specs.Json.{if_last}
use Rattle.json.specs.Lex.{tokens}
use Rattle.json.specs.Token.{Token}
use Rattle.json.specs.Tree as tree
use Rattle.json.proofs.Printed.Trees.{value-json_tokens}
use Rattle.serde_json.specs.Data.{Num, unsigned, Data, boolean, number, string, array, object, Items, no_items, item, no_members, member}
use Rattle.serde_json.specs.Read.{number_of, of_json, of_items, max_depth, read}
use Rattle.serde_json.proofs.Numbers.{number_of-decimal}
use Rattle.report_text.specs.Made.{tour_head}
use Rattle.made_tours.specs.Drawn.{name_drawn}
use Rattle.made_tours.proofs.Lexed.{windows_json, stops_json, tour_json, stops_text, tour_end, AreDrawn, text_tokens}

-- ---- the values

abbrev pub windows_data : Data
windows_data = array (item (array (item (string (codes "2026-03-02T06:00")) (item (string (codes "2026-03-15T06:00")) no_items))) no_items)

abbrev pub stop_data : List ℕ → ℕ → ℕ → Data
stop_data name drive service =
    object (member (codes "drive") (number (unsigned drive)) (member (codes "name") (string name) (member (codes "service") (number (unsigned service)) (member (codes "windows") windows_data no_members))))

abbrev pub stops_data : (ℕ → ℕ) → (ℕ → ℕ) → ℕ → ℕ → Items
stops_data drive service before zero = no_items
stops_data drive service before (suc n) = item (stop_data (name_drawn before) (drive before) (service before)) (stops_data drive service (before + 1) n)

abbrev pub tour_data : Items → Data
tour_data stops =
    object (member (codes "berth") (boolean true) (member (codes "book") (string (codes "us")) (member (codes "day_start") (string (codes "00:00")) (member (codes "days") (number (unsigned 8)) (member (codes "grid") (number (unsigned 30))
    (member (codes "start") (string (codes "2026-03-02T06:00")) (member (codes "stops") (array stops) no_members)))))))

-- ---- what the JSON stands for

of_stop : (name s t : List ℕ) (m n : Num) → number_of s ≡ Some m → number_of t ≡ Some n
    → of_json (json.object (json.member (codes "name") (json.string name) (json.member (codes "drive") (json.number s) (json.member (codes "service") (json.number t) (json.member (codes "windows") windows_json json.no_members)))))
    ≡ Some (object (member (codes "drive") (number m) (member (codes "name") (string name) (member (codes "service") (number n) (member (codes "windows") windows_data no_members)))))
of_stop name s t m n e f = rw (e, f) refl

of_stops : (drive service : ℕ → ℕ) → AreDrawn drive service → (n before : ℕ) → of_items (stops_json drive service before n) ≡ Some (stops_data drive service before n)
of_stops drive service drawn zero before = refl
of_stops drive service drawn (suc n) before =
    let small = number_of-decimal (drive before) (omega (arith, drawn.drive_most before)) in
    let short = number_of-decimal (service before) (omega (arith, drawn.service_most before)) in
    ap (option_and_then (λ d. option_map (item d) (of_items (stops_json drive service (before + 1) n)))) (of_stop (name_drawn before) (decimal (drive before)) (decimal (service before)) (unsigned (drive before)) (unsigned (service before)) small short)
    ∙ ap (option_map (item (stop_data (name_drawn before) (drive before) (service before)))) (of_stops drive service drawn n (before + 1))

thirty : number_of (codes "30") ≡ Some (unsigned 30)
unfolding digits
thirty = number_of-decimal 30 (omega arith)

eight : number_of (codes "8") ≡ Some (unsigned 8)
unfolding digits
eight = number_of-decimal 8 (omega arith)

of_tour : (js : json.Items) (ds : Items) → of_items js ≡ Some ds → of_json (tour_json js) ≡ Some (tour_data ds)
of_tour js ds e = rw (thirty, eight, e) refl

-- ---- how deep it nests

stops_depth : (drive service : ℕ → ℕ) (n before : ℕ) → tree.items_depth (stops_json drive service before n) ≤ 3
stops_depth drive service zero before = omega arith
stops_depth drive service (suc n) before = omega (arith, stops_depth drive service n (before + 1))

-- ---- reading

abbrev whole : Option (json.Json × List Token) → Option Data
whole o = option_and_then of_json (option_and_then (λ p. if_last p.0 p.1) o)

read_tokens : (text : List ℕ) (j : json.Json) (d : Data) → tokens text ≡ tree.json_tokens j → tree.depth j ≤ max_depth → of_json j ≡ Some d → read text ≡ Some d
read_tokens text j d same shallow is =
    ap whole (ap (json.value max_depth) (same ∙ sym (append-nil (tree.json_tokens j))) ∙ value-json_tokens j max_depth [] shallow) ∙ is

-- a tour's text reads as its value
text_reads_from : (drive service : ℕ → ℕ) → AreDrawn drive service → (n : ℕ) → n < 20
    → read ((tour_head ++ stops_text drive service 0 (suc n)) ++ tour_end) ≡ Some (tour_data (stops_data drive service 0 (suc n)))
text_reads_from drive service drawn n few =
    let js = stops_json drive service 0 (suc n) in
    read_tokens ((tour_head ++ stops_text drive service 0 (suc n)) ++ tour_end) (tour_json js) (tour_data (stops_data drive service 0 (suc n))) (text_tokens drive service drawn n few)
    (omega (arith, stops_depth drive service (suc n) 0)) (of_tour js (stops_data drive service 0 (suc n)) (of_stops drive service drawn (suc n) 0))

pub text_reads : (drive service : ℕ → ℕ) → AreDrawn drive service → (n : ℕ) → 0 < n → n ≤ 20
    → read ((tour_head ++ stops_text drive service 0 n) ++ tour_end) ≡ Some (tour_data (stops_data drive service 0 n))
text_reads drive service drawn zero some few = absurd (omega arith)
text_reads drive service drawn (suc n) some few = text_reads_from drive service drawn n (omega arith)
