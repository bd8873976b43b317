-- A tour that is made by number, and its log, as texts.
use Rattle.std.specs.Prelude.{ℕ, ◌+◌, ◌*◌, ◌%◌, ◌==◌, if◌then◌else◌, List, [], ◌++◌, map, flat_map, codes}
use Rattle.std.specs.Fmt.{decimal}
use Rattle.std.specs.List.{range_with_len}
use Rattle.report_text.specs.Draws.{drawn, number_after}

-- the draw of this number, of the draws that begin with a seed
abbrev pub draw : ℕ → ℕ → ℕ
draw seed n = drawn (number_after seed n)

-- from 12 to 20 stops
abbrev pub count_drawn : ℕ → ℕ
count_drawn q = 12 + q % 9

-- the number of stops, by the first draw
abbrev pub stops_drawn : ℕ → ℕ
stops_drawn seed = count_drawn (draw seed 1)

-- half an hour up to four hours of driving
abbrev pub drive_drawn : ℕ → ℕ
drive_drawn q = 30 * (1 + q % 8)

-- half an hour up to an hour and a half of service
abbrev pub service_drawn : ℕ → ℕ
service_drawn q = 30 * (1 + q % 3)

-- a comma before each stop but the first
abbrev pub comma_before : ℕ → List ℕ
comma_before before = if before == 0 then [] else codes ","

-- the stop with so many stops before it
abbrev pub stop_text : (before drive service : ℕ) → List ℕ
stop_text before drive service =
    comma_before before ++ codes "{\"name\":\"S" ++ decimal (before + 1) ++ codes "\",\"drive\":" ++ decimal drive ++ codes ",\"service\":" ++ decimal service
    ++ codes ",\"windows\":[[\"2026-03-02T06:00\",\"2026-03-15T06:00\"]]}"

-- the stop with so many stops before it: its driving and then its service are drawn, after the draw of the number of stops and two for each stop before
unfoldable pub stop_made : ℕ → ℕ → List ℕ
stop_made seed before = stop_text before (drive_drawn (draw seed (2 * before + 2))) (service_drawn (draw seed (2 * before + 3)))

-- all that stands before the stops
abbrev pub tour_head : List ℕ
tour_head = codes "{\"book\":\"us\",\"grid\":30,\"start\":\"2026-03-02T06:00\",\"berth\":true,\"days\":8,\"day_start\":\"00:00\",\"stops\":["

-- the tour of this number
abbrev pub tour_made : ℕ → List ℕ
tour_made seed = tour_head ++ flat_map (λ (stop : List ℕ). stop) (map (stop_made seed) (range_with_len 0 (stops_drawn seed))) ++ codes "]}\n"

-- the log before each made tour: five days of work from 08:00 to 17:00, and rest after each
abbrev pub log_made : List ℕ
log_made =
    codes "from,to,status\n2026-02-23T08:00,2026-02-23T17:00,ON\n2026-02-23T17:00,2026-02-24T08:00,OFF\n2026-02-24T08:00,2026-02-24T17:00,ON\n2026-02-24T17:00,2026-02-25T08:00,OFF\n2026-02-25T08:00,2026-02-25T17:00,ON\n2026-02-25T17:00,2026-02-26T08:00,OFF\n2026-02-26T08:00,2026-02-26T17:00,ON\n2026-02-26T17:00,2026-02-27T08:00,OFF\n2026-02-27T08:00,2026-02-27T17:00,ON\n2026-02-27T17:00,2026-03-02T06:00,OFF\n"
