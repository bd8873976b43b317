-- The tour and the log that a number draws: what the texts that are made by the number say.
use Rattle.std.specs.Prelude.{◌≡◌, ℕ, ◌+◌, ◌*◌, ◌%◌, true, List, [], ◌∷◌, ◌++◌, length, map, replicate, codes, Ok}
use Rattle.std.specs.Fmt.{decimal}
use Rattle.std.specs.List.{range_with_len}
use Rattle.duty_core.specs.declared.activity.Activity.{Activity}
use Rattle.duty_core.specs.declared.activity.Activity.TheVariants.{Serve, Off}
use Rattle.duty_core.specs.declared.params.Params.TheVariants.{UsProperty}
use Rattle.duty_core.specs.Lawful.{IsLawful}
use Rattle.tour_model.specs.declared.stop.Stop.{Stop}
use Rattle.tour_model.specs.declared.tour.Tour.{Tour}
use Rattle.tour_model.specs.declared.window.Window.{Window}
use Rattle.tour_model.specs.Schedule.{log_start}
use Rattle.tour_reader.specs.Tour.{tour_of}
use Rattle.duty_log.specs.Log.{ReadsLog}
use Rattle.report_text.specs.Made.{draw, stops_drawn, tour_made, log_made}

-- ---- the tour, in steps of half an hour from 2026-03-02T06:00 on

-- the name of the stop with so many stops before it
abbrev pub name_drawn : ℕ → List ℕ
name_drawn before = codes "S" ++ decimal (before + 1)

-- the window of each stop: from the start on, for thirteen days
abbrev pub window_drawn : Window
window_drawn = record { opens = 0; closes = 624 }

-- the stop with so many stops before it: from one to eight steps of driving, and from one to three of service
unfoldable pub stop_drawn : ℕ → ℕ → Stop
stop_drawn seed before = record {
  name = name_drawn before;
  drive = 1 + draw seed (2 * before + 2) % 8;
  service = 1 + draw seed (2 * before + 3) % 3;
  windows = window_drawn ∷ [];
}

-- the tour of this number
abbrev pub tour_drawn : ℕ → Tour
tour_drawn seed = record {
  params = UsProperty true 8 0;
  grid = 30;
  start = 13_762_440;
  stops = map (stop_drawn seed) (range_with_len 0 (stops_drawn seed));
}

-- ---- the log, minute by minute

-- so many minutes of work, and then of rest
unfoldable pub work_and_rest : ℕ → ℕ → List Activity
work_and_rest work rest = replicate work Serve ++ replicate rest Off

-- five days of nine hours of work, with rest up to the next one and, after the last, up to the tour's start
abbrev pub log_drawn : List Activity
log_drawn = work_and_rest 540 900 ++ work_and_rest 540 900 ++ work_and_rest 540 900 ++ work_and_rest 540 900 ++ work_and_rest 540 3_660

-- ---- what the texts say

-- The texts that are made by the number are of this tour and this log, and the log is lawful before the tour.
pub record IsMade (seed : ℕ) (tour : Tour) (log : List Activity) : Type 0 where
  pub drawn : tour ≡ tour_drawn seed
  pub week : log ≡ log_drawn
  pub tour_reads : tour_of (tour_made seed) ≡ Ok tour
  pub log_reads : ReadsLog log_made tour.params tour.start (Ok log)
  pub lawful : IsLawful tour.params (log_start tour log) log
  pub stops : length tour.stops ≡ stops_drawn seed
