-- What the texts that are made by a number say.
use Rattle.std.proofs.Common.{◌≡◌, ℕ, true, List, refl, sym, subst}
use Rattle.std.proofs.lemmas.List.FromFn.{length-map-range_with_len}
use Rattle.duty_core.specs.declared.activity.Activity.{Activity}
use Rattle.tour_model.specs.declared.tour.Tour.{Tour}
use Rattle.tour_model.specs.Schedule.{log_start}
use Rattle.report_text.specs.Made.{stops_drawn}
use Rattle.made_tours.specs.Drawn.{stop_drawn, tour_drawn, log_drawn, IsMade}
use Rattle.made_tours.proofs.Lawful.{week_lawful}
use Rattle.made_tours.proofs.LogTexts.{log_says}
use Rattle.made_tours.proofs.TourTexts.{tour_says}

-- they say the tour and the log that the number draws
pub made_is : (seed : ℕ) → IsMade seed (tour_drawn seed) log_drawn
made_is seed = record {
  drawn = refl;
  week = refl;
  tour_reads = tour_says seed;
  log_reads = log_says;
  lawful = week_lawful true 8 0 (log_start (tour_drawn seed) log_drawn);
  stops = length-map-range_with_len (stop_drawn seed) 0 (stops_drawn seed);
}

pub made_from : (seed : ℕ) (tour : Tour) (log : List Activity) → tour ≡ tour_drawn seed → log ≡ log_drawn → IsMade seed tour log
made_from seed tour log e f = subst (λ t. IsMade seed t log) (sym e) (subst (λ l. IsMade seed (tour_drawn seed) l) (sym f) (made_is seed))
