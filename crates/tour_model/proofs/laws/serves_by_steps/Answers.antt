use Rattle.tour_model.specs.Laws.ServeLaws.{way_serves, serves_way, serves_done}
use Rattle.tour_model.specs.Laws.LengthLaws.{serves_short, history_short}
use Rattle.tour_model.proofs.laws.serves_by_steps.Goals as goal

pub returns : goal.returns
returns c = record {
  goes = serves_way c.args.tour.now c.requires;
  finishes = serves_done c.args.tour.now c.requires;
  serves = way_serves c.args.tour.now c.requires;
  short = serves_short c.args.tour.now c.requires;
  history = history_short c.args.tour.now c.requires;
}
