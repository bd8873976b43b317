use Rattle.made_tours.proofs.MadeIs.{made_from}
use Rattle.made_tours.proofs.made.made_tour.Goals as goal

pub returns-clause-says : goal.returns-clause-says
returns-clause-says c = made_from c.args.n c.in_ok-tour.tour c.in_ok-log.log c.in_ok-tour.ensures.drawn c.in_ok-log.ensures.drawn
