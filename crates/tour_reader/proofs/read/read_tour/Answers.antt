use Rattle.tour_model.specs.Tour.{IsTour}
use Rattle.tour_reader.specs.Tour.{tour_of}
use Rattle.tour_reader.proofs.Holds.{given_holds, given_ok, given_err}
use Rattle.tour_reader.proofs.TourLaws.{tour_of-IsTour}
use Rattle.tour_reader.proofs.read.read_tour.Goals as goal

pub returns-clause-tour : goal.returns-clause-tour
returns-clause-tour c = given_ok c.whole_tour.result (tour_of c.args.bytes.now) c.whole_tour.ensures

pub returns-clause-lawful : goal.returns-clause-lawful
returns-clause-lawful c = given_holds (λ tour. tour) IsTour c.whole_tour.result (tour_of c.args.bytes.now) c.whole_tour.ensures (tour_of-IsTour c.args.bytes.now)

pub returns-clause-fault : goal.returns-clause-fault
returns-clause-fault c = given_err c.whole_tour.result (tour_of c.args.bytes.now) c.whole_tour.ensures
