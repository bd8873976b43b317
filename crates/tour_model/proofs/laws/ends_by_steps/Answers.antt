use Rattle.tour_model.specs.Laws.EtaLaws.{eta_full, eta_before}
use Rattle.tour_model.proofs.laws.ends_by_steps.Goals as goal

pub returns : goal.returns
returns c = record { full = eta_full c.args.tour.now; before = eta_before c.args.tour.now }
