use Rattle.std.proofs.Common.{◌≡◌, Ok, Err, ap, sym, ◌∙◌}
use Rattle.tour_reader.specs.Tour.{tour_of}
use Rattle.made_tours.specs.Drawn.{tour_drawn}
use Rattle.made_tours.proofs.TourTexts.{tour_says}
use Rattle.made_tours.proofs.made.tour_said.Goals as goal

pub returns-in-Ok-clause-drawn : goal.returns-in-Ok-clause-drawn
returns-in-Ok-clause-drawn c =
    let read = c.in-Ok.ensures.tour in
    let said = ap tour_of c.requires ∙ tour_says c.args.n in
    let same : Ok c.in-Ok.tour ≡ Ok (tour_drawn c.args.n) = sym read ∙ said in
    cc

pub no_tour_memory-requires : goal.no_tour_memory-requires
no_tour_memory-requires c = λ other.
    (let read = c.in-Err.ensures.fault other in
    let said = ap tour_of c.requires ∙ tour_says c.args.n in
    let same : Err c.in-Err.fault ≡ Ok (tour_drawn c.args.n) = sym read ∙ said in
    cc)
