use Rattle.std.proofs.Common.{rules}
use Rattle.tour_reader.proofs.FormFacts.{list_of-items_of}
use Rattle.tour_reader.proofs.value.array_of.Goals as goal

pub returns : goal.returns
returns c = search (rules, list_of-items_of)
