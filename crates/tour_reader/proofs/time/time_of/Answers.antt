use Rattle.std.proofs.Common.{rules}
use Rattle.civil_minutes.specs.Laws.TimeOfLaws.{read_time}
use Rattle.tour_reader.proofs.time.time_of.Goals as goal

pub returns : goal.returns
returns c = search (rules, read_time)
