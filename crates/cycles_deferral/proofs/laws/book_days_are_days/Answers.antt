use Rattle.cycles_deferral.specs.Laws.CountryDays.{are_days}
use Rattle.cycles_deferral.proofs.laws.book_days_are_days.Goals as goal

pub returns : goal.returns
returns c = are_days
