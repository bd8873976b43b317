use Rattle.us_rules.specs.Laws.Successors.{us_nexts_two, us_advances_two}
use Rattle.us_rules.proofs.laws.successors_are_two_at_most.Goals as goal

pub returns : goal.returns
returns c =
    let book = c.args.book in
    record {
      step = us_nexts_two book.berth book.days book.day_start;
      advance = us_advances_two book.berth book.days book.day_start;
    }
