use Rattle.duty_core.specs.Laws.BookLaws.{front_keeps, front_lawful}
use Rattle.duty_core.proofs.laws.front_is_lawful.Goals as goal

pub returns : goal.returns
returns c = record {
  kept = front_keeps c.args.params;
  lawful = front_lawful c.args.params;
}
