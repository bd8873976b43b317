use Rattle.duty_core.specs.Laws.BookLaws.{rest_keeps}
use Rattle.duty_core.proofs.laws.rest_after_is_lawful.Goals as goal

pub returns : goal.returns
returns c = record {
  kept = λ first h rest marks all k. rest_keeps c.args.params first h rest marks all k;
  lawful = λ first h rest all l. record { marks = l.marks; keeps = rest_keeps c.args.params first h rest l.marks all l.keeps };
}
