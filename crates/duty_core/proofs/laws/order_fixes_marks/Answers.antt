use Rattle.duty_core.specs.Laws.MarkListLaws.{marks_in_order, same_marks}
use Rattle.duty_core.proofs.laws.order_fixes_marks.Goals as goal

pub returns : goal.returns
returns c = record {
  in_order = marks_in_order c.args.params;
  one = λ marks others g h same. same_marks c.args.params marks others g h (λ m. (same m).0) (λ m. (same m).1);
}
