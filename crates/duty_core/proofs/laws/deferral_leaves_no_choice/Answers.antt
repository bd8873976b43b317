use Rattle.duty_core.specs.Laws.MarkLaws.{defer_days, defer_one_list}
use Rattle.duty_core.proofs.laws.deferral_leaves_no_choice.Goals as goal

pub returns : goal.returns
returns c = record {
  days = defer_days c.args.params;
  one = defer_one_list c.args.params;
}
