use Rattle.std.proofs.Common.{[]}
use Rattle.duty_core.specs.Laws.RestLaws.{empty_keeps}
use Rattle.duty_core.proofs.laws.empty_is_lawful.Goals as goal

pub returns : goal.returns
returns c = record {
  kept = empty_keeps c.args.params;
  lawful = λ first. record { marks = []; keeps = empty_keeps c.args.params first };
}
