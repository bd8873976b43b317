use Rattle.std.proofs.Common.{arith}
use Rattle.duty_core.specs.Day.{day_number}
use Rattle.duty_core.specs.Laws.UniqueLaws.{last_end_unique, last_break_unique, days_base_unique, first_of_days_unique}
use Rattle.duty_core.specs.Laws.CountBaseLaws.{has_base_at, one_base_at, has_end_at, has_days_at, has_first_at, has_break_at}
use Rattle.duty_core.proofs.laws.counts_have_one_base.Goals as goal

pub returns : goal.returns
returns c = record {
  base = has_base_at c.args.params;
  one_base = one_base_at c.args.params;
  last_end = has_end_at c.args.params;
  one_end = last_end_unique;
  last_break = has_break_at c.args.params;
  one_break = last_break_unique;
  days = has_days_at c.args.params;
  one_days = λ first. days_base_unique (day_number c.args.params first);
  first_of_day = λ first i. has_first_at c.args.params first 1 i (omega arith);
  one_first = λ first. first_of_days_unique (day_number c.args.params first) 1;
}
