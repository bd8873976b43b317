use Rattle.duty_core.proofs.DayDuty.{day_duty_told, one_day_duty, day_duty_grows, day_duty_anew, day_duty_most}
use Rattle.duty_core.proofs.laws.duty_starts_anew_each_day.Goals as goal

pub returns : goal.returns
returns c = record {
  told = day_duty_told c.args.params;
  one = one_day_duty c.args.params;
  grows = day_duty_grows c.args.params;
  anew = day_duty_anew c.args.params;
  most = day_duty_most c.args.params;
}
