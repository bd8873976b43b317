use Rattle.duty_core.specs.Laws.CountBaseLaws.{day_on}
use Rattle.duty_core.proofs.DayDuty.{number_is_of_minute, us_minute, canada_minute, australia_minute, number_rises, number_stays, rises_at_first_unit}
use Rattle.duty_core.proofs.laws.days_follow_minutes.Goals as goal

pub returns : goal.returns
returns c = record {
  date = number_is_of_minute c.args.params;
  united_states = us_minute;
  canada = canada_minute;
  australia = australia_minute;
  never_falls = day_on c.args.params;
  rises = number_rises c.args.params;
  stays = number_stays c.args.params;
  first_unit = rises_at_first_unit c.args.params;
}
