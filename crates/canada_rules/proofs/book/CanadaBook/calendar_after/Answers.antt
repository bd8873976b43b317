use Rattle.std.proofs.Common.{◌∙◌}
use Rattle.canada_rules.specs.Laws.Stretch.{calendar_run_one}
use Rattle.canada_rules.proofs.book.CanadaBook.calendar_after.Goals as goal

-- one minute is one
pub returns : goal.returns
returns c = c.calendar_run.ensures ∙ calendar_run_one c.args.self.now.day_start c.args.calendar.now c.args.at c.args.act
