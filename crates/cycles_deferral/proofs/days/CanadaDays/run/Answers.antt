use Rattle.std.proofs.Common.{◌∙◌, ap, w32}
use Rattle.std.proofs.lemmas.Int.{to_z-of_z}
use Rattle.cycles_deferral.specs.DayMachine.{days_begun}
use Rattle.cycles_deferral.specs.DayRuns.{days_at_once}
use Rattle.cycles_deferral.specs.Laws.DayRuns.{days_run_at_once}
use Rattle.cycles_deferral.proofs.days.CanadaDays.run.Goals as goal

-- many minutes at once are what they are one by one
pub returns-clause-days : goal.returns-clause-days
returns-clause-days c =
    c.on.ensures.days
    ∙ (ap (λ d. days_at_once (days_begun c.args.new_day c.args.self) c.args.act d c.args.n) (to_z-of_z w32 c.args.day c.ranges.day)
    ∙ days_run_at_once c.args.self c.args.act c.args.new_day c.args.day c.args.n c.requires.some)
