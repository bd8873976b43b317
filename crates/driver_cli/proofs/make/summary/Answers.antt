use Rattle.std.proofs.Common.{◌*◌, ◌≤◌, length, sym, subst}
use Rattle.tour_model.specs.declared.limits.TheConstants.{LONGEST_TOUR}
use Rattle.tour_model.specs.Laws.LengthLaws.{serves_short}
use Rattle.tour_plan.specs.Planned.{IsPlanned}
use Rattle.driver_cli.proofs.Stages.{not_lawful}
use Rattle.driver_cli.proofs.make.summary.Goals as goal

-- a schedule of the tour is no longer than a tour may be
pub minutes_of-minutes-requires-clause-short : goal.minutes_of-minutes-requires-clause-short
minutes_of-minutes-requires-clause-short c =
    let tour = c.args.made.now.tour in
    let plan = subst (IsPlanned tour c.args.made.now.log 200000) c.in-Shortest.is c.in_ok-schedule.ensures in
    subst (λ steps. length steps * tour.grid ≤ LONGEST_TOUR) (sym c.items.ensures) (serves_short tour c.requires.tour c.in-Shortest.schedule.steps plan.solves.serves)

-- a made log is lawful
pub unreachable-requires : goal.unreachable-requires
unreachable-requires c =
    let tour = c.args.made.now.tour in
    let log = c.args.made.now.log in
    not_lawful tour log c.in-Unlawful.unit (subst (IsPlanned tour log 200000) c.in-Unlawful.is c.in_ok-schedule.ensures) c.requires.made.lawful
