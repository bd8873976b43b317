use Rattle.cycles_deferral.specs.DayMachine.{days_begun}
use Rattle.cycles_deferral.specs.DayCovers.{DaysCover}
use Rattle.canada_rules.specs.Covers.{days_cover}
use Rattle.canada_rules.specs.Laws.Covers.{days_decide, tests_agree}
use Rattle.canada_rules.proofs.covers.days_cover.Goals as goal

pub returns : goal.returns
returns c =
    let a = days_begun c.args.new_day c.args.a in
    let b = days_begun c.args.new_day c.args.b in
    tests_agree c.covers.result (days_cover a b) (DaysCover a b) c.covers.ensures (days_decide a b)
