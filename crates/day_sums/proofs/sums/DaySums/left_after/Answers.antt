use Rattle.std.proofs.Common.{◌^◌, ◌<◌, take, subst, sym}
use Rattle.std.specs.Prelude.{sum}
use Rattle.day_sums.proofs.KeptLaws.{sums_fit}
use Rattle.day_sums.proofs.sums.DaySums.left_after.Goals as goal

pub sum_of-requires : goal.sum_of-requires
sum_of-requires c = subst (λ l. sum (take c.saturating_sub-days.result l) < 2 ^ 32) (sym c.sums.ensures.sums) (sums_fit c.args.self.now c.saturating_sub-days.result c.sums.ensures.kept)
