use Rattle.std.proofs.Common.{◌^◌, ◌<◌, subst, sym}
use Rattle.std.specs.Prelude.{sum}
use Rattle.day_sums.proofs.KeptLaws.{sum_fits}
use Rattle.day_sums.proofs.sums.DaySums.total.Goals as goal

pub sum_of-requires : goal.sum_of-requires
sum_of-requires c = subst (λ l. sum l < 2 ^ 32) (sym c.sums.ensures.sums) (sum_fits c.args.self.now c.sums.ensures.kept)
