use Rattle.std.proofs.Common.{◌+◌, ◌≤◌, subst, sym}
use Rattle.duty_core.specs.declared.limits.TheConstants.{DAY_MINUTES}
use Rattle.day_sums.specs.Sums.{today}
use Rattle.day_sums.proofs.KeptLaws.{kept_added}
use Rattle.day_sums.proofs.sums.DaySums.add.Goals as goal

pub invariant_of-self : goal.invariant_of-self
invariant_of-self c =
    kept_added c.self.inside.days c.args.n c.self.inside.sums c.self.invariant (subst (λ l. today l + c.args.n ≤ DAY_MINUTES) (sym c.self.view_is) c.requires)
