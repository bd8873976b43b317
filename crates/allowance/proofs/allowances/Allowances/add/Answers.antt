use Rattle.std.proofs.Common.{sym}
use Rattle.allowance.proofs.Steps.{added_is}
use Rattle.allowance.proofs.Futures.{adds}
use Rattle.allowance.proofs.allowances.Allowances.add.Goals as goal

pub invariant_of-self : goal.invariant_of-self
invariant_of-self c = added_is c.add_limit.result (record { limits = c.self.inside.limits.items; needs = c.self.inside.needs.items; run = c.self.inside.run }) (record { units = c.args.units; duty = c.args.duty }) c.add_limit.new.limits.items c.self.invariant c.add_limit.ensures.ok c.add_limit.ensures.err

pub returns-clause-future : goal.returns-clause-future
returns-clause-future c = adds c.add_limit.result c.args.self.now (record { limits = c.self.inside.limits.items; needs = c.self.inside.needs.items; run = c.self.inside.run }) (record { units = c.args.units; duty = c.args.duty }) c.add_limit.new.limits.items (sym c.self.view_is) c.add_limit.ensures.ok
