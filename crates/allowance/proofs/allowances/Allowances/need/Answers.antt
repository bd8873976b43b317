use Rattle.std.proofs.Common.{sym, ap, arith}
use Rattle.allowance.specs.Allow.{IsOpenNeed}
use Rattle.allowance.proofs.Steps.{needed_is}
use Rattle.allowance.proofs.Futures.{needs_more}
use Rattle.allowance.proofs.allowances.Allowances.need.Goals as goal

pub invariant_of-self : goal.invariant_of-self
invariant_of-self c =
    let same = ap (λ h. h.run) c.self.view_is in
    let open_need : IsOpenNeed c.self.inside.run (record { units = c.args.units; rest = c.args.rest }) = record { waits = omega arith; can = omega arith; fits = omega arith } in
    needed_is c.add_need.result (record { limits = c.self.inside.limits.items; needs = c.self.inside.needs.items; run = c.self.inside.run }) (record { units = c.args.units; rest = c.args.rest }) c.add_need.new.needs.items c.self.invariant open_need c.add_need.ensures.ok c.add_need.ensures.err

pub returns-clause-future : goal.returns-clause-future
returns-clause-future c = needs_more c.add_need.result c.args.self.now (record { limits = c.self.inside.limits.items; needs = c.self.inside.needs.items; run = c.self.inside.run }) (record { units = c.args.units; rest = c.args.rest }) c.add_need.new.needs.items (sym c.self.view_is) c.add_need.ensures.ok
