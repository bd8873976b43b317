use Rattle.std.proofs.Common.{sym}
use Rattle.std.proofs.lemmas.Bool.{and_parts}
use Rattle.allowance.proofs.Steps.{spent_is}
use Rattle.allowance.proofs.Futures.{spends, spends_alone, spends_not}
use Rattle.allowance.proofs.allowances.Allowances.spend.Goals as goal

pub invariant_of-self : goal.invariant_of-self
invariant_of-self c =
    let b = and_parts _ _ (sym c.if-not-may_spend_both.ensures) in
    spent_is (record { limits = c.self.inside.limits.items; needs = c.self.inside.needs.items; run = c.self.inside.run }) c.spend_limits.new.limits.items c.pass_needs.new.needs.items c.self.invariant b.0 b.1 c.spend_limits.ensures c.pass_needs.ensures

pub returns-then-not-may_spend_both-clause-future : goal.returns-then-not-may_spend_both-clause-future
returns-then-not-may_spend_both-clause-future c = spends_not c.args.self.now (record { limits = c.self.inside.limits.items; needs = c.self.inside.needs.items; run = c.self.inside.run }) (sym c.self.view_is) c.self.invariant (sym c.if-not-may_spend_both.ensures)

pub returns-clause-future : goal.returns-clause-future
returns-clause-future c = spends c.args.self.now (record { limits = c.self.inside.limits.items; needs = c.self.inside.needs.items; run = c.self.inside.run }) c.spend_limits.new.limits.items c.pass_needs.new.needs.items (sym c.self.view_is) c.self.invariant (sym c.if-not-may_spend_both.ensures) c.spend_limits.ensures c.pass_needs.ensures

pub returns-then-not-may_spend_both-clause-alone : goal.returns-then-not-may_spend_both-clause-alone
returns-then-not-may_spend_both-clause-alone c = spends_alone c.args.self.now (record { limits = c.self.inside.limits.items; needs = c.self.inside.needs.items; run = c.self.inside.run }) _ (sym c.self.view_is) c.self.invariant (sym c.if-not-may_spend_both.ensures)

pub returns-clause-alone : goal.returns-clause-alone
returns-clause-alone c = spends_alone c.args.self.now (record { limits = c.self.inside.limits.items; needs = c.self.inside.needs.items; run = c.self.inside.run }) _ (sym c.self.view_is) c.self.invariant (sym c.if-not-may_spend_both.ensures)
