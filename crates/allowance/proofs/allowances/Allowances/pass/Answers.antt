use Rattle.std.proofs.Common.{sym, ap, subst, ◌∙◌}
use Rattle.std.specs.Prelude.{filter}
use Rattle.allowance.specs.Allow.{IsHeld, is_open, waits}
use Rattle.allowance.specs.Laws.AllowLaws.{held_passed}
use Rattle.allowance.proofs.Steps.{passed_is}
use Rattle.allowance.proofs.Futures.{passes}
use Rattle.allowance.proofs.allowances.Allowances.pass.Goals as goal

pub invariant_of-self : goal.invariant_of-self
invariant_of-self c = subst IsHeld (sym (passed_is (record { limits = c.self.inside.limits.items; needs = c.self.inside.needs.items; run = c.self.inside.run }) c.keep_open.new.limits.items c.keep_waiting.new.needs.items c.saturating_add-self-inside.result c.self.invariant
    (c.keep_open.ensures ∙ ap (filter is_open) c.pass_limits.ensures) c.saturating_add-self-inside.ensures (c.keep_waiting.ensures ∙ ap (filter (waits c.saturating_add-self-inside.result)) c.pass_needs.ensures))) (held_passed (record { limits = c.self.inside.limits.items; needs = c.self.inside.needs.items; run = c.self.inside.run }) c.self.invariant)

pub returns-clause-future : goal.returns-clause-future
returns-clause-future c = passes c.args.self.now (record { limits = c.self.inside.limits.items; needs = c.self.inside.needs.items; run = c.self.inside.run }) (record { limits = c.keep_open.new.limits.items; needs = c.keep_waiting.new.needs.items; run = c.saturating_add-self-inside.result }) (sym c.self.view_is) c.self.invariant
    (passed_is (record { limits = c.self.inside.limits.items; needs = c.self.inside.needs.items; run = c.self.inside.run }) c.keep_open.new.limits.items c.keep_waiting.new.needs.items c.saturating_add-self-inside.result c.self.invariant
    (c.keep_open.ensures ∙ ap (filter is_open) c.pass_limits.ensures) c.saturating_add-self-inside.ensures (c.keep_waiting.ensures ∙ ap (filter (waits c.saturating_add-self-inside.result)) c.pass_needs.ensures))
