use Rattle.std.proofs.Common.{[], subst}
use Rattle.allowance.specs.Allow.{Allows}
use Rattle.allowance.specs.Laws.AllowLaws.{allows_none}
use Rattle.allowance.proofs.allowances.Allowances.allow_rest.Goals as goal

pub returns : goal.returns
returns c = subst (λ h. Allows h []) c.self.view_is (allows_none (record { limits = c.self.inside.limits.items; needs = c.self.inside.needs.items; run = c.self.inside.run }) c.self.invariant)
