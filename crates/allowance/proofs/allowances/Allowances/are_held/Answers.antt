use Rattle.std.proofs.Common.{◌≡◌, true, subst}
use Rattle.allowance.specs.Allow.{is_held}
use Rattle.allowance.specs.Laws.AllowLaws.{held_test}
use Rattle.allowance.proofs.allowances.Allowances.are_held.Goals as goal

pub returns-clause-test : goal.returns-clause-test
returns-clause-test c = subst (λ h. is_held h ≡ true) c.self.view_is (held_test (record { limits = c.self.inside.limits.items; needs = c.self.inside.needs.items; run = c.self.inside.run }) c.self.invariant)
