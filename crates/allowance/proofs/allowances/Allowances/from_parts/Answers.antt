use Rattle.std.proofs.Common.{sym, subst}
use Rattle.allowance.specs.Allow.{IsHeld}
use Rattle.allowance.specs.Laws.AllowLaws.{held_from}
use Rattle.allowance.proofs.allowances.Allowances.from_parts.Goals as goal

pub invariant_of-result : goal.invariant_of-result
invariant_of-result c =
    subst (λ ps. IsHeld (record { limits = ps; needs = c.in_ok-from_slice-2.field-0.items; run = c.args.run })) (sym c.in_ok-from_slice.ensures.ok)
    (subst (λ ns. IsHeld (record { limits = c.args.limits.now; needs = ns; run = c.args.run })) (sym c.in_ok-from_slice-2.ensures.ok)
    (held_from c.args.limits.now c.args.needs.now c.args.run (sym c.if-not-are_open.ensures) (sym c.if-not-are_open_needs.ensures)))
