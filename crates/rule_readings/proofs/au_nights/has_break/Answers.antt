use Rattle.std.proofs.Common.{◌≡◌, ◌-◌, ◌+◌, subst, refl, arith, inl, inr}
use Rattle.std.proofs.lemmas.Bool.{iff_false}
use Rattle.duty_core.specs.declared.limits.TheConstants.{AU_NIGHT_BEFORE, AU_NIGHT_AFTER}
use Rattle.rule_readings.specs.AuCounts.{IsLongestRest}
use Rattle.rule_readings.proofs.AuNightLaws.{break_cases, break_inside, break_across}
use Rattle.rule_readings.proofs.au_nights.has_break.Goals as goal

pub returns-then-is_long_inside : goal.returns-then-is_long_inside
returns-then-is_long_inside c =
    let from : c.saturating_sub-begins.result ≡ c.args.midnight - AU_NIGHT_BEFORE = omega arith in
    let l : IsLongestRest c.args.padded.now (c.args.midnight - AU_NIGHT_BEFORE) (c.args.midnight + AU_NIGHT_AFTER) c.longest_rest-inside.result =
    subst (λ f. IsLongestRest c.args.padded.now f (c.args.midnight + AU_NIGHT_AFTER) c.longest_rest-inside.result) from c.longest_rest-inside.ensures in
    ((λ t. break_inside c.args.padded.now c.args.midnight c.longest_rest-inside.result l (c.is_long_inside.ensures.0 c.if-is_long_inside.true)), (λ h. refl))

pub returns : goal.returns
returns c =
    let from : c.saturating_sub-begins.result ≡ c.args.midnight - AU_NIGHT_BEFORE = omega arith in
    let l : IsLongestRest c.args.padded.now (c.args.midnight - AU_NIGHT_BEFORE) (c.args.midnight + AU_NIGHT_AFTER) c.longest_rest-inside.result =
    subst (λ f. IsLongestRest c.args.padded.now f (c.args.midnight + AU_NIGHT_AFTER) c.longest_rest-inside.result) from c.longest_rest-inside.ensures in (
      (λ t. break_across c.args.padded.now c.args.midnight c.rest_before-before.result c.rest_after-after.result c.rest_before-before.ensures c.rest_after-after.ensures (c.is_long_across.ensures.0 t)),
      (λ h. elim (break_cases c.args.padded.now c.args.midnight c.longest_rest-inside.result c.rest_before-before.result c.rest_after-after.result l c.rest_before-before.ensures c.rest_after-after.ensures h) [
        | inl x ↦ absurd (iff_false c.is_long_inside.ensures c.if-is_long_inside.false x)
        | inr x ↦ c.is_long_across.ensures.1 x
      ]),
    )
