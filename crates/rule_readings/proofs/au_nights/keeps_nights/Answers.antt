use Rattle.std.proofs.Common.{refl, arith}
use Rattle.rule_readings.proofs.RuleLaws.{start_inside}
use Rattle.rule_readings.proofs.au_nights.keeps_nights.Goals as goal

pub returns : goal.returns
returns c = (
  (λ t i s. let l = start_inside _ c.args.padded.now i s in let e = c.len-place-end.ensures.value in c.loop-place.invariant i (omega arith) s),
  (λ h. refl),
)
