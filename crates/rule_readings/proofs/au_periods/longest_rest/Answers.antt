use Rattle.std.proofs.Common.{ap, sym, ◌∙◌, arith, subst}
use Rattle.duty_core.specs.Activity.{rests}
use Rattle.rule_readings.specs.AuCounts.{IsLongestRest}
use Rattle.rule_readings.proofs.AuRest.{longest_none, longest_rest_more, longest_duty_more}
use Rattle.rule_readings.proofs.au_periods.longest_rest.Goals as goal
use Rattle.rule_readings.proofs.au_periods.longest_rest.Goals.{then-is_rest, else-is_rest}

pub loop-place-init : goal.loop-place-init
loop-place-init c = longest_none c.args.padded.now c.args.from

pub loop-place-preserved : goal.loop-place-preserved
loop-place-preserved c = elim c.if-is_rest.branch [
  | then-is_rest w ↦ longest_rest_more c.args.padded.now c.args.from c.loop-place.place c.loop-place.run c.loop-place.longest c.if-is_rest.run c.max-longest.result
      (sym (ap rests c.at.ensures) ∙ (sym c.is_rest.ensures ∙ w.if-is_rest.true)) w.run-is c.max-longest.ensures c.loop-place.invariant
  | else-is_rest w ↦ longest_duty_more c.args.padded.now c.args.from c.loop-place.place c.loop-place.run c.loop-place.longest c.if-is_rest.run c.max-longest.result
      (sym (ap rests c.at.ensures) ∙ (sym c.is_rest.ensures ∙ w.if-is_rest.false)) w.run-is c.max-longest.ensures c.loop-place.invariant
]

pub returns : goal.returns
returns c = subst (λ to. IsLongestRest c.args.padded.now c.args.from to c.loop-place.longest) (omega arith) c.loop-place.invariant.longest
