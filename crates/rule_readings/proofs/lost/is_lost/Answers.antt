use Rattle.std.proofs.Common.{◌≡◌, ◌+◌, false, refl, sym, ◌∙◌, arith}
use Rattle.std.specs.Prelude.{nat_lt}
use Rattle.std.proofs.lemmas.Bool.Decides.{nat_tests}
use Rattle.duty_core.specs.declared.limits.TheConstants.{CA_BLOCK_LEAST}
use Rattle.duty_core.specs.LostMinutes.{rest_from}
use Rattle.rule_readings.proofs.LostFacts.{lost_of_duty, lost_of_rest}
use Rattle.rule_readings.proofs.lost.is_lost.Goals as goal

pub returns-then-is_duty : goal.returns-then-is_duty
returns-then-is_duty c =
    sym (lost_of_duty c.args.padded.now c.args.i c.at.result c.at.ensures (sym c.is_duty.ensures ∙ c.if-is_duty.true))

-- half an hour of rest before it is enough
pub returns-then-before-ge-CA_BLOCK_LEAST : goal.returns-then-before-ge-CA_BLOCK_LEAST
returns-then-before-ge-CA_BLOCK_LEAST c =
    let m = rest_from c.args.padded.now CA_BLOCK_LEAST c.args.i in
    let l = c.if-before-ge-CA_BLOCK_LEAST.true in
    let e : nat_lt (c.args.before + m) CA_BLOCK_LEAST ≡ false = grind (arith, nat_tests) in
    sym e ∙ lost_of_rest c.args.padded.now c.args.i c.args.before m c.at.result c.at.ensures (sym c.is_duty.ensures ∙ c.if-is_duty.false) c.requires.before refl

pub returns : goal.returns
returns c =
    lost_of_rest c.args.padded.now c.args.i c.args.before c.rest_ahead.result c.at.result c.at.ensures (sym c.is_duty.ensures ∙ c.if-is_duty.false) c.requires.before c.rest_ahead.ensures.same
