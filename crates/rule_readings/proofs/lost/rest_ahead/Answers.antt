use Rattle.std.proofs.Common.{sym, ◌∙◌, ap, arith}
use Rattle.duty_core.specs.Activity.{rests}
use Rattle.rule_readings.proofs.LostFacts.{from_here, from_all}
use Rattle.rule_readings.proofs.lost.rest_ahead.Goals as goal

pub returns-then-not-is_rest-clause-same : goal.returns-then-not-is_rest-clause-same
returns-then-not-is_rest-clause-same c =
    from_here c.args.padded.now c.args.i c.loop-n.n c.loop-n-test.true c.loop-n.invariant
    (ap rests (sym c.at.ensures) ∙ (sym c.is_rest.ensures ∙ c.if-not-is_rest.true))

pub returns-clause-same : goal.returns-clause-same
returns-clause-same c = from_all c.args.padded.now c.args.i c.loop-n.n (omega arith) c.loop-n.invariant
