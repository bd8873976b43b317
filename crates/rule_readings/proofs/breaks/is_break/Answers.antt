use Rattle.std.proofs.Common.{eq-eqb}
use Rattle.std.proofs.lemmas.Bool.{eqb-true}
use Rattle.rule_readings.proofs.BreakLaws.{break_counted}
use Rattle.rule_readings.proofs.breaks.is_break.Goals as goal

pub returns-then-to-ge-US_BREAK : goal.returns-then-to-ge-US_BREAK
returns-then-to-ge-US_BREAK c =
    let b = break_counted c.args.padded.now c.args.to c.driving.result c.if-to-ge-US_BREAK.true c.driving.ensures in
    ((λ e. b.0 (eqb-true c.driving.result 0 e)), (λ h. eq-eqb c.driving.result 0 (b.1 h)))
