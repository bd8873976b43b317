use Rattle.std.proofs.Common.{◌+◌, ◌*◌, ap, arith}
use Rattle.rule_readings.proofs.DeclaredRuns.{minute_is}
use Rattle.rule_readings.proofs.declared.minute_at.Goals as goal

pub returns : goal.returns
returns c =
    let e = ap (λ u. c.args.first + u * c.args.place) c.unit_of.ensures in
    let l = c.requires.late in
    (minute_is c.args.params c.args.first c.args.place _).1 (omega arith)
