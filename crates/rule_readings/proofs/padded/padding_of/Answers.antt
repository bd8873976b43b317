use Rattle.std.proofs.Common.{arith}
use Rattle.rule_readings.proofs.Counts.{padding_value, padding_short}
use Rattle.rule_readings.proofs.padded.padding_of.Goals as goal

pub returns : goal.returns
returns c =
    let e = padding_value c.args.params c.unit_of.result c.unit_of.ensures in
    let l = padding_short c.args.params in
    record { value = e; bound = omega arith }
