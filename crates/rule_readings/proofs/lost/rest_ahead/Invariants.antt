-- The places so far are rest.
use Rattle.std.proofs.Common.{◌+◌}
use Rattle.duty_core.specs.Stretch.{IsRest}
use Rattle.rule_readings.proofs.lost.rest_ahead.Given as goal

abbrev pub invariant-loop-n : goal.invariant-loop-n
invariant-loop-n l = IsRest l.padded l.i (l.i + l.n)
