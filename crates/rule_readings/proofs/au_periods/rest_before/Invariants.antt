use Rattle.std.proofs.Common.{◌-◌}
use Rattle.duty_core.specs.Stretch.{IsRest}
use Rattle.rule_readings.proofs.au_periods.rest_before.Given as goal

abbrev pub invariant-loop-rested : goal.invariant-loop-rested
invariant-loop-rested l = IsRest l.padded (l.place - l.rested) l.place
