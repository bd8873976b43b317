use Rattle.std.proofs.Common.{◌≡◌, ◌++◌, replicate}
use Rattle.duty_core.specs.declared.activity.Activity.TheVariants.{Off}
use Rattle.rule_readings.proofs.padded.push_rest.Given as goal

abbrev pub invariant-loop : goal.invariant-loop
invariant-loop l = l.units.items ≡ l.fn.units.items ++ replicate l.counter Off
