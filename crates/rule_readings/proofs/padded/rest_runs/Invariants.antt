use Rattle.std.proofs.Common.{◌≡◌}
use Rattle.rule_readings.proofs.RestRuns.{AreRunsBefore}
use Rattle.rule_readings.proofs.padded.rest_runs.Given as goal

abbrev pub invariant-loop-unit : goal.invariant-loop-unit
invariant-loop-unit l = (l.to ≡ l.unit-index) × AreRunsBefore l.units l.to l.from l.runs.items
