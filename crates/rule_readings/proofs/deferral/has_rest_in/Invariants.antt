-- No run so far is long enough and in the day.
use Rattle.std.proofs.Common.{ℕ, ◌<◌, get_or}
use Rattle.rule_readings.specs.declared.padded.RestRun.{RestRun}
use Rattle.rule_readings.specs.Deferring.{HasRunIn}
use Rattle.rule_readings.proofs.deferral.has_rest_in.Given as goal

abbrev pub invariant-loop-run : goal.invariant-loop-run
invariant-loop-run l = (k : ℕ) (d : RestRun) → k < l.run-index → HasRunIn l.least l.begin l.end (get_or l.run-items k d) → ⊥
