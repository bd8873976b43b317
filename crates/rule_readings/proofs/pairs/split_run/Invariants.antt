use Rattle.std.proofs.Common.{ℕ, ◌<◌, get_or}
use Rattle.rule_readings.specs.declared.padded.RestRun.{RestRun}
use Rattle.rule_readings.specs.Pairs.{NamesSplit}
use Rattle.rule_readings.proofs.pairs.split_run.Given as goal

abbrev pub invariant-loop-run : goal.invariant-loop-run
invariant-loop-run l =
    (k : ℕ) (e : RestRun) → k < l.run-index → NamesSplit l.history.scope.params l.history.scope.first l.least l.full l.history.padded.now l.at (get_or l.run-items k e).from (get_or l.run-items k e).to → ⊥
