use Rattle.std.proofs.Common.{arith}
use Rattle.rule_readings.proofs.PairRuns.{none_split}
use Rattle.rule_readings.proofs.pairs.split_run.Goals as goal

pub returns : goal.returns
returns c =
    none_split c.args.history.now.scope.params c.args.history.now.scope.first c.args.least c.args.full c.args.history.now.padded.now c.args.at c.rest_runs-run-items.result.now c.rest_runs-run-items.ensures.runs
    (λ k e l. c.loop-run.invariant k e (omega arith))
