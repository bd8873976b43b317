use Rattle.std.proofs.Common.{◌≡◌, true, false, sym, ◌∙◌}
use Rattle.duty_core.specs.Marks.{IsSplitAt}
use Rattle.rule_readings.specs.declared.padded.RestRun.{RestRun}
use Rattle.rule_readings.proofs.DeclaredRuns.{found_last, found_none, leaves_less, leaves_first, runs_rise}
use Rattle.rule_readings.proofs.declared.last_declared.Goals as goal

abbrev empty : RestRun
empty = record { from = 0; to = 0 }

pub ended_by-rest-requires : goal.ended_by-rest-requires
ended_by-rest-requires c = runs_rise c.args.history.now.padded.now c.rest_runs-runs.result.now c.rest_runs-runs.ensures.runs

pub loop-rest-init : goal.loop-rest-init
loop-rest-init c = leaves_first c.args.full (IsSplitAt c.args.history.now.scope.params c.args.history.now.scope.first c.args.history.now.marks.now) c.args.i c.rest_runs-runs.result.now c.ended_by-rest.result c.ended_by-rest.ensures.bound c.ended_by-rest.ensures.first

pub returns-then-is_declared : goal.returns-then-is_declared
returns-then-is_declared c =
    found_last c.args.full c.args.history.now.padded.now (IsSplitAt c.args.history.now.scope.params c.args.history.now.scope.first c.args.history.now.marks.now) c.args.i c.rest_runs-runs.result.now c.loop-rest.rest empty c.rest_runs-runs.ensures.runs c.loop-rest.invariant c.loop-rest-test.true (c.is_declared.ensures.0 c.if-is_declared.true)

pub loop-rest-preserved : goal.loop-rest-preserved
loop-rest-preserved c =
    leaves_less c.args.full (IsSplitAt c.args.history.now.scope.params c.args.history.now.scope.first c.args.history.now.marks.now) c.args.i c.rest_runs-runs.result.now c.loop-rest.rest empty c.loop-rest.invariant c.loop-rest-test.true (λ d. let z : false ≡ true = sym c.if-is_declared.false ∙ c.is_declared.ensures.1 d in cc)

pub returns : goal.returns
returns c =
    found_none c.args.full c.args.history.now.padded.now (IsSplitAt c.args.history.now.scope.params c.args.history.now.scope.first c.args.history.now.marks.now) c.args.i c.rest_runs-runs.result.now c.loop-rest.rest c.rest_runs-runs.ensures.runs c.loop-rest.invariant c.loop-rest-test.false
