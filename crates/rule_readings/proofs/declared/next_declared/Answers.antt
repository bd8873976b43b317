use Rattle.std.proofs.Common.{◌≡◌, true, false, sym, ◌∙◌, arith}
use Rattle.duty_core.specs.Marks.{IsSplitAt}
use Rattle.rule_readings.specs.declared.padded.RestRun.{RestRun}
use Rattle.rule_readings.proofs.DeclaredRuns.{runs_rise}
use Rattle.rule_readings.proofs.NextDeclared.{skips_first, skips_found, skips_more, skips_all}
use Rattle.rule_readings.proofs.declared.next_declared.Goals as goal

abbrev empty : RestRun
empty = record { from = 0; to = 0 }

pub ended_by-next-requires : goal.ended_by-next-requires
ended_by-next-requires c = runs_rise c.args.history.now.padded.now c.rest_runs-runs.result.now c.rest_runs-runs.ensures.runs

pub loop-next-init : goal.loop-next-init
loop-next-init c = skips_first c.args.full (IsSplitAt c.args.history.now.scope.params c.args.history.now.scope.first c.args.history.now.marks.now) c.args.i c.rest_runs-runs.result.now c.ended_by-next.result c.ended_by-next.ensures.first

pub returns-then-is_declared : goal.returns-then-is_declared
returns-then-is_declared c =
    skips_found c.args.full c.args.history.now.padded.now (IsSplitAt c.args.history.now.scope.params c.args.history.now.scope.first c.args.history.now.marks.now) c.args.i c.rest_runs-runs.result.now c.loop-next.next empty c.rest_runs-runs.ensures.runs c.loop-next.invariant c.loop-next-test.true
    (c.is_declared.ensures.0 c.if-is_declared.true)

pub loop-next-preserved : goal.loop-next-preserved
loop-next-preserved c =
    skips_more c.args.full (IsSplitAt c.args.history.now.scope.params c.args.history.now.scope.first c.args.history.now.marks.now) c.args.i c.rest_runs-runs.result.now c.loop-next.next empty c.loop-next.invariant c.loop-next-test.true
    (λ d. let z : false ≡ true = sym c.if-is_declared.false ∙ c.is_declared.ensures.1 d in cc)

pub returns : goal.returns
returns c =
    skips_all c.args.full c.args.history.now.padded.now (IsSplitAt c.args.history.now.scope.params c.args.history.now.scope.first c.args.history.now.marks.now) c.args.i c.rest_runs-runs.result.now c.loop-next.next c.rest_runs-runs.ensures.runs c.loop-next.invariant
    (let l = c.loop-next-test.false in omega arith)
