use Rattle.std.proofs.Common.{◌-◌, get_or, inl, inr, arith}
use Rattle.rule_readings.specs.declared.padded.RestRun.{RestRun}
use Rattle.rule_readings.proofs.DeclaredRuns.{found_last, found_none, leaves_less, leaves_first, runs_rise}
use Rattle.rule_readings.proofs.DayBases.{Unmarked, end_of_unmarked}
use Rattle.rule_readings.proofs.days.last_end.Goals as goal

abbrev empty : RestRun
empty = record { from = 0; to = 0 }

pub ended_by-rest-requires : goal.ended_by-rest-requires
ended_by-rest-requires c = runs_rise c.args.padded.now c.rest_runs-runs.result.now c.rest_runs-runs.ensures.runs

pub loop-rest-init : goal.loop-rest-init
loop-rest-init c = leaves_first c.args.least Unmarked c.args.i c.rest_runs-runs.result.now c.ended_by-rest.result c.ended_by-rest.ensures.bound c.ended_by-rest.ensures.first

pub loop-rest-preserved : goal.loop-rest-preserved
loop-rest-preserved c =
    leaves_less c.args.least Unmarked c.args.i c.rest_runs-runs.result.now c.loop-rest.rest empty c.loop-rest.invariant c.loop-rest-test.true (λ d. elim d [ inl l ↦ omega arith | inr l ↦ l ])

pub returns : goal.returns
returns c = λ a b l m. found_none c.args.least c.args.padded.now Unmarked c.args.i c.rest_runs-runs.result.now c.loop-rest.rest c.rest_runs-runs.ensures.runs c.loop-rest.invariant c.loop-rest-test.false a b (inl l) m

pub returns-then-saturating_sub-least : goal.returns-then-saturating_sub-least
returns-then-saturating_sub-least c =
    let runs = c.rest_runs-runs.result.now in
    let run = get_or runs (c.loop-rest.rest - 1) empty in
    let n = c.loop-rest.invariant.in_range in
    let l = c.loop-rest-test.true in
    let s = (c.rest_runs-runs.ensures.runs.each (c.loop-rest.rest - 1) empty (omega arith)).some in
    let t = c.if-saturating_sub-least.true in
    let u = c.saturating_sub.ensures in
    end_of_unmarked c.args.least c.args.padded.now c.args.i run.from run.to
    (found_last c.args.least c.args.padded.now Unmarked c.args.i runs c.loop-rest.rest empty c.rest_runs-runs.ensures.runs c.loop-rest.invariant l (inl (omega arith)))
