use Rattle.std.proofs.Common.{◌≡◌, true, false, get_or, refl, arith}
use Rattle.duty_core.specs.Day.{day_number}
use Rattle.rule_readings.specs.declared.padded.RestRun.{RestRun}
use Rattle.rule_readings.proofs.RestInDay.{open_gives, run_gives, none_gives}
use Rattle.rule_readings.proofs.deferral.has_rest_in.Goals as goal

pub returns-then-open_rest-end : goal.returns-then-open_rest-end
returns-then-open_rest-end c = (
  λ t. open_gives (day_number c.args.params c.args.first) c.args.padded.now c.args.least c.args.number c.day_begin-begin.result c.day_begin-end.result c.open_rest.result
      c.day_begin-begin.ensures c.day_begin-end.ensures c.requires.some (omega arith) c.open_rest.ensures (omega arith),
  λ h. refl,
)

pub returns-then-is_run_in : goal.returns-then-is_run_in
returns-then-is_run_in c =
    let d : RestRun = record { from = 0; to = 0 } in
    let run = get_or c.rest_runs-run-items.result.now c.loop-run.run-index d in (
      λ t. run_gives (day_number c.args.params c.args.first) c.args.padded.now c.args.least c.args.number c.day_begin-begin.result c.day_begin-end.result run
          c.day_begin-begin.ensures c.day_begin-end.ensures (omega arith) (c.rest_runs-run-items.ensures.runs.each c.loop-run.run-index d (omega arith)) (c.if-is_run_in.ensures.0 refl),
      λ h. refl,
    )

pub returns : goal.returns
returns c = (
  λ t. absurd (let z : false ≡ true = t in cc),
  λ h. absurd (none_gives (day_number c.args.params c.args.first) c.args.padded.now c.args.least c.args.number c.day_begin-begin.result c.day_begin-end.result c.open_rest.result c.rest_runs-run-items.result.now
      c.day_begin-begin.ensures c.day_begin-end.ensures c.open_rest.ensures (omega arith) c.rest_runs-run-items.ensures.runs (λ k d l. c.loop-run.invariant k d (omega arith)) h),
)
