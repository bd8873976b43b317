use Rattle.std.proofs.Common.{◌≡◌, ◌≤◌, ◌<◌, ◌+◌, drop}
use Rattle.report_text.specs.Report.{runs_of, doings, run_lines}
use Rattle.report_text.proofs.RunLines.{HasTold}
use Rattle.report_text.proofs.runs.push_runs.Given as goal

abbrev pub invariant-loop-act : goal.invariant-loop-act
invariant-loop-act l = record {
  step : l.step ≡ l.act-index + 1;
  from : l.from < l.step;
  progress : l.progress ≤ l.step;
  told : HasTold l.tour l.fn.text l.text l.from l.step l.doing (doings l.tour l.progress (drop l.act-index l.others)) (run_lines l.tour 0 (runs_of (doings l.tour 0 l.schedule)));
}
