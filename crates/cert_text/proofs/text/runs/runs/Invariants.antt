use Rattle.std.proofs.Common.{◌≡◌, ◌-◌}
use Rattle.cert_text.specs.declared.cert.StepRun.{StepRun}
use Rattle.cert_text.specs.Text.Reading.{repeat_at, run_at, after_run, runs_at}
use Rattle.cert_text.proofs.Loop.{with_front}
use Rattle.cert_text.proofs.text.runs.runs.Given as goal

abbrev pub invariant-loop : goal.invariant-loop
invariant-loop l = with_front l.runs (repeat_at (λ (r : StepRun). r) run_at after_run (l.count - l.counter) l.before l.rest) ≡ runs_at l.count l.bytes
