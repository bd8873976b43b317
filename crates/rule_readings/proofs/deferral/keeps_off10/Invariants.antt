-- The days so far keep the rule.
use Rattle.std.proofs.Common.{ℕ, ◌<◌, ◌≤◌}
use Rattle.duty_core.specs.Day.{day_number}
use Rattle.duty_core.specs.Marks.{IsDeferred}
use Rattle.duty_core.specs.Deferral.{MeetsCaOff10}
use Rattle.rule_readings.proofs.deferral.keeps_off10.Given as goal

abbrev pub invariant-loop-number : goal.invariant-loop-number
invariant-loop-number l = (j : ℕ) → l.begin ≤ j → j < l.number → MeetsCaOff10 (day_number l.history.scope.params l.history.scope.first) l.history.padded.now (IsDeferred l.history.marks.now) j
