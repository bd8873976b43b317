use Rattle.std.proofs.Common.{ℕ, ◌<◌}
use Rattle.duty_core.specs.AuNights.{MeetsAu14dNights}
use Rattle.rule_readings.proofs.au_nights.keeps_nights.Given as goal

abbrev pub invariant-loop-place : goal.invariant-loop-place
invariant-loop-place l = (i : ℕ) → i < l.place → MeetsAu14dNights l.first l.padded i
