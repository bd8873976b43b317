use Rattle.std.proofs.Common.{◌+◌, ◌-◌, ◌≤◌}
use Rattle.rule_readings.proofs.AuNightLoop.{AreNightsYet}
use Rattle.rule_readings.proofs.au_nights.nights_in.Given as goal

abbrev pub invariant-loop-midnight : goal.invariant-loop-midnight
invariant-loop-midnight l = record { yet : AreNightsYet l.first l.padded l.place l.units l.midnight l.broken l.consecutive l.last; near : l.midnight ≤ l.end + 104 }

abbrev pub decreases-loop-midnight : goal.decreases-loop-midnight
decreases-loop-midnight l = l.end + 1 - l.midnight
