use Rattle.rule_readings.proofs.AuRest.{IsLongestYet}
use Rattle.rule_readings.proofs.au_periods.longest_rest.Given as goal

abbrev pub invariant-loop-place : goal.invariant-loop-place
invariant-loop-place l = IsLongestYet l.padded l.from l.place l.run l.longest
