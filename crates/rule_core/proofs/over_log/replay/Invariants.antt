use Rattle.rule_core.proofs.ReplayLaws.{IsReplaying, place}
use Rattle.rule_core.proofs.over_log.replay.Given as goal

-- the roots of the log up to the runs that are gone over
abbrev pub invariant-loop-run : goal.invariant-loop-run
invariant-loop-run g l = IsReplaying (g.B.RuleBook.machine l.book).params (g.B.RuleBook.machine l.book) l.first l.log (place l.runs l.run-index) l.roots
