-- the readings of the rules so far
use Rattle.std.proofs.Common.{take}
use Rattle.duty_core.specs.History.{padded}
use Rattle.rule_readings.specs.Readings.{IsReadingFound, scope_of}
use Rattle.rule_readings.proofs.ReadingLoop.{AreReadingsOf}
use Rattle.rule_readings.proofs.book_readings.readings.Given as goal

abbrev pub invariant-loop-rule : goal.invariant-loop-rule
invariant-loop-rule l = AreReadingsOf (IsReadingFound (scope_of l.fn.params l.first l.history l.planned_from) (padded l.fn.params l.history) l.marks) (take l.rule-index l.rule-items) l.readings
