use Rattle.std.proofs.Common.{take}
use Rattle.duty_core.specs.RuleBooks.{Keeps}
use Rattle.rule_readings.specs.Broken.{AreBroken}
use Rattle.rule_readings.proofs.broken_rules.broken.Given as goal

abbrev pub invariant-loop-rule : goal.invariant-loop-rule
invariant-loop-rule l = AreBroken (Keeps l.fn.params l.first l.history l.marks) (take l.rule-index l.rule-items) l.rules
