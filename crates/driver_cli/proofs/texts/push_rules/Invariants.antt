use Rattle.std.proofs.Common.{◌≡◌, ◌++◌, take}
use Rattle.driver_cli.specs.Texts.{rule_words}
use Rattle.driver_cli.proofs.texts.push_rules.Given as goal

abbrev pub invariant-loop-rule : goal.invariant-loop-rule
invariant-loop-rule l = l.text ≡ l.fn.text ++ rule_words (take l.rule-index l.rules)
