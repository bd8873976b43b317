use Rattle.std.proofs.Common.{◌≡◌, ◌-◌}
use Rattle.rule_core.specs.declared.numbers.TheConstants.{MOST_NUMBERS}
use Rattle.cert_text.specs.Text.Reading.{numbers_at}
use Rattle.cert_text.proofs.Loop.{with_front}
use Rattle.cert_text.proofs.text.layers.numbers.Given as goal

abbrev pub invariant-loop : goal.invariant-loop
invariant-loop l = with_front l.numbers (numbers_at (MOST_NUMBERS - l.counter) l.rest) ≡ numbers_at MOST_NUMBERS l.bytes
