use Rattle.std.proofs.Common.{◌≡◌, ◌<◌, length}
use Rattle.rule_core.specs.declared.numbers.TheConstants.{NUMBER_LIMIT}
use Rattle.cert_text.specs.Text.Reading.{digits_at}
use Rattle.cert_text.proofs.text.words.digits.Given as goal

abbrev pub decreases-loop-rest : goal.decreases-loop-rest
decreases-loop-rest l = length l.rest

abbrev pub invariant-loop-rest : goal.invariant-loop-rest
invariant-loop-rest l = record {
  value : digits_at l.number l.rest ≡ digits_at l.first l.bytes;
  below : l.number < NUMBER_LIMIT;
}
