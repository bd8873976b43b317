use Rattle.std.proofs.Common.{◌≡◌, ◌+◌, ◌==◌, take}
use Rattle.std.specs.List.{count_by}
use Rattle.cert_text.proofs.text.read.line_of.Given as goal

abbrev pub invariant-loop-byte : goal.invariant-loop-byte
invariant-loop-byte l = l.line ≡ 1 + count_by (λ b. b == 10) (take l.byte-index l.before)
