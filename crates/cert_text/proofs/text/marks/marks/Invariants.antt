use Rattle.std.proofs.Common.{◌≡◌, ◌-◌}
use Rattle.cert_text.specs.declared.text.marks.Marked.{Marked}
use Rattle.cert_text.specs.Text.Reading.{repeat_at, mark_at, after_mark, marks_at}
use Rattle.cert_text.proofs.Loop.{with_front}
use Rattle.cert_text.proofs.text.marks.marks.Given as goal

abbrev pub invariant-loop-done : goal.invariant-loop-done
invariant-loop-done l = with_front l.marks (repeat_at (λ (m : Marked). m.mark) (mark_at l.params) after_mark (l.count - l.done) (record { least = l.least; left = l.count - l.done }) l.rest) ≡ marks_at l.params l.count l.bytes
