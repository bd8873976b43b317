use Rattle.std.proofs.Common.{◌≡◌, ◌++◌, ℕ, List, take}
use Rattle.cert_text.specs.Text.Spelling.{AreMarkLines}
use Rattle.cert_text.proofs.text.write.put_marks.Given as goal

abbrev pub invariant-loop-mark : goal.invariant-loop-mark
invariant-loop-mark l = (text : List ℕ) × AreMarkLines l.params (take l.mark-index l.marks) text × (l.out.items ≡ l.fn.out.items ++ text)
