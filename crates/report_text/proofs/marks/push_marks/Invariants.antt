use Rattle.std.proofs.Common.{take}
use Rattle.text_parts.specs.Parts.{Puts}
use Rattle.report_text.specs.Report.{mark_lines}
use Rattle.report_text.proofs.marks.push_marks.Given as goal

abbrev pub invariant-loop-mark : goal.invariant-loop-mark
invariant-loop-mark l = Puts (mark_lines l.params (take l.mark-index l.marks)) l.fn.text l.text
