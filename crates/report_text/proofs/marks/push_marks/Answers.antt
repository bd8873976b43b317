use Rattle.std.proofs.Common.{take, sym, subst, arith}
use Rattle.text_parts.specs.Parts.{Puts}
use Rattle.report_text.specs.Report.{mark_line, mark_lines}
use Rattle.text_parts.specs.Laws.PartLaws.{puts_on}
use Rattle.report_text.proofs.RunLines.{mark_lines_more}
use Rattle.report_text.proofs.marks.push_marks.Goals as goal

pub loop-mark-preserved : goal.loop-mark-preserved
loop-mark-preserved c =
    subst (λ ps. Puts ps c.args.text.now c.push_mark.new.text) (sym (mark_lines_more c.args.params c.args.marks.now c.loop-mark.mark-index _ (omega arith)))
    (puts_on (mark_lines c.args.params (take c.loop-mark.mark-index c.args.marks.now)) (mark_line c.args.params _) c.args.text.now c.loop-mark.text c.push_mark.new.text c.loop-mark.invariant c.in_ok-push_mark.ensures)
