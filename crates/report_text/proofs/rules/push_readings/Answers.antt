use Rattle.std.proofs.Common.{take, sym, subst, arith}
use Rattle.text_parts.specs.Parts.{Puts}
use Rattle.text_parts.specs.Laws.PartLaws.{puts_on}
use Rattle.report_text.specs.Report.{reading_line, reading_lines}
use Rattle.report_text.proofs.RunLines.{reading_lines_more}
use Rattle.report_text.proofs.rules.push_readings.Goals as goal

pub loop-line-preserved : goal.loop-line-preserved
loop-line-preserved c =
    subst (λ ps. Puts ps c.args.text.now c.push_reading.new.text) (sym (reading_lines_more c.args.readings.now c.loop-line.line-index _ (omega arith)))
    (puts_on (reading_lines (take c.loop-line.line-index c.args.readings.now)) (reading_line _) c.args.text.now c.loop-line.text c.push_reading.new.text c.loop-line.invariant c.in_ok-push_reading.ensures)
