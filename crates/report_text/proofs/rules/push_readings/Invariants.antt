use Rattle.std.proofs.Common.{take}
use Rattle.text_parts.specs.Parts.{Puts}
use Rattle.report_text.specs.Report.{reading_lines}
use Rattle.report_text.proofs.rules.push_readings.Given as goal

abbrev pub invariant-loop-line : goal.invariant-loop-line
invariant-loop-line l = Puts (reading_lines (take l.line-index l.readings)) l.fn.text l.text
