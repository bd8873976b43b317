use Rattle.std.proofs.Common.{◌+◌, ◌*◌, ℕ, subst}
use Rattle.duty_core.specs.declared.limits.TheConstants.{DAY_MINUTES}
use Rattle.text_parts.specs.Parts.{Puts}
use Rattle.log_graph.specs.Graph.{day_lines, day_begin}
use Rattle.log_graph.proofs.Ranges.{days_more}
use Rattle.log_graph.proofs.draw.push_graph.Goals as goal

pub loop-day-preserved : goal.loop-day-preserved
loop-day-preserved c =
    let lines = day_lines c.args.params c.args.first c.args.history.now in
    days_more lines (λ (day : ℕ). day_begin c.args.params c.args.first + DAY_MINUTES * day) c.args.text.now c.loop-day.text c.push_day.new.text c.loop-day.day c.loop-day.invariant
    (subst (λ begin. Puts (lines (begin + DAY_MINUTES * c.loop-day.day)) c.loop-day.text c.push_day.new.text) c.day_begin-begin.ensures.value c.in_ok-push_day.ensures)
