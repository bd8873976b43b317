use Rattle.std.proofs.Common.{◌+◌, ◌*◌, ◌≤◌, [], ◌++◌, length, sym, subst, arith}
use Rattle.civil_minutes.specs.declared.century.TheConstants.{MINUTES_OF_CENTURY}
use Rattle.duty_core.specs.Params.{unit_minutes, BeginsUnit}
use Rattle.rule_readings.specs.Readings.{AreReadings}
use Rattle.log_graph.specs.Graph.{graph_lines}
use Rattle.text_parts.specs.Parts.{Puts}
use Rattle.text_parts.specs.Laws.PartLaws.{puts_on}
use Rattle.tour_model.specs.Schedule.{history_of, log_start}
use Rattle.report_text.specs.Report.{doings, runs_of, run_lines, head_line, mark_lines, reading_lines}
use Rattle.report_text.proofs.Placed.{placed, timed_later}
use Rattle.report_text.proofs.write.told.Goals as goal

pub history_of-requires : goal.history_of-requires
history_of-requires c = (placed c.args.tour.now c.requires.tour c.args.log.now c.args.steps.now c.requires.short c.requires.steps).long

pub log_start-first-requires : goal.log_start-first-requires
log_start-first-requires c = (placed c.args.tour.now c.requires.tour c.args.log.now c.args.steps.now c.requires.short c.requires.steps).starts

pub readings-requires-clause-begins : goal.readings-requires-clause-begins
readings-requires-clause-begins c =
    subst (BeginsUnit c.args.tour.now.params) (sym c.log_start-first.ensures) (placed c.args.tour.now c.requires.tour c.args.log.now c.args.steps.now c.requires.short c.requires.steps).begins

pub readings-requires-clause-early : goal.readings-requires-clause-early
readings-requires-clause-early c =
    let p = placed c.args.tour.now c.requires.tour c.args.log.now c.args.steps.now c.requires.short c.requires.steps in
    let early = p.early in
    omega (arith, early, c.log_start-first.ensures)

pub readings-requires-clause-ends : goal.readings-requires-clause-ends
readings-requires-clause-ends c =
    rw (c.log_start-first.ensures, c.in_ok-history.ensures) (placed c.args.tour.now c.requires.tour c.args.log.now c.args.steps.now c.requires.short c.requires.steps).ends

pub readings-requires-clause-planned : goal.readings-requires-clause-planned
readings-requires-clause-planned c =
    rw (c.len-planned_from.ensures.value, c.in_ok-history.ensures) (placed c.args.tour.now c.requires.tour c.args.log.now c.args.steps.now c.requires.short c.requires.steps).thereafter

pub push_marks-requires-clause-marks : goal.push_marks-requires-clause-marks
push_marks-requires-clause-marks c =
    rw c.items-marked.ensures c.requires.marks

pub push_readings-requires : goal.push_readings-requires
push_readings-requires c =
    let p = placed c.args.tour.now c.requires.tour c.args.log.now c.args.steps.now c.requires.short c.requires.steps in
    let ends : c.log_start-first.result + unit_minutes c.args.tour.now.params * length c.in_ok-history.history ≤ MINUTES_OF_CENTURY = rw (c.log_start-first.ensures, c.in_ok-history.ensures) p.ends in
    rw c.items-lines.ensures (timed_later (c.log_start-first.result + unit_minutes c.args.tour.now.params * length c.in_ok-history.history) MINUTES_OF_CENTURY c.in_ok-counts.counts ends c.in_ok-counts.ensures.times)

pub push_graph-requires-clause-early : goal.push_graph-requires-clause-early
push_graph-requires-clause-early c =
    let p = placed c.args.tour.now c.requires.tour c.args.log.now c.args.steps.now c.requires.short c.requires.steps in
    let early = p.early in
    omega (arith, early, c.log_start-first.ensures)

pub push_graph-requires-clause-ends : goal.push_graph-requires-clause-ends
push_graph-requires-clause-ends c =
    rw (c.log_start-first.ensures, c.in_ok-history.ensures) (placed c.args.tour.now c.requires.tour c.args.log.now c.args.steps.now c.requires.short c.requires.steps).ends

pub returns : goal.returns
returns c =
    let tour = c.args.tour.now in
    let log = c.args.log.now in
    let steps = c.args.steps.now in
    let marks = c.args.marks.now in
    let counts = c.in_ok-counts.counts in
    let first = log_start tour log in
    let history = history_of tour log steps in
    let head = head_line tour steps in
    let runs = run_lines tour 0 (runs_of (doings tour 0 steps)) in
    let marked : Puts (mark_lines tour.params marks) c.push_runs.new.text c.push_marks.new.text = subst (λ ms. Puts (mark_lines tour.params ms) c.push_runs.new.text c.push_marks.new.text) c.items-marked.ensures c.in_ok-push_marks.ensures in
    let counted : Puts (reading_lines counts) c.push_marks.new.text c.push_readings.new.text = subst (λ ls. Puts (reading_lines ls) c.push_marks.new.text c.push_readings.new.text) c.items-lines.ensures c.in_ok-push_readings.ensures in
    let drawn : Puts (graph_lines tour.params first history) c.push_readings.new.text c.push_graph.new.text =
    subst (λ h. Puts (graph_lines tour.params first h) c.push_readings.new.text c.push_graph.new.text) c.in_ok-history.ensures
    (subst (λ f. Puts (graph_lines tour.params f c.in_ok-history.history) c.push_readings.new.text c.push_graph.new.text) c.log_start-first.ensures c.in_ok-push_graph.ensures) in
    record {
      readings = counts;
      counted =
          subst (λ n. AreReadings tour.params first history n marks counts) c.len-planned_from.ensures.value
          (subst (λ h. AreReadings tour.params first h c.len-planned_from.result marks counts) c.in_ok-history.ensures
          (subst (λ f. AreReadings tour.params f c.in_ok-history.history c.len-planned_from.result marks counts) c.log_start-first.ensures c.in_ok-counts.ensures.readings));
      told =
          puts_on (((head ++ runs) ++ mark_lines tour.params marks) ++ reading_lines counts) (graph_lines tour.params first history) [] c.push_readings.new.text c.push_graph.new.text
          (puts_on ((head ++ runs) ++ mark_lines tour.params marks) (reading_lines counts) [] c.push_marks.new.text c.push_readings.new.text
          (puts_on (head ++ runs) (mark_lines tour.params marks) [] c.push_runs.new.text c.push_marks.new.text
          (puts_on head runs [] c.in_ok-text.text c.push_runs.new.text c.in_ok-text.ensures c.in_ok-push_runs.ensures) marked) counted) drawn;
    }
