-- A schedule has one report.
use Rattle.std.proofs.Common.{◌≡◌, ℕ, List, Option, length, subst}
use Rattle.duty_core.specs.declared.activity.Activity.{Activity}
use Rattle.duty_core.specs.declared.rule.Rule.{Rule}
use Rattle.tour_model.specs.declared.schedule.Schedule.{Schedule}
use Rattle.tour_model.specs.declared.tour.Tour.{Tour}
use Rattle.tour_model.specs.Schedule.{history_of, log_start}
use Rattle.rule_readings.specs.declared.reading.Reading.{Reading}
use Rattle.rule_readings.proofs.ReadingLaws.{readings_once}
use Rattle.text_parts.specs.Parts.{IsText}
use Rattle.text_parts.specs.Laws.OneText.{parts_are_one_text}
use Rattle.report_text.specs.Report.{report, IsReport}

-- it has one list of readings, and so one list of parts
pub one_report : (tour : Tour) (log : List Activity) (schedule : Schedule) (one other : List ℕ) → IsReport tour log schedule one → IsReport tour log schedule other → one ≡ other
one_report tour log schedule one other h k =
    let parts = λ (readings : List (Rule × Option Reading)). report tour log schedule.steps schedule.marks readings in
    let same : k.readings ≡ h.readings = readings_once tour.params (log_start tour log) (length log) (history_of tour log schedule.steps) schedule.marks k.readings h.readings k.counted h.counted in
    parts_are_one_text (parts h.readings) one other h.told (subst (λ (readings : List (Rule × Option Reading)). IsText (parts readings) other) same k.told)
