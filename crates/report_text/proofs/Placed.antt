-- Where the history of a log and a solution after it lies in time.
use Rattle.std.proofs.Common.{◌≡◌, ℕ, ◌+◌, ◌-◌, ◌*◌, ◌<◌, ◌≤◌, List, length, subst, sym, arith}
use Rattle.std.specs.Prelude.{Option, IfSome, Some, None, All}
use Rattle.std.proofs.lemmas.List.Elements.{All-weaker}
use Rattle.std.proofs.Math.Nat.{mul-le-mul_right, div-le_self}
use Rattle.std.proofs.lemmas.List.{length-append}
use Rattle.civil_minutes.specs.declared.century.TheConstants.{MINUTES_OF_CENTURY}
use Rattle.duty_core.specs.declared.activity.Activity.{Activity}
use Rattle.duty_core.specs.declared.limits.TheConstants.{DAY_MINUTES, LONGEST_HISTORY, LONGEST_LOG, PADDING_MINUTES}
use Rattle.duty_core.specs.declared.mark.Mark.{Mark}
use Rattle.duty_core.specs.declared.rule.Rule.{Rule}
use Rattle.duty_core.specs.Params.{BookUnit, InMinutes, InQuarters, minutes_in, terms_of, unit_minutes, BeginsUnit}
use Rattle.rule_readings.specs.declared.reading.Reading.{Reading}
use Rattle.rule_readings.specs.Readings.{AreTimedBefore}
use Rattle.cert_text.specs.Text.Form.{IsMarkForm}
use Rattle.tour_model.specs.declared.limits.TheConstants.{LONGEST_TOUR, LATEST_START}
use Rattle.tour_model.specs.declared.tour.Tour.{Tour}
use Rattle.tour_model.specs.Tour.{IsTour}
use Rattle.tour_model.specs.Schedule.{IsSolutionWith, units_of, step_units, history_of, log_start}
use Rattle.tour_model.specs.Laws.LengthLaws.{serves_short, length-units, units_minutes, begins_sooner}
use Rattle.report_text.proofs.MarkTimes.{mark_times}

-- the history begins at a whole unit, early in time, and ends long before the year 2100
pub record IsPlaced (tour : Tour) (log xs : List Activity) : Type 0 where
  pub begins : BeginsUnit tour.params (log_start tour log)
  pub starts : unit_minutes tour.params * length log ≤ tour.start
  pub early : PADDING_MINUTES + DAY_MINUTES ≤ log_start tour log
  pub long : length (history_of tour log xs) ≤ LONGEST_HISTORY
  pub ends : log_start tour log + unit_minutes tour.params * length (history_of tour log xs) ≤ MINUTES_OF_CENTURY
  pub padded_ends : log_start tour log + length (history_of tour log xs) + PADDING_MINUTES ≤ MINUTES_OF_CENTURY
  pub thereafter : length log ≤ length (history_of tour log xs)

-- so many units after a log end within the century
ends_before : (u : BookUnit) (start l n : ℕ) → start ≤ LATEST_START → minutes_in u * l ≤ start → n ≤ LONGEST_TOUR → (start - minutes_in u * l) + minutes_in u * (l + n) ≤ MINUTES_OF_CENTURY
ends_before InMinutes start l n late inside short = omega arith
ends_before InQuarters start l n late inside short = omega arith

-- steps that are no longer than a tour have no more units than a tour has minutes
units_few : (tour : Tour) (xs : List Activity) → length xs * tour.grid ≤ LONGEST_TOUR → length (units_of (step_units tour) xs) ≤ LONGEST_TOUR
units_few tour xs few =
    let e = length-units (step_units tour) xs in
    let d : step_units tour ≤ tour.grid = div-le_self tour.grid (unit_minutes tour.params) in
    let m : step_units tour * length xs ≤ tour.grid * length xs = mul-le-mul_right (length xs) d in
    omega (arith, e, m, few)

pub placed : (tour : Tour) → IsTour tour → (log xs : List Activity) → unit_minutes tour.params * length log ≤ LONGEST_LOG → length xs * tour.grid ≤ LONGEST_TOUR → IsPlaced tour log xs
placed tour t log xs short few =
    let units = units_few tour xs few in
    let minutes = units_minutes tour.params (length log) in
    let whole : length (history_of tour log xs) ≡ length log + length (units_of (step_units tour) xs) = length-append log (units_of (step_units tour) xs) in
    let late = t.not_late in
    let early = t.not_early in
    let starts : unit_minutes tour.params * length log ≤ tour.start = omega arith in
    record {
      begins = begins_sooner tour.params tour.start (length log) t.whole_start;
      starts = starts;
      early = omega arith;
      long = omega (arith, whole, units, minutes, short);
      ends = subst (λ n. log_start tour log + unit_minutes tour.params * n ≤ MINUTES_OF_CENTURY) (sym whole) (ends_before (terms_of tour.params).unit tour.start (length log) (length (units_of (step_units tour) xs)) late starts units);
      padded_ends = omega arith;
      thereafter = omega (arith, whole);
    }

-- what is timed before an earlier minute is timed before a later one
timed_line : (early late : ℕ) → early ≤ late → (found : Option Reading) → IfSome found (λ reading. reading.at < early) → IfSome found (λ reading. reading.at < late)
timed_line early late le None timed = timed
timed_line early late le (Some reading) timed = omega (arith, timed)

pub timed_later : (early late : ℕ) (readings : List (Rule × Option Reading)) → early ≤ late → AreTimedBefore early readings → AreTimedBefore late readings
timed_later early late readings le timed = All-weaker (λ (line : Rule × Option Reading). IfSome line.1 (λ reading. reading.at < early)) (λ (line : Rule × Option Reading). IfSome line.1 (λ reading. reading.at < late)) (λ line. timed_line early late le line.1) readings timed

-- the marks of a solution
pub solution_marks : (tour : Tour) → IsTour tour → (log xs : List Activity) (marks : List Mark) → unit_minutes tour.params * length log ≤ LONGEST_LOG → IsSolutionWith tour log xs marks → All (IsMarkForm tour.params 0) marks
solution_marks tour t log xs marks short solves =
    let p = placed tour t log xs short (serves_short tour t xs solves.serves) in
    mark_times tour.params (log_start tour log) (history_of tour log xs) marks t.params p.early p.padded_ends solves.lawful
