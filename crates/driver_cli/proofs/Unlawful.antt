-- What is told of a log that breaks a rule.
use Rattle.std.proofs.Common.{◌≡◌, ℕ, ◌+◌, ◌-◌, ◌*◌, ◌<◌, ◌≤◌, Bool, true, false, List, [], ◌∷◌, ◌++◌, length, take, zero, suc, refl, arith, inl, inr, ◌∙◌, ap, sym, subst}
use Rattle.std.specs.Prelude.{All}
use Rattle.std.proofs.lemmas.List.{length-take-le}
use Rattle.std.proofs.lemmas.List.Elements.{All-nil, All-cons}
use Rattle.civil_minutes.specs.declared.century.TheConstants.{MINUTES_OF_CENTURY}
use Rattle.duty_core.specs.declared.activity.Activity.{Activity}
use Rattle.duty_core.specs.declared.limits.TheConstants.{LONGEST_LOG, LONGEST_HISTORY, DAY_MINUTES}
use Rattle.duty_core.specs.declared.mark.Mark.{Mark}
use Rattle.duty_core.specs.declared.params.Params.{Params}
use Rattle.duty_core.specs.declared.rule.Rule.{Rule}
use Rattle.duty_core.specs.Marks.{AreMarksIf, AreMarks}
use Rattle.duty_core.specs.Params.{BookUnit, InMinutes, InQuarters, minutes_in, terms_of, unit_minutes, BeginsUnit}
use Rattle.duty_core.specs.RuleBooks.{rules_of, Keeps}
use Rattle.rule_core.specs.Replay.{IsFirstUnlawful}
use Rattle.rule_readings.specs.Broken.{AreBroken}
use Rattle.tour_model.specs.declared.limits.TheConstants.{LATEST_START}
use Rattle.tour_model.specs.declared.tour.Tour.{Tour}
use Rattle.tour_model.specs.Laws.LengthLaws.{begins_sooner, log_timed}
use Rattle.tour_model.specs.Schedule.{log_start}
use Rattle.tour_model.specs.Tour.{IsTour}
use Rattle.driver_cli.specs.Inputs.{AreBrokenUpTo}

-- ---- an unlawful history breaks a rule

none_broken : (Kept : Rule → Type 0) (rules : List Rule) → AreBroken Kept rules [] → All Kept rules
none_broken Kept [] h = All-nil Kept
none_broken Kept (rule ∷ rules) (inl h) = All-cons Kept rule rules h.0 (none_broken Kept rules h.1)
none_broken Kept (rule ∷ rules) (inr h) = let e = h.1.1 in absurd (let e2 : [] ≡ rule ∷ h.1.0 = e in cc)

none_if : (b : Bool) (params : Params) → AreMarksIf b params []
none_if true params = λ i j d l m. absurd (omega arith)
none_if false params = refl

no_marks : (params : Params) → AreMarks params []
no_marks params = none_if (terms_of params).has_marks params

some_of : (Kept : Rule → Type 0) (book rules : List Rule) → (All Kept book → ⊥) → AreBroken Kept book rules → 0 < length rules
some_of Kept book [] never broken = absurd (never (none_broken Kept book broken))
some_of Kept book (rule ∷ rules) never broken = omega arith

pub some_broken : (tour : Tour) (log : List Activity) (unit : ℕ) (rules : List Rule) → IsFirstUnlawful tour.params (log_start tour log) log unit → AreBrokenUpTo tour log unit rules → 0 < length rules
some_broken tour log unit rules first broken =
    some_of (Keeps tour.params (log_start tour log) (take (unit + 1) log) []) (rules_of tour.params) rules
    (λ keeps. first.unlawful (record { marks = []; keeps = record { marks_of_book = no_marks tour.params; rules = keeps } })) broken

-- ---- where the units of a log lie in time

-- A front of the log lies within the years for which rules are told.
pub record IsFrontTimed (tour : Tour) (log : List Activity) (n : ℕ) : Type 0 where
  pub long : length log ≤ LONGEST_HISTORY
  pub begins : BeginsUnit tour.params (log_start tour log)
  pub early : DAY_MINUTES ≤ log_start tour log
  pub ends : log_start tour log + unit_minutes tour.params * length (take n log) ≤ MINUTES_OF_CENTURY

ends_before : (u : BookUnit) (start l n : ℕ) → start ≤ LATEST_START → minutes_in u * l ≤ start → n ≤ l → (start - minutes_in u * l) + minutes_in u * n ≤ MINUTES_OF_CENTURY
ends_before InMinutes start l n late inside short = omega arith
ends_before InQuarters start l n late inside short = omega arith

pub front_timed : (tour : Tour) (log : List Activity) (n : ℕ) → IsTour tour → unit_minutes tour.params * length log ≤ LONGEST_LOG → n ≤ length log → IsFrontTimed tour log n
front_timed tour log n t short within =
    let timed = log_timed tour t log short in
    let early = t.not_early in
    let some : length (take n log) ≡ n = length-take-le n log within in
    record {
      long = timed.long;
      begins = timed.begins;
      early = omega arith;
      ends = rw some (ends_before (terms_of tour.params).unit tour.start (length log) n t.not_late (omega arith) within);
    }
