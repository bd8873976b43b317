-- Each mark of a lawful history stands at a minute of the years 2000 to 2099.
use Rattle.std.proofs.Common.{ℕ, ◌+◌, ◌≤◌, List, length, arith}
use Rattle.std.specs.Prelude.{All, Contains}
use Rattle.std.proofs.lemmas.List.Elements.{All-weaker, All-contains_itself}
use Rattle.duty_core.specs.declared.activity.Activity.{Activity}
use Rattle.duty_core.specs.declared.limits.TheConstants.{DAY_MINUTES, PADDING_MINUTES}
use Rattle.duty_core.specs.declared.mark.Mark.{Mark}
use Rattle.duty_core.specs.declared.params.Params.{Params}
use Rattle.duty_core.specs.Params.{AreGoodParams}
use Rattle.duty_core.specs.Lawful.{IsLawfulWith}
use Rattle.duty_core.specs.Laws.MarkMinuteLaws.{StandsBetween, lawful_marks_stand}
use Rattle.civil_minutes.specs.declared.century.TheConstants.{MINUTES_OF_CENTURY}
use Rattle.cert_text.specs.Text.Form.{IsMarkForm}

-- a mark that stands before the year 2100
in_century : (params : Params) (lo hi : ℕ) (mark : Mark) → hi ≤ MINUTES_OF_CENTURY → StandsBetween params lo hi mark → IsMarkForm params 0 mark
in_century params lo hi mark century s = let high = s.high in record { at = s.at; minute = s.minute; late = omega arith; century = omega (arith, high, century) }

-- each mark of a lawful history that begins late enough and ends long before the year 2100
pub mark_times : (params : Params) (first : ℕ) (h : List Activity) (marks : List Mark) → AreGoodParams params → PADDING_MINUTES + DAY_MINUTES ≤ first → first + length h + PADDING_MINUTES ≤ MINUTES_OF_CENTURY → IsLawfulWith params first h marks → All (IsMarkForm params 0) marks
mark_times params first h marks good low century lawful =
    All-weaker (Contains marks) (IsMarkForm params 0) (λ m c. in_century params _ _ m century (lawful_marks_stand params first h marks good low lawful m c)) marks (All-contains_itself marks)
