-- The marks of a lawful history can be written down: they stand in order at minutes of the years 2000 to 2099, and there are few of them.
use Rattle.std.proofs.Common.{◌≡◌, ℕ, suc, ◌+◌, ◌-◌, ◌<◌, ◌≤◌, ℤ, pos, ◌<ℤ◌, List, [], ◌∷◌, length, subst, arith}
use Rattle.std.specs.Prelude.{Contains}
use Rattle.std.proofs.lemmas.Int.{ints}
use Rattle.duty_core.specs.declared.activity.Activity.{Activity}
use Rattle.duty_core.specs.declared.limits.TheConstants.{DAY_MINUTES, LONGEST_HISTORY, PADDING_MINUTES}
use Rattle.duty_core.specs.declared.mark.Mark.{Mark}
use Rattle.duty_core.specs.declared.params.Params.{Params}
use Rattle.duty_core.specs.Marks.{mark_minute, AreInOrder}
use Rattle.duty_core.specs.Lawful.{IsLawfulWith}
use Rattle.duty_core.specs.Params.{AreGoodParams}
use Rattle.duty_core.specs.Laws.MarkListLaws.{contains_head, contains_after, marks_in_order}
use Rattle.duty_core.specs.Laws.MarkMinuteLaws.{StandsBetween, lawful_marks_stand}
use Rattle.civil_minutes.specs.declared.century.TheConstants.{MINUTES_OF_CENTURY}
use Rattle.rule_core.specs.declared.numbers.TheConstants.{NUMBER_LIMIT}
use Rattle.cert_text.specs.Text.Form.{AreMarkForms}
use Rattle.cert_text.specs.Text.Laws.MarkTextLaws.{one_minute}

-- marks in order at minutes before hi, each of which stands from `least` on
forms_of : (params : Params) (lo hi least : ℕ) (marks : List Mark) → hi ≤ MINUTES_OF_CENTURY → AreInOrder params marks → ((m : Mark) → Contains marks m → StandsBetween params lo hi m) → ((m : Mark) (at : ℕ) → Contains marks m → pos at ≡ mark_minute params m → least ≤ at) → AreMarkForms params least marks
forms_of params lo hi least [] century order stands late = tt
forms_of params lo hi least (mark ∷ marks) century order stands late =
    let s = stands mark (contains_head mark marks) in
    let high = s.high in
    let minute = s.minute in (
      record { at = s.at; minute = s.minute; late = late mark s.at (contains_head mark marks) s.minute; century = omega (arith, high, century) },
      forms_of params lo hi (s.at + 1) marks century (λ i j d l m. order (suc i) (suc j) d (omega arith) (omega arith)) (λ m c. stands m (contains_after mark marks m c))
          (λ m at c e.
          let inside = c.1 in
          let before : mark_minute params mark <ℤ mark_minute params m = subst (λ o. mark_minute params mark <ℤ mark_minute params o) c.2 (order 0 (suc c.0) m (omega arith) (omega (arith, inside))) in
          later s.at at (mark_minute params mark) (mark_minute params m) minute e before),
    )
  where
    later : (a b : ℕ) (x y : ℤ) → pos a ≡ x → pos b ≡ y → x <ℤ y → a + 1 ≤ b
    later a b x y e f lt = omega (arith, ints, e, f, lt)

-- marks from `least` on and before hi are few
few_marks : (params : Params) (lo hi least : ℕ) (marks : List Mark) → least ≤ hi → ((m : Mark) → Contains marks m → StandsBetween params lo hi m) → AreMarkForms params least marks → length marks + least ≤ hi
few_marks params lo hi least [] le stands forms = omega (arith, le)
few_marks params lo hi least (mark ∷ marks) le stands forms =
    let s = stands mark (contains_head mark marks) in
    let high = s.high in
    let form = forms.0 in
    let late = form.late in
    let same = one_minute params mark form.at s.at form.minute s.minute in
    let rest = few_marks params lo hi (form.at + 1) marks (omega (arith, high, same)) (λ m c. stands m (contains_after mark marks m c)) forms.1 in
    omega (arith, rest, late)

-- marks that stand from a minute on
from_nought : (params : Params) (least : ℕ) (marks : List Mark) → AreMarkForms params least marks → AreMarkForms params 0 marks
from_nought params least [] forms = tt
from_nought params least (mark ∷ marks) forms = (record { at = forms.0.at; minute = forms.0.minute; late = omega arith; century = forms.0.century }, forms.1)

-- few marks that can be written down
pub record AreWritable (params : Params) (marks : List Mark) : Type 0 where
  pub few : length marks < NUMBER_LIMIT
  pub forms : AreMarkForms params 0 marks

-- the marks of a history that keeps its rules, in order
in_order : (params : Params) (first n : ℕ) (marks : List Mark) → PADDING_MINUTES + DAY_MINUTES ≤ first → n ≤ LONGEST_HISTORY → first + n + PADDING_MINUTES ≤ MINUTES_OF_CENTURY → AreInOrder params marks →
    ((m : Mark) → Contains marks m → StandsBetween params (first - (PADDING_MINUTES + DAY_MINUTES)) (first + n + PADDING_MINUTES) m) → AreWritable params marks
in_order params first n marks low long century order stands =
    let lo : ℕ = first - (PADDING_MINUTES + DAY_MINUTES) in
    let hi : ℕ = first + n + PADDING_MINUTES in
    let forms = forms_of params lo hi lo marks century order stands (λ m at c e.
    let s = stands m c in
    let same = one_minute params m at s.at e s.minute in
    let least = s.low in
    omega (arith, same, least)) in
    let few = few_marks params lo hi lo marks (omega arith) stands forms in
    record { few = omega (arith, few, low, long); forms = from_nought params lo marks forms }

-- the marks of each lawful history that begins late enough and ends early enough
pub lawful_marks : (params : Params) (first : ℕ) (h : List Activity) (marks : List Mark) → AreGoodParams params → PADDING_MINUTES + DAY_MINUTES ≤ first → length h ≤ LONGEST_HISTORY → first + length h + PADDING_MINUTES ≤ MINUTES_OF_CENTURY → IsLawfulWith params first h marks → AreWritable params marks
lawful_marks params first h marks good low long century lawful =
    in_order params first (length h) marks low long century (marks_in_order params marks lawful.marks_of_book) (lawful_marks_stand params first h marks good low lawful)
