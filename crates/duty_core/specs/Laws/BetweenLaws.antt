-- What is lawful with these marks, and is so with more units after it, is so in between.
use Rattle.std.proofs.Common.{◌≡◌, ℕ, List, ◌++◌, length, subst, arith}
use Rattle.std.specs.Prelude.{Contains}
use Rattle.duty_core.specs.declared.activity.Activity.{Activity}
use Rattle.duty_core.specs.declared.mark.Mark.{Mark}
use Rattle.duty_core.specs.declared.mark.Mark.TheVariants.{SplitRest, DeferDay}
use Rattle.duty_core.specs.declared.params.Params.{Params}
use Rattle.duty_core.specs.History.{padding, padded}
use Rattle.duty_core.specs.Day.{day_number}
use Rattle.duty_core.specs.MarkMeaning.{StandsIn}
use Rattle.duty_core.specs.RuleBooks.{KeepsAll}
use Rattle.duty_core.specs.Laws.MarkListLaws.{marks_in_order, same_marks}
use Rattle.duty_core.specs.Laws.FrontLaws.{IsHead, head_run, head_lost}
use Rattle.duty_core.specs.Laws.BookFacts.{are_true}
use Rattle.duty_core.specs.Laws.BookLaws.{front_is_head, front_keeps}

-- a mark that stands for something in a front stands for it in the whole
head_stands : (params : Params) (first n : ℕ) (p q : List Activity) → IsHead n p q → (m : Mark) → StandsIn params first p m → StandsIn params first q m
head_stands params first n p q h (SplitRest at) s = record { from = s.from; to = s.to; minute = s.minute; run = head_run h s.run }
head_stands params first n p q h (DeferDay date) s =
    let a = s.least in
    let b = head_lost h (day_number params first) s.number in
    record { number = s.number; numbered = s.numbered; least = omega arith }

-- The history h, and h with all these units, keep the book with one list of marks; so does h with some of them.
pub between_keeps : (params : Params) (first : ℕ) (h some more : List Activity) (marks : List Mark) →
    KeepsAll params first h marks → KeepsAll params first ((h ++ some) ++ more) marks → KeepsAll params first (h ++ some) marks
between_keeps params first h some more marks before after =
    let p : List Activity = padded params h in
    let q : List Activity = padded params (h ++ some) in
    let k = front_keeps params first (h ++ some) more marks after in
    let stands : (m : Mark) → Contains marks m → StandsIn params first q m =
    (λ m c. head_stands params first (length (padding params ++ h)) p q (front_is_head params h some) m ((are_true params first h marks before).stands m c)) in
    let same : k.0 ≡ marks =
    same_marks params k.0 marks (marks_in_order params k.0 k.2.marks_of_book) (marks_in_order params marks after.marks_of_book) (λ m c. ((k.1 m).0 c).0) (λ m c. (k.1 m).1 (c, stands m c)) in
    subst (KeepsAll params first (h ++ some)) same k.2
