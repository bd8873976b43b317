-- The laws of a lawful history: its fronts, rest after it, and the empty one.
use Rattle.std.proofs.Common.{◌≡◌, ◌↔◌, ℕ, ◌+◌, ◌<◌, ◌≤◌, ◌⊎◌, true, List, ◌++◌, length, sym, ◌∙◌, ap, subst, arith, length-append, inl, inr, ◌-◌}
use Rattle.std.specs.Prelude.{All, Contains, ◌<ℤ◌, replicate}
use Rattle.std.proofs.Math.Seq.{get_or-append_right}
use Rattle.std.proofs.lemmas.Bool.{cases_lt}
use Rattle.std.proofs.lemmas.List.{take-append-le}
use Rattle.std.proofs.lemmas.List.Elements.{All-weaker}
use Rattle.duty_core.specs.declared.activity.Activity.{Activity}
use Rattle.duty_core.specs.declared.activity.Activity.TheVariants.{Off}
use Rattle.duty_core.specs.declared.mark.Mark.{Mark}
use Rattle.duty_core.specs.declared.mark.Mark.TheVariants.{SplitRest, DeferDay}
use Rattle.duty_core.specs.declared.params.Params.{Params}
use Rattle.duty_core.specs.declared.limits.TheConstants.{CA_LOST_LIMIT}
use Rattle.duty_core.specs.Activity.{rests}
use Rattle.duty_core.specs.History.{unit_at, pad_units, padding, padded}
use Rattle.duty_core.specs.Laws.HistoryLaws.{AreAlike, alike_back, unit_at-append, unit_at-after}
use Rattle.duty_core.specs.RestRun.{IsRun}
use Rattle.duty_core.specs.Laws.RunLaws.{run_alike}
use Rattle.duty_core.specs.Day.{day_number}
use Rattle.duty_core.specs.Marks.{mark_minute, AreMarks}
use Rattle.duty_core.specs.LostMinutes.{lost}
use Rattle.duty_core.specs.MarkMeaning.{StandsIn}
use Rattle.duty_core.specs.RuleBooks.{rules_of, KeepsPadded, KeepsAll, IsLawfulByBook}
use Rattle.duty_core.specs.Laws.BookFacts.{AreTrue, are_true}
use Rattle.duty_core.specs.Laws.PrefixLaws.{padded_front}
use Rattle.duty_core.specs.Laws.MarkListLaws.{has_part, marks_in_order, marks_of_part}
use Rattle.duty_core.specs.Laws.FrontLaws.{IsHead, run_before, head_run, run_end, head_lost, minute_place, day_has_number, AreKept, head_keeps}

-- # Fronts

stands_told : (params : Params) (first n : ℕ) (p q : List Activity) → IsHead n p q → (m : Mark) → StandsIn params first q m → StandsIn params first p m ⊎ (StandsIn params first p m → ⊥)
stands_told params first n p q h (SplitRest at) s = elim (cases_lt s.to n) [
  | inl l ↦ inl (record { from = s.from; to = s.to; minute = s.minute; run = run_alike (alike_back h.alike) l s.run })
  | inr l ↦ inr (λ g.
      let e : g.from ≡ s.from = minute_place params first at g.from s.from g.minute s.minute in
      let r : IsRun p s.from g.to = subst (λ x. IsRun p x g.to) e g.run in
      let f : s.to ≡ g.to = run_end q s.from s.to g.to s.run (head_run h r) in
      let b = run_before h r in
      absurd (omega arith))
]
stands_told params first n p q h (DeferDay date) s = elim (cases_lt CA_LOST_LIMIT (lost (day_number params first) p s.number)) [
  | inl l ↦ inl (record { number = s.number; numbered = s.numbered; least = l })
  | inr l ↦ inr (λ g.
      let e : g.number ≡ s.number = day_has_number date g.number s.number g.numbered s.numbered in
      let a = subst (λ x. CA_LOST_LIMIT < lost (day_number params first) p x) e g.least in
      absurd (omega arith))
]

-- p has a list of the marks of q that stand for something in it
has_kept : (params : Params) (first n : ℕ) (p q : List Activity) (marks : List Mark) → IsHead n p q → AreMarks params marks → AreTrue params first q marks →
    (kept : List Mark) × AreMarks params kept × AreKept params first p marks kept
has_kept params first n p q marks h b t =
    let part = has_part (λ m o. mark_minute params m <ℤ mark_minute params o) (StandsIn params first p) marks (marks_in_order params marks b) (λ m c. stands_told params first n p q h m (t.stands m c)) in (
      part.0,
      marks_of_part params marks part.0 b part.1.in_order part.1.of_list,
      record {
        of_list = part.1.of_list;
        stands = part.1.holds;
        keeps = part.1.kept;
        next_day = λ i d. (let a = t.next_day i d in let l = head_lost h (day_number params first) (i + 1) in omega arith);
      },
    )

-- two lists with one front are alike below its end
alike_after : (p a b : List Activity) → AreAlike (p ++ a) (p ++ b) (length p)
alike_after p a b = record {
  fronts = λ k l. take-append-le k p a l ∙ sym (take-append-le k p b l);
  units = λ k l. unit_at-append p a k l ∙ sym (unit_at-append p b k l);
}

front_alike : (params : Params) (h g : List Activity) → AreAlike (padded params h) (padded params (h ++ g)) (length (padding params ++ h))
front_alike params h g =
    subst (λ q. AreAlike (padded params h) q (length (padding params ++ h))) (sym (padded_front params h g)) (alike_after (padding params ++ h) (padding params) (g ++ padding params))

-- the padded history of a front
pub front_is_head : (params : Params) (h g : List Activity) → IsHead (length (padding params ++ h)) (padded params h) (padded params (h ++ g))
front_is_head params h g = record {
  alike = front_alike params h g;
  inside = omega (arith, length-append (padding params ++ (h ++ g)) (padding params), length-append (padding params) (h ++ g), length-append (padding params) h, length-append h g);
  rest = λ k l. ap rests (unit_at-after (padding params ++ h) (pad_units params) k l);
}

-- a front keeps the book with those of the marks that stand for something in it
pub front_keeps : (params : Params) (first : ℕ) (h g : List Activity) (marks : List Mark) → KeepsAll params first (h ++ g) marks →
    (kept : List Mark) × ((m : Mark) → Contains kept m ↔ (Contains marks m × StandsIn params first (padded params h) m)) × KeepsAll params first h kept
front_keeps params first h g marks k =
    let n : ℕ = length (padding params ++ h) in
    let p : List Activity = padded params h in
    let q : List Activity = padded params (h ++ g) in
    let f : IsHead n p q = front_is_head params h g in
    let c = has_kept params first n p q marks f k.marks_of_book (are_true params first (h ++ g) marks k) in (
      c.0,
      (λ m. ((λ d. (c.2.of_list m d, c.2.stands m d)), (λ d. c.2.keeps m d.0 d.1))),
      record {
        marks_of_book = c.1;
        rules = All-weaker (KeepsPadded params first q marks) (KeepsPadded params first p c.0) (head_keeps params first n p q marks c.0 f c.2) (rules_of params) k.rules;
      },
    )

pub front_lawful : (params : Params) (first : ℕ) (h g : List Activity) → IsLawfulByBook params first (h ++ g) → IsLawfulByBook params first h
front_lawful params first h g l = let k = front_keeps params first h g l.marks l.keeps in record { marks = k.0; keeps = k.2 }

-- # Rest after a history

-- each unit is rest
abbrev pub AllRest : List Activity → Type 0
AllRest r = All (λ x. rests x ≡ true) r

rest_at : (r : List Activity) (n k : ℕ) → AllRest r → rests (unit_at (r ++ replicate n Off) k) ≡ true
rest_at r n k all = elim (cases_lt k (length r)) [
  | inl l ↦ ap rests (unit_at-append r (replicate n Off) k l) ∙ all k Off l
  | inr l ↦ ap rests (unit_at-after r n k l)
]

rest_after_at : (p r : List Activity) (n k : ℕ) → AllRest r → length p ≤ k → rests (unit_at (p ++ (r ++ replicate n Off)) k) ≡ true
rest_after_at p r n k all l = ap rests (get_or-append_right p (r ++ replicate n Off) k Off l) ∙ rest_at r n (k - length p) all

-- the padded history with rest after it is the one without, and rest from there on
pub rest_is_head : (params : Params) (h r : List Activity) → AllRest r → IsHead (length (padding params ++ h)) (padded params (h ++ r)) (padded params h)
rest_is_head params h r all = record {
  alike = alike_back (front_alike params h r);
  inside = omega (arith, length-append (padding params ++ h) (padding params));
  rest = λ k l. ap (λ p. rests (unit_at p k)) (padded_front params h r) ∙ rest_after_at (padding params ++ h) r (pad_units params) k all l;
}

-- what a mark stands for in a front, it stands for in the whole
stands_after : (params : Params) (first n : ℕ) (p q : List Activity) → IsHead n p q → (m : Mark) → StandsIn params first p m → StandsIn params first q m
stands_after params first n p q h (SplitRest at) s = record { from = s.from; to = s.to; minute = s.minute; run = head_run h s.run }
stands_after params first n p q h (DeferDay date) s =
    let l = head_lost h (day_number params first) s.number in
    let a = s.least in
    record { number = s.number; numbered = s.numbered; least = omega arith }

rest_kept : (params : Params) (first : ℕ) (h r : List Activity) (marks : List Mark) → AllRest r → AreTrue params first (padded params h) marks → AreKept params first (padded params (h ++ r)) marks marks
rest_kept params first h r marks all t = record {
  of_list = λ m c. c;
  stands = λ m c. stands_after params first (length (padding params ++ h)) (padded params h) (padded params (h ++ r)) (front_is_head params h r) m (t.stands m c);
  keeps = λ m c s. c;
  next_day = λ i d. (let a = t.next_day i d in let l = head_lost (rest_is_head params h r all) (day_number params first) (i + 1) in omega arith);
}

-- rest after a history keeps the book with the same marks
pub rest_keeps : (params : Params) (first : ℕ) (h r : List Activity) (marks : List Mark) → AllRest r → KeepsAll params first h marks → KeepsAll params first (h ++ r) marks
rest_keeps params first h r marks all k = record {
  marks_of_book = k.marks_of_book;
  rules = All-weaker (KeepsPadded params first (padded params h) marks) (KeepsPadded params first (padded params (h ++ r)) marks)
      (head_keeps params first (length (padding params ++ h)) (padded params (h ++ r)) (padded params h) marks marks (rest_is_head params h r all)
      (rest_kept params first h r marks all (are_true params first h marks k)))
      (rules_of params) k.rules;
}
