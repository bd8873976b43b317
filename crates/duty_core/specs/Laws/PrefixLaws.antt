-- The front of a history keeps what the whole one keeps, for each rule that is asked at a place.
use Rattle.std.proofs.Common.{◌≡◌, ℕ, ◌<◌, ◌≤◌, true, false, length, inl, inr, List, ◌++◌, sym, ◌∙◌, ap, subst}
use Rattle.std.specs.Prelude.{not}
use Rattle.std.proofs.lemmas.Bool.{cases_lt}
use Rattle.std.proofs.lemmas.List.{append_assoc}
use Rattle.duty_core.specs.declared.activity.Activity.{Activity}
use Rattle.duty_core.specs.declared.mark.Mark.{Mark}
use Rattle.duty_core.specs.declared.params.Params.{Params}
use Rattle.duty_core.specs.declared.rule.Rule.TheVariants.{UsWindow14, UsDrive11, UsBreak8, UsWeek, CaDay13, CaDay14, CaShift13, CaShift14, CaElapsed16, Ca24in14, CaCycle, Ca70without24}
use Rattle.duty_core.specs.Activity.{rests, works}
use Rattle.duty_core.specs.Laws.LostLaws.{works_is}
use Rattle.duty_core.specs.History.{unit_at, pad_units, padding, padded}
use Rattle.duty_core.specs.Laws.HistoryLaws.{unit_at-append, unit_at-after, IsRule, holds_before, holds_after}
use Rattle.duty_core.specs.Day.{day_number}
use Rattle.duty_core.specs.Marks.{IsSplitAt}
use Rattle.duty_core.specs.RuleBooks.{week_days, cycle_of, Keeps}
use Rattle.duty_core.specs.Laws.RuleLaws.{us_window14_is_rule, us_drive11_is_rule, us_break8_is_rule, us_week_is_rule, ca_day13_is_rule, ca_day14_is_rule, ca_shift13_is_rule, ca_shift14_is_rule, ca_elapsed16_is_rule, ca_24in14_is_rule, ca_cycle_is_rule, ca_70without24_is_rule}

-- the padded history of a front, as a front of the padded one
pub padded_front : (params : Params) (h g : List Activity) → padded params (h ++ g) ≡ (padding params ++ h) ++ (g ++ padding params)
padded_front params h g = ap (λ l. l ++ padding params) (sym (append_assoc (padding params) h g)) ∙ append_assoc (padding params ++ h) g (padding params)

-- p is q below place n, and from there on it is rest.
pub record IsFront (n : ℕ) (p q : List Activity) : Type 0 where
  pub same : (k : ℕ) → k < n → unit_at p k ≡ unit_at q k
  pub rest : (k : ℕ) → n ≤ k → rests (unit_at p k) ≡ true

pub no_duty : (x : Activity) → rests x ≡ true → works x ≡ true → ⊥
no_duty x r w = let z : true ≡ false = sym w ∙ (works_is x ∙ ap not r) in cc

-- duty of p is duty of q, and rest of q is rest of p
pub front_duty : (n : ℕ) (p q : List Activity) → IsFront n p q → (k : ℕ) → works (unit_at p k) ≡ true → works (unit_at q k) ≡ true
front_duty n p q f k w = elim (cases_lt k n) [
  | inl l ↦ ap works (sym (f.same k l)) ∙ w
  | inr l ↦ absurd (no_duty (unit_at p k) (f.rest k l) w)
]

pub front_rest : (n : ℕ) (p q : List Activity) → IsFront n p q → (k : ℕ) → rests (unit_at q k) ≡ true → rests (unit_at p k) ≡ true
front_rest n p q f k r = elim (cases_lt k n) [ inl l ↦ ap rests (f.same k l) ∙ r | inr l ↦ f.rest k l ]

-- the padded history of a front is the front of the padded one
pub padded_is_front : (params : Params) (h g : List Activity) → IsFront (length (padding params ++ h)) (padded params h) (padded params (h ++ g))
padded_is_front params h g = record {
  same = λ k l. unit_at-append (padding params ++ h) (padding params) k l
      ∙ sym (ap (λ p. unit_at p k) (padded_front params h g) ∙ unit_at-append (padding params ++ h) (g ++ padding params) k l);
  rest = λ k l. ap rests (unit_at-after (padding params ++ h) (pad_units params) k l);
}

-- what holds at each place of a padded history holds at each place of that of a front
pub holds_front : (R : List Activity → ℕ → Type 0) (params : Params) (h g : List Activity) → IsRule R → ((i : ℕ) → R (padded params (h ++ g)) i) → (i : ℕ) → R (padded params h) i
holds_front R params h g rule all =
    holds_after R (padding params ++ h) (pad_units params) rule
    (holds_before R (padding params ++ h) (g ++ padding params) rule
    (λ i. subst (λ p. R p i) (padded_front params h g) (all i)))

pub us_window14_front : (params : Params) (first : ℕ) (h g : List Activity) (marks : List Mark) → Keeps params first (h ++ g) marks UsWindow14 → Keeps params first h marks UsWindow14
us_window14_front params first h g marks = holds_front _ params h g (us_window14_is_rule (IsSplitAt params first marks))

pub us_drive11_front : (params : Params) (first : ℕ) (h g : List Activity) (marks : List Mark) → Keeps params first (h ++ g) marks UsDrive11 → Keeps params first h marks UsDrive11
us_drive11_front params first h g marks = holds_front _ params h g (us_drive11_is_rule (IsSplitAt params first marks))

pub us_break8_front : (params : Params) (first : ℕ) (h g : List Activity) (marks : List Mark) → Keeps params first (h ++ g) marks UsBreak8 → Keeps params first h marks UsBreak8
us_break8_front params first h g marks = holds_front _ params h g us_break8_is_rule

pub us_week_front : (params : Params) (first : ℕ) (h g : List Activity) (marks : List Mark) → Keeps params first (h ++ g) marks UsWeek → Keeps params first h marks UsWeek
us_week_front params first h g marks = holds_front _ params h g (us_week_is_rule (week_days params) (day_number params first))

pub ca_day13_front : (params : Params) (first : ℕ) (h g : List Activity) (marks : List Mark) → Keeps params first (h ++ g) marks CaDay13 → Keeps params first h marks CaDay13
ca_day13_front params first h g marks = holds_front _ params h g (ca_day13_is_rule (day_number params first))

pub ca_day14_front : (params : Params) (first : ℕ) (h g : List Activity) (marks : List Mark) → Keeps params first (h ++ g) marks CaDay14 → Keeps params first h marks CaDay14
ca_day14_front params first h g marks = holds_front _ params h g (ca_day14_is_rule (day_number params first))

pub ca_shift13_front : (params : Params) (first : ℕ) (h g : List Activity) (marks : List Mark) → Keeps params first (h ++ g) marks CaShift13 → Keeps params first h marks CaShift13
ca_shift13_front params first h g marks = holds_front _ params h g (ca_shift13_is_rule (IsSplitAt params first marks))

pub ca_shift14_front : (params : Params) (first : ℕ) (h g : List Activity) (marks : List Mark) → Keeps params first (h ++ g) marks CaShift14 → Keeps params first h marks CaShift14
ca_shift14_front params first h g marks = holds_front _ params h g (ca_shift14_is_rule (IsSplitAt params first marks))

pub ca_elapsed16_front : (params : Params) (first : ℕ) (h g : List Activity) (marks : List Mark) → Keeps params first (h ++ g) marks CaElapsed16 → Keeps params first h marks CaElapsed16
ca_elapsed16_front params first h g marks = holds_front _ params h g (ca_elapsed16_is_rule (IsSplitAt params first marks))

pub ca_24in14_front : (params : Params) (first : ℕ) (h g : List Activity) (marks : List Mark) → Keeps params first (h ++ g) marks Ca24in14 → Keeps params first h marks Ca24in14
ca_24in14_front params first h g marks = holds_front _ params h g ca_24in14_is_rule

pub ca_cycle_front : (params : Params) (first : ℕ) (h g : List Activity) (marks : List Mark) → Keeps params first (h ++ g) marks CaCycle → Keeps params first h marks CaCycle
ca_cycle_front params first h g marks = holds_front _ params h g (ca_cycle_is_rule (cycle_of params) (day_number params first))

pub ca_70without24_front : (params : Params) (first : ℕ) (h g : List Activity) (marks : List Mark) → Keeps params first (h ++ g) marks Ca70without24 → Keeps params first h marks Ca70without24
ca_70without24_front params first h g marks = holds_front _ params h g (ca_70without24_is_rule (cycle_of params))
