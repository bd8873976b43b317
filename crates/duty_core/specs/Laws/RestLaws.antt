-- Rest alone keeps every rule without marks.
use Rattle.std.proofs.Common.{◌≡◌, ℕ, ◌≤◌, true, ◌&&◌, List, [], ◌++◌, length, refl, ap, arith, length-append, inl, inr, get_or}
use Rattle.std.specs.Prelude.{nat_eq}
use Rattle.std.proofs.lemmas.Bool.{cases_lt}
use Rattle.std.proofs.lemmas.List.{length-replicate}
use Rattle.duty_core.specs.declared.activity.Activity.{Activity}
use Rattle.duty_core.specs.declared.activity.Activity.TheVariants.{Off}
use Rattle.duty_core.specs.declared.mark.Mark.TheVariants.{SplitRest, DeferDay}
use Rattle.duty_core.specs.declared.params.Params.{Params}
use Rattle.duty_core.specs.declared.rule.Rule.{Rule}
use Rattle.duty_core.specs.declared.rule.Rule.TheVariants.{UsWindow14, UsDrive11, UsBreak8, UsWeek, UsPair, CaDay13, CaDay14, CaShift13, CaShift14, CaElapsed16, CaOff10, CaDefer, CaPair, Ca24in14, CaCycle, Ca70without24, Au5h30, Au8h, Au11h, Au24h, Au24hRest, Au7d, Au7dRest, Au14d, Au14dNights}
use Rattle.duty_core.specs.declared.limits.TheConstants.{CA_LOST_LIMIT}
use Rattle.duty_core.specs.Activity.{rests}
use Rattle.duty_core.specs.History.{unit_at, pad_units, padding, padded}
use Rattle.duty_core.specs.Laws.HistoryLaws.{unit_at-after}
use Rattle.duty_core.specs.Laws.ExistLaws.{padding_rest}
use Rattle.duty_core.specs.RestRun.{IsRun}
use Rattle.duty_core.specs.Day.{day_number}
use Rattle.duty_core.specs.Marks.{IsSplitAt}
use Rattle.duty_core.specs.LostMinutes.{is_lost, lost}
use Rattle.duty_core.specs.AuPeriods.{IsStart}
use Rattle.duty_core.specs.RuleBooks.{rules_of, week_days, cycle_of, KeepsPadded, KeepsAll}
use Rattle.duty_core.specs.Laws.PrefixLaws.{no_duty}
use Rattle.duty_core.specs.Laws.MarkListLaws.{no_member, no_marks}
use Rattle.duty_core.specs.Laws.FrontLaws.{IsHead, run_before, places_stop, head_kept, and_false}
use Rattle.duty_core.specs.Laws.RuleLaws.{us_window14_is_rule, us_drive11_is_rule, us_break8_is_rule, us_week_is_rule, ca_day13_is_rule, ca_day14_is_rule, ca_shift13_is_rule, ca_shift14_is_rule, ca_elapsed16_is_rule, ca_24in14_is_rule, ca_cycle_is_rule, ca_70without24_is_rule}

-- each place is rest
abbrev pub IsAllRest : List Activity → Type 0
IsAllRest p = (k : ℕ) → rests (unit_at p k) ≡ true

-- such a list is the head of itself, none of it needed
rest_is_own_head : {p : List Activity} → IsAllRest p → IsHead 0 p p
rest_is_own_head h = record { alike = record { fronts = λ k l. refl; units = λ k l. refl }; inside = omega arith; rest = λ k l. h k }

-- it has no rest run that has ended
pub no_run : {p : List Activity} {a b : ℕ} → IsAllRest p → IsRun p a b → ⊥
no_run h r = let l = run_before (rest_is_own_head h) r in absurd (omega arith)

no_start : {p : List Activity} {r i : ℕ} → IsAllRest p → IsStart r p i → ⊥
no_start {p} {r} {i} h s = no_duty (unit_at p i) (h i) s.works_there

-- and loses no minute
none_lost : (p : List Activity) → IsAllRest p → (day : ℕ → ℕ) (j : ℕ) → lost day p j ≤ CA_LOST_LIMIT
none_lost p h day j =
    let a = places_stop (λ i. nat_eq (day i) j && is_lost p i) 0 (length p) (λ k l. and_false (nat_eq (day k) j) (is_lost p k) (head_kept (rest_is_own_head h) k l)) in
    omega arith

-- rest alone keeps each rule without marks
pub rest_meets : (params : Params) (first : ℕ) (p : List Activity) → IsAllRest p → (rule : Rule) → KeepsPadded params first p [] rule
rest_meets params first p h UsWindow14 = λ i. (us_window14_is_rule (IsSplitAt params first [])).idle p i (h i)
rest_meets params first p h UsDrive11 = λ i. (us_drive11_is_rule (IsSplitAt params first [])).idle p i (h i)
rest_meets params first p h UsBreak8 = λ i. us_break8_is_rule.idle p i (h i)
rest_meets params first p h UsWeek = λ i. (us_week_is_rule (week_days params) (day_number params first)).idle p i (h i)
rest_meets params first p h UsPair = record {
  splits = λ at c. absurd (no_member (SplitRest at) c);
  none_deferred = λ day c. no_member (DeferDay day) c;
  pairs = λ d a b c s g. absurd (no_run h s.run);
}
rest_meets params first p h CaDay13 = λ i. (ca_day13_is_rule (day_number params first)).idle p i (h i)
rest_meets params first p h CaDay14 = λ i. (ca_day14_is_rule (day_number params first)).idle p i (h i)
rest_meets params first p h CaShift13 = λ i. (ca_shift13_is_rule (IsSplitAt params first [])).idle p i (h i)
rest_meets params first p h CaShift14 = λ i. (ca_shift14_is_rule (IsSplitAt params first [])).idle p i (h i)
rest_meets params first p h CaElapsed16 = λ i. (ca_elapsed16_is_rule (IsSplitAt params first [])).idle p i (h i)
rest_meets params first p h CaOff10 = λ j. inr (none_lost p h (day_number params first) j)
rest_meets params first p h CaDefer = λ date c. absurd (no_member (DeferDay date) c)
rest_meets params first p h CaPair = record {
  splits = λ at c. absurd (no_member (SplitRest at) c);
  pairs = λ d a b c s g. absurd (no_run h s.run);
}
rest_meets params first p h Ca24in14 = λ i. ca_24in14_is_rule.idle p i (h i)
rest_meets params first p h CaCycle = λ i. (ca_cycle_is_rule (cycle_of params) (day_number params first)).idle p i (h i)
rest_meets params first p h Ca70without24 = λ i. (ca_70without24_is_rule (cycle_of params)).idle p i (h i)
rest_meets params first p h Au5h30 = λ i s. absurd (no_start h s)
rest_meets params first p h Au8h = λ i s. absurd (no_start h s)
rest_meets params first p h Au11h = λ i s. absurd (no_start h s)
rest_meets params first p h Au24h = λ i s. absurd (no_start h s)
rest_meets params first p h Au24hRest = λ i s. absurd (no_start h s)
rest_meets params first p h Au7d = λ i s. absurd (no_start h s)
rest_meets params first p h Au7dRest = λ i s. absurd (no_start h s)
rest_meets params first p h Au14d = λ i s. absurd (no_start h s)
rest_meets params first p h Au14dNights = λ i s. absurd (no_start h s)

empty_is_rest : (params : Params) → IsAllRest (padded params [])
empty_is_rest params k = elim (cases_lt k (pad_units params)) [
  | inl l ↦ padding_rest params [] k (omega arith) l
  | inr l ↦ ap rests (unit_at-after (padding params ++ []) (pad_units params) k (omega (arith, length-append (padding params) [], length-replicate (pad_units params) Off)))
]

-- the empty history keeps each book without marks
pub empty_keeps : (params : Params) (first : ℕ) → KeepsAll params first [] []
empty_keeps params first = record {
  marks_of_book = no_marks params;
  rules = λ k d l. rest_meets params first (padded params []) (empty_is_rest params) (get_or (rules_of params) k d);
}
