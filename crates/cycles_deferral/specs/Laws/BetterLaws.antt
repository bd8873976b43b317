-- Where one Canadian history is plainly better than another, its days and counts may stand for those of the other.
use Rattle.std.proofs.Common.{◌≡◌, ℕ, ◌+◌, ◌≤◌, ◌⊎◌, List, ◌++◌, length, length-append, refl, sym, ◌∙◌, subst, arith, inl, inr}
use Rattle.std.specs.Prelude.{Bool, Contains}
use Rattle.std.proofs.lemmas.Bool.{cases_lt}
use Rattle.duty_core.specs.declared.activity.Activity.{Activity}
use Rattle.duty_core.specs.declared.mark.Mark.{Mark}
use Rattle.duty_core.specs.declared.params.Params.{Params}
use Rattle.duty_core.specs.declared.params.Params.TheVariants.{Canada}
use Rattle.duty_core.specs.declared.params.RestWay.{RestWay}
use Rattle.duty_core.specs.declared.limits.TheConstants.{CA_LOST_LIMIT}
use Rattle.duty_core.specs.Day.{day_number}
use Rattle.duty_core.specs.LostMinutes.{lost}
use Rattle.duty_core.specs.PlainlyBetter.{AreDaysBetter, IsCaBetter, NoneDeferred}
use Rattle.duty_core.specs.CaCycle.{cycle_days, cycle_reset}
use Rattle.cycles_deferral.specs.declared.days.CanadaDays.{CanadaDays}
use Rattle.cycles_deferral.specs.declared.cycle.CycleCount.{CycleCount}
use Rattle.cycles_deferral.specs.DayMachine.{days_begun, fresh_days}
use Rattle.cycles_deferral.specs.CycleMachine.{fresh_cycle}
use Rattle.cycles_deferral.specs.Paths.{ca_pads, ca_padding, begins, TakesDays, TakesCycle}
use Rattle.cycles_deferral.specs.Laws.DaySteps.{mark_at}
use Rattle.cycles_deferral.specs.Laws.DayPaths.{AreLater}
use Rattle.cycles_deferral.specs.Laws.DaysExact.{lost_padding, deferred_from, days_lead}
use Rattle.cycles_deferral.specs.DayCovers.{DaysCover}
use Rattle.cycles_deferral.specs.Laws.CycleExact.{cycle_leads}
use Rattle.cycles_deferral.specs.CycleCovers.{CycleCovers}
use Rattle.cycles_deferral.specs.Laws.CountryDays.{are_days}
use Rattle.cycles_deferral.specs.Laws.BetterDays.{days_better, same_minutes}
use Rattle.cycles_deferral.specs.Laws.BetterCycle.{cycle_better}

-- each mark of the one list is one of the other
abbrev pub AreAmong : List Mark → List Mark → Type 0
AreAmong chosen marks = (m : Mark) → Contains chosen m → Contains marks m

-- where no day before today is deferred, the two before today keep their limit
kept_days : (params : Params) (day : ℕ → ℕ) (p : List Activity) (chosen marks : List Mark) (today j : ℕ) → AreLater params day ca_padding p chosen → AreAmong chosen marks → NoneDeferred marks today →
    (j + 1 ≡ today) ⊎ (j + 2 ≡ today) → lost day p j ≤ CA_LOST_LIMIT
kept_days params day p chosen marks today j l among none near = elim (cases_lt CA_LOST_LIMIT (lost day p j)) [
  | inr le ↦ le
  | inl lt ↦ absurd (none j (deferred_from marks j (among (mark_at j) (l.told j lt (let z = lost_padding day j in omega arith)))) near)
]

same_lengths : (h k : List Activity) → length h ≡ length k → length (ca_padding ++ h) ≡ length (ca_padding ++ k)
same_lengths h k e = omega (arith, length-append ca_padding h, length-append ca_padding k)

-- The days of the better history may stand for those of the other, where the next minute's day has begun. The marks that they chose are among those of the histories.
pub days_stand_for_worse : (berth : Bool) (way : RestWay) (cycle start first : ℕ) (h k : List Activity) (chosen others marks other_marks : List Mark) (a b : CanadaDays) →
    TakesDays (day_number (Canada berth way cycle start) first) (fresh_days way) ca_pads h chosen a → TakesDays (day_number (Canada berth way cycle start) first) (fresh_days way) ca_pads k others b →
    AreAmong chosen marks → AreAmong others other_marks → length h ≡ length k → IsCaBetter (Canada berth way cycle start) first (ca_padding ++ h) marks (ca_padding ++ k) other_marks →
    DaysCover (days_begun (begins (day_number (Canada berth way cycle start) first) (length (ca_padding ++ h))) a) (days_begun (begins (day_number (Canada berth way cycle start) first) (length (ca_padding ++ h))) b)
days_stand_for_worse berth way cycle start first h k chosen others marks other_marks a b r s among other_among e better =
    let params : Params = Canada berth way cycle start in
    let day : ℕ → ℕ = day_number params first in
    let days = are_days berth way cycle start first in
    let p : List Activity = ca_padding ++ h in
    let q : List Activity = ca_padding ++ k in
    let n : length p ≡ length q = same_lengths h k e in
    let x = days_lead params way day days h chosen a r in
    let y = days_lead params way day days k others b s in
    days_better day days p q a b x.stands y.stands (x.same_way ∙ sym y.same_way) (same_minutes day (fresh_days way) (fresh_days way) a b ca_pads h k chosen others e refl r s) (record {
      same_length = n;
      run = better.shift.run.long;
      today = better.today;
      yesterday = better.yesterday;
      kept = λ j near. kept_days params day p chosen marks (day (length p)) j x.marks_later among better.none_deferred near;
      other_kept = λ j near. kept_days params day q others other_marks (day (length q)) j y.marks_later other_among better.no_other_deferred (subst (λ i. (j + 1 ≡ day i) ⊎ (j + 2 ≡ day i)) n near);
    })

-- duty of each number of days of the cycle is no more
IsDaysOf : (ℕ → ℕ) → ℕ → List Activity → List Activity → Type 0
IsDaysOf day cycle p q = AreDaysBetter day (cycle_days cycle) (cycle_reset cycle) p q

-- The counts of the better history may stand for those of the other.
pub cycle_stands_for_worse : (berth : Bool) (way : RestWay) (cycle start first : ℕ) (h k : List Activity) (marks other_marks : List Mark) (a b : CycleCount) →
    TakesCycle (day_number (Canada berth way cycle start) first) (fresh_cycle cycle) ca_pads h a → TakesCycle (day_number (Canada berth way cycle start) first) (fresh_cycle cycle) ca_pads k b →
    length h ≡ length k → IsCaBetter (Canada berth way cycle start) first (ca_padding ++ h) marks (ca_padding ++ k) other_marks →
    CycleCovers (begins (day_number (Canada berth way cycle start) first) (length (ca_padding ++ h))) a b
unfolding IsDaysOf
cycle_stands_for_worse berth way cycle start first h k marks other_marks a b r s e better =
    let day : ℕ → ℕ = day_number (Canada berth way cycle start) first in
    let days = are_days berth way cycle start first in
    let p : List Activity = ca_padding ++ h in
    let q : List Activity = ca_padding ++ k in
    let x = cycle_leads day days cycle h a r in
    let y = cycle_leads day days cycle k b s in
    cycle_better day days p q a b x.counted y.counted (x.same_cycle ∙ sym y.same_cycle) (record {
      same_length = same_lengths h k e;
      run = better.shift.run.long;
      sums = subst (λ c. IsDaysOf day c p q) (sym y.same_cycle) better.cycle;
      day_off = better.day_off;
      duty_less = λ two. better.without (sym y.same_cycle ∙ two);
    })
