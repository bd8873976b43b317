-- Where resting in place of anything else is safe.
use Rattle.std.proofs.Common.{◌≡◌, ℕ, ◌+◌, ◌-◌, Bool, true, false, cond, refl, sym, ◌∙◌, subst, arith, inr}
use Rattle.std.specs.Prelude.{Option, None, Some}
use Rattle.std.proofs.lemmas.Bool.{cond-true}
use Rattle.duty_core.specs.declared.activity.Activity.{Activity}
use Rattle.duty_core.specs.declared.mark.Mark.{Mark}
use Rattle.duty_core.specs.declared.params.RestWay.{RestWay}
use Rattle.duty_core.specs.declared.params.Params.TheVariants.{Canada}
use Rattle.duty_core.specs.Activity.{rests}
use Rattle.duty_core.specs.Params.{allows}
use Rattle.rule_core.specs.declared.nexts.Next.{Next}
use Rattle.rule_core.specs.Reach.{IsOneOf}
use Rattle.sleeper_split.specs.declared.rule.TheConstants.SplitRule.{CANADA}
use Rattle.sleeper_split.specs.Machine.{after_rest, run_of}
use Rattle.sleeper_split.specs.Choices.{Choice, choice, sleeps}
use Rattle.sleeper_split.specs.Covers.{own_rest}
use Rattle.sleeper_split.specs.Laws.CoverLaws.{ahead_on, rest_choice, choices_ahead}
use Rattle.sleeper_split.specs.Laws.BetterLaws.{canada_pair_rule, allows_is}
use Rattle.cycles_deferral.specs.declared.days.CanadaDays.{CanadaDays}
use Rattle.cycles_deferral.specs.DayMachine.{days_begun, days_rested, days_worked, keeps_days, mark_between, days_after}
use Rattle.cycles_deferral.specs.CycleMachine.{cycle_rested, cycle_worked, cycle_ok, cycle_after}
use Rattle.cycles_deferral.specs.Laws.DayCovers.{cover_begun, days_rest_ahead}
use Rattle.cycles_deferral.specs.Laws.CycleCovers.{cycle_rest_ahead}
use Rattle.canada_rules.specs.declared.state.DayDuty.{DayDuty}
use Rattle.canada_rules.specs.declared.state.Calendar.{Calendar}
use Rattle.canada_rules.specs.declared.state.CanadaState.{CanadaState}
use Rattle.canada_rules.specs.Machine.{ca_fits, ca_may, begins_day, ca_date, day_begun, day_more, day_after, day_ok, calendar_made, ca_next, ca_nexts, IsCanadaState}
use Rattle.canada_rules.specs.Laws.CalendarSteps.{after_means, means_after}
use Rattle.canada_rules.specs.Laws.Paths.{next_means, means_next}
use Rattle.canada_rules.specs.Covers.{covers_state}
use Rattle.canada_rules.specs.Laws.Covers.{DayCovers, day_begun_covers, CanadaCovers, state_decides, may_means}
use Rattle.canada_rules.specs.Ahead.{ca_ahead}

rest_rests : (berth : Bool) → rests (own_rest berth) ≡ true
rest_rests true = refl
rest_rests false = refl

rest_keeps : (berth : Bool) (start : ℕ) (d : DayDuty) (at : ℕ) → day_ok start d at (own_rest berth) ≡ true
rest_keeps true start d at = refl
rest_keeps false start d at = refl

rest_less : (berth : Bool) (x : Activity) (d : DayDuty) → DayCovers (day_more (own_rest berth) d) (day_more x d)
rest_less true x d = inr (record { driving = omega arith; duty = omega arith })
rest_less false x d = inr (record { driving = omega arith; duty = omega arith })

-- Where resting is safe, the tour's rest leads to a state where it still is.
pub ca_ahead_stays : (berth : Bool) (way : RestWay) (start : ℕ) (a : CanadaState) (at : ℕ) → IsCanadaState (ca_may berth way) way start a at → ca_ahead (ca_may berth way) a ≡ true →
    (u : Next CanadaState) × IsOneOf (ca_nexts (ca_may berth way) start a at (own_rest berth)) u × (ca_ahead (ca_may berth way) u.state ≡ true)
ca_ahead_stays berth way start a at i h =
    let may : Bool = ca_may berth way in
    let x : Activity = own_rest berth in
    let new : Bool = begins_day start at in
    let t : CanadaDays = days_begun new a.calendar.days in
    let days : days_after a.calendar.days x new (ca_date start at) ≡ Some (days_rested t, None) =
    cond-true (rests x) (Some (days_rested t, None)) (cond (keeps_days (days_worked t)) (Some (days_worked t, mark_between t (days_worked t) (ca_date start at))) None) (rest_rests berth) in
    let cycle : cycle_after a.calendar.cycle x new ≡ Some (cycle_rested a.calendar.cycle new) =
    cond-true (rests x) (Some (cycle_rested a.calendar.cycle new)) (cond (cycle_ok a.calendar.cycle x new) (Some (cycle_worked a.calendar.cycle new)) None) (rest_rests berth) in
    let got : Calendar × Option Mark = (calendar_made (day_after start a.calendar.day at x) (days_rested t) (cycle_rested a.calendar.cycle new), None) in
    let there = means_after start a.calendar at x (days_rested t) None (cycle_rested a.calendar.cycle new) (rest_keeps berth start a.calendar.day at) days cycle in
    let c : Choice = choice (after_rest (sleeps x) a.split) false in (
      ca_next got (at - run_of a.split) c,
      means_next may start a at x got c there (rest_choice CANADA may berth ca_fits a.split),
      ahead_on CANADA may berth a.split i.split (may_means berth way) h,
    )

-- There it leads, for each successor by an activity that a schedule may hold, to a state that may stand for it, where resting is still safe.
pub ca_ahead_rests : (berth : Bool) (way : RestWay) (cycle start : ℕ) (a : CanadaState) (at : ℕ) (x : Activity) (n : Next CanadaState) → IsCanadaState (ca_may berth way) way start a at → ca_ahead (ca_may berth way) a ≡ true →
    allows (Canada berth way cycle start) x ≡ true → IsOneOf (ca_nexts (ca_may berth way) start a at x) n →
    (u : Next CanadaState) × IsOneOf (ca_nexts (ca_may berth way) start a at (own_rest berth)) u × (ca_ahead (ca_may berth way) u.state ≡ true)
    × (covers_state (ca_may berth way) start u.state n.state (at + 1) ≡ true)
ca_ahead_rests berth way cycle start a at x n i h allowed o =
    let may : Bool = ca_may berth way in
    let y : Activity = own_rest berth in
    let new : Bool = begins_day start at in
    let next : Bool = begins_day start (at + 1) in
    let k = next_means may start a at x n o in
    let f = after_means start a.calendar at x k.got k.calendar in
    let s = choices_ahead CANADA may berth ca_fits a.split x k.by canada_pair_rule i.split (may_means berth way) h (sym (allows_is (Canada berth way cycle start) x) ∙ allowed) k.chosen in
    let d = days_rest_ahead a.calendar.days k.got.0.days x y new (ca_date start at) k.got.1 (rest_rests berth) f.days in
    let c = cycle_rest_ahead a.calendar.cycle k.got.0.cycle x y new next i.cycle (rest_rests berth) f.cycle in
    let got : Calendar × Option Mark = (calendar_made (day_after start a.calendar.day at y) d.days c.counts, d.mark) in
    let there = means_after start a.calendar at y d.days d.mark c.counts (rest_keeps berth start a.calendar.day at) d.is c.is in
    let less : DayCovers (day_after start a.calendar.day at y) (day_after start a.calendar.day at x) = rest_less berth x (day_begun new a.calendar.day) in
    let t : Next CanadaState = ca_next got (at - run_of a.split) s.0 in
    let covers : CanadaCovers may next t.state (ca_next k.got (at - run_of a.split) k.by).state = record {
      split = s.3;
      day = day_begun_covers next (day_after start a.calendar.day at y) k.got.0.day (subst (DayCovers (day_after start a.calendar.day at y)) (sym f.day) less);
      days = cover_begun next d.days k.got.0.days d.covers;
      cycle = c.covers;
    } in (
      t,
      means_next may start a at y got s.0 there s.1,
      s.2,
      (state_decides may start t.state n.state (at + 1)).1 (subst (λ (m : Next CanadaState). CanadaCovers may next t.state m.state) k.is covers),
    )
