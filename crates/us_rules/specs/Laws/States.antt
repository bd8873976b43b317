-- What a state is: of the root, and of each successor.
use Rattle.std.proofs.Common.{◌≡◌, ℕ, ◌+◌, ◌-◌, ◌%◌, ◌<◌, ◌≤◌, Bool, true, false, List, [], ◌∷◌, length, refl, sym, ◌∙◌, ap, subst, arith, inl, inr}
use Rattle.std.specs.Prelude.{None, Some, replicate, All}
use Rattle.std.proofs.lemmas.Bool.{cases_lt, cases_eq}
use Rattle.std.proofs.lemmas.Bool.Decides.{nat_tests}
use Rattle.std.proofs.lemmas.List.{length-replicate}
use Rattle.std.proofs.lemmas.List.Elements.{All-replicate}
use Rattle.duty_core.specs.declared.activity.Activity.{Activity}
use Rattle.duty_core.specs.declared.activity.Activity.TheVariants.{Drive, Serve, Wait, Off, Berth}
use Rattle.duty_core.specs.declared.limits.TheConstants.{DAY_MINUTES, US_BREAK, US_UNBROKEN_LIMIT, US_RESTART, US_SHORT_WEEK}
use Rattle.rule_core.specs.declared.nexts.Next.{Next}
use Rattle.rule_core.specs.Reach.{IsOneOf}
use Rattle.day_sums.specs.Sums.{IsDays, added, cleared, today}
use Rattle.day_sums.specs.Laws.SumLaws.{length-added, today_rolled, today_cleared, today_added}
use Rattle.day_sums.specs.Counted.{turned, after_rest}
use Rattle.day_sums.specs.Laws.Within.{within_turned, within_added, within_rested}
use Rattle.day_sums.specs.Laws.Counted.{length-turned}
use Rattle.sleeper_split.specs.declared.rule.TheConstants.SplitRule.{US}
use Rattle.sleeper_split.specs.Covers.{IsCountOf}
use Rattle.sleeper_split.specs.Laws.CoverLaws.{fresh_kept, choice_kept}
use Rattle.us_rules.specs.declared.state.BreakCount.{BreakCount}
use Rattle.us_rules.specs.declared.state.WeekCount.{WeekCount}
use Rattle.us_rules.specs.declared.state.UsState.{UsState}
use Rattle.us_rules.specs.Machine.{us_fits, paused, break_after, break_ok, week_made, begins_day, week_rested, week_after, us_nexts, first_of, root_state, day_so_far, IsUsState}
use Rattle.us_rules.specs.Laws.BreakGuard.{paused_cases}
use Rattle.us_rules.specs.Laws.WeekGuard.{length-after_rest}
use Rattle.us_rules.specs.Laws.Paths.{next_means, us_choice}

-- # Counts of breaks

record IsBreakCount (c : BreakCount) : Type 0 where
  still : c.still ≤ US_BREAK
  driven : c.driven ≤ US_UNBROKEN_LIMIT

paused_kept : (c : BreakCount) → IsBreakCount c → IsBreakCount (paused c)
paused_kept c h = elim (paused_cases c) [
  | inl k ↦ subst IsBreakCount (sym k.1) (let l = k.0 in record { still = omega arith; driven = h.driven })
  | inr k ↦ subst IsBreakCount (sym k.1) (record { still = omega arith; driven = omega arith })
]

break_kept : (c : BreakCount) (at : ℕ) (x : Activity) → break_ok c at x ≡ true → IsBreakCount c → IsBreakCount (break_after c at x)
break_kept c at Drive ok h = let l : c.driven < US_UNBROKEN_LIMIT = grind (arith, nat_tests) in record { still = omega arith; driven = omega arith }
break_kept c at Serve ok h = paused_kept c h
break_kept c at Wait ok h = paused_kept c h
break_kept c at Off ok h = paused_kept c h
break_kept c at Berth ok h = paused_kept c h

-- # Counts of the week

-- the minutes of the day before this one, up to it
pub day_before : (day_start at : ℕ) (sums : List ℕ) → today sums ≤ day_so_far day_start at → today (turned (begins_day day_start at) sums) ≤ (at + (DAY_MINUTES - day_start)) % DAY_MINUTES
day_before day_start at sums h = elim (cases_eq ((at + (DAY_MINUTES - day_start)) % DAY_MINUTES) 0) [
  | inl q ↦
      let b : begins_day day_start at ≡ true = grind (arith, nat_tests) in
      subst (λ t. today (turned t sums) ≤ (at + (DAY_MINUTES - day_start)) % DAY_MINUTES) (sym b) (let z = today_rolled sums in omega arith)
  | inr q ↦
      let b : begins_day day_start at ≡ false = grind (arith, nat_tests) in
      subst (λ t. today (turned t sums) ≤ (at + (DAY_MINUTES - day_start)) % DAY_MINUTES) (sym b) (omega arith)
]

-- a minute more in the day
pub day_holds : (day_start at : ℕ) (sums : List ℕ) → today sums ≤ day_so_far day_start at → today (turned (begins_day day_start at) sums) + 1 ≤ DAY_MINUTES
day_holds day_start at sums h = let a = day_before day_start at sums h in omega arith

record IsWeekCount (days day_start : ℕ) (c : WeekCount) (at : ℕ) : Type 0 where
  rest : c.rest ≤ US_RESTART
  days_counted : length c.sums ≡ days
  within : All (λ n. n ≤ DAY_MINUTES) c.sums
  day : today c.sums ≤ day_so_far day_start at

day_after : (day_start at : ℕ) → day_so_far day_start (at + 1) ≡ (at + (DAY_MINUTES - day_start)) % DAY_MINUTES + 1
day_after day_start at = omega arith

after_rest_day : (run n : ℕ) (sums : List ℕ) → today sums ≤ n → today (after_rest US_RESTART run sums) ≤ n
after_rest_day run n sums h = elim (cases_lt run US_RESTART) [
  | inl l ↦ (let e : after_rest US_RESTART run sums ≡ sums = grind (arith, nat_tests) in subst (λ s. today s ≤ n) (sym e) h)
  | inr l ↦ (let e : after_rest US_RESTART run sums ≡ cleared sums = grind (arith, nat_tests) in subst (λ s. today s ≤ n) (sym e) (let z = today_cleared sums in omega arith))
]

rest_week_kept : (days day_start : ℕ) (c : WeekCount) (at : ℕ) → IsWeekCount days day_start c at → IsWeekCount days day_start (week_rested c.rest (turned (begins_day day_start at) c.sums)) (at + 1)
rest_week_kept days day_start c at h = record {
  rest = omega arith;
  days_counted = length-after_rest (c.rest + 1) (turned (begins_day day_start at) c.sums) ∙ (length-turned (begins_day day_start at) c.sums ∙ h.days_counted);
  within = within_rested US_RESTART (c.rest + 1) (turned (begins_day day_start at) c.sums) (within_turned (begins_day day_start at) c.sums h.within);
  day =
      let a = day_before day_start at c.sums h.day in
      let b = day_after day_start at in
      after_rest_day (c.rest + 1) (day_so_far day_start (at + 1)) (turned (begins_day day_start at) c.sums) (omega arith);
}

duty_week_kept : (days day_start : ℕ) (c : WeekCount) (at : ℕ) → IsWeekCount days day_start c at → IsWeekCount days day_start (week_made 0 (added 1 (turned (begins_day day_start at) c.sums))) (at + 1)
duty_week_kept days day_start c at h = record {
  rest = omega arith;
  days_counted = length-added 1 (turned (begins_day day_start at) c.sums) ∙ (length-turned (begins_day day_start at) c.sums ∙ h.days_counted);
  within = within_added (turned (begins_day day_start at) c.sums) (day_holds day_start at c.sums h.day) (within_turned (begins_day day_start at) c.sums h.within);
  day =
      let a = day_before day_start at c.sums h.day in
      let b = day_after day_start at in
      let d = today_added 1 (turned (begins_day day_start at) c.sums) in
      omega arith;
}

week_kept : (days day_start : ℕ) (c : WeekCount) (at : ℕ) (x : Activity) → IsWeekCount days day_start c at → IsWeekCount days day_start (week_after day_start c at x) (at + 1)
week_kept days day_start c at Drive h = duty_week_kept days day_start c at h
week_kept days day_start c at Serve h = duty_week_kept days day_start c at h
week_kept days day_start c at Wait h = duty_week_kept days day_start c at h
week_kept days day_start c at Off h = rest_week_kept days day_start c at h
week_kept days day_start c at Berth h = rest_week_kept days day_start c at h

-- # States

today-zeros : (days : ℕ) → today (replicate days 0) ≤ 0
today-zeros days = subst (λ s. today s ≤ 0) (ap (λ n. replicate n 0) (length-replicate {A = ℕ} days 0)) (let z = today_cleared (replicate days 0) in omega arith)

pub root_is_us_state : (berth : Bool) (days day_start first : ℕ) → IsUsState berth days day_start (root_state days) first
root_is_us_state berth days day_start first = record {
  split = fresh_kept US berth;
  still = omega arith;
  driven = omega arith;
  rest = omega arith;
  days_counted = length-replicate {A = ℕ} days 0;
  within = All-replicate (λ n. n ≤ DAY_MINUTES) days 0 (omega arith);
  day = let z = today-zeros days in omega arith;
}

pub next_is_us_state : (berth : Bool) (days day_start : ℕ) (s : UsState) (at : ℕ) (x : Activity) (n : Next UsState) → IsUsState berth days day_start s at → IsOneOf (us_nexts berth days day_start s at x) n → IsUsState berth days day_start n.state (at + 1)
next_is_us_state berth days day_start s at x n h o =
    let k = next_means berth days day_start s at x n o in
    let b : IsBreakCount n.state.rest_break = subst (λ (m : Next UsState). IsBreakCount m.state.rest_break) k.is (break_kept s.rest_break at x k.unbroken (record { still = h.still; driven = h.driven })) in
    let w : IsWeekCount days day_start n.state.week (at + 1) = subst (λ (m : Next UsState). IsWeekCount days day_start m.state.week (at + 1)) k.is (week_kept days day_start s.week at x (record { rest = h.rest; days_counted = h.days_counted; within = h.within; day = h.day })) in
    let c : IsCountOf US berth n.state.split = subst (λ (m : Next UsState). IsCountOf US berth m.state.split) k.is (choice_kept US berth us_fits s.split x k.by h.split (us_choice berth s.split x k.by k.chosen)) in
    record { split = c; still = b.still; driven = b.driven; rest = w.rest; days_counted = w.days_counted; within = w.within; day = w.day }

-- the week has some days
pub some_days : (days : ℕ) → (US_SHORT_WEEK ≤ days) × (days ≤ 8) → 0 < days
some_days days h = let a = h.0 in omega arith

pub few_days : (days : ℕ) → (US_SHORT_WEEK ≤ days) × (days ≤ 8) → days ≤ 8
few_days days h = h.1

-- and may be counted
pub week_counted : (days : ℕ) → (US_SHORT_WEEK ≤ days) × (days ≤ 8) → IsDays days
week_counted days h = let a = h.0 in let b = h.1 in elim (cases_lt days 8) [ inl l ↦ inl (omega arith) | inr l ↦ inr (inl (omega arith)) ]

-- the first successor is a state too
pub first_in : (ns : List (Next UsState)) (t : UsState) → first_of ns ≡ Some t → (n : Next UsState) × IsOneOf ns n × (n.state ≡ t)
first_in [] t e = absurd (let z : None ≡ Some t = e in cc)
first_in (n ∷ ns) t e = (n, inl refl, let q : n.state ≡ t = cc in q)

pub first_is_us_state : (berth : Bool) (days day_start : ℕ) (s t : UsState) (at : ℕ) (x : Activity) → IsUsState berth days day_start s at → first_of (us_nexts berth days day_start s at x) ≡ Some t → IsUsState berth days day_start t (at + 1)
first_is_us_state berth days day_start s t at x h e =
    let q = first_in (us_nexts berth days day_start s at x) t e in
    subst (λ u. IsUsState berth days day_start u (at + 1)) q.2 (next_is_us_state berth days day_start s at x q.0 h q.1)
