-- When a state may stand for another, and the idle activities to try.
use Rattle.std.proofs.Common.{◌≡◌, ◌↔◌, ℕ, ◌+◌, ◌-◌, ◌≤◌, Bool, true, false, ◌&&◌, ◌||◌, List, length, refl, sym, ◌∙◌, subst, arith, ◌⊎◌, inl, inr}
use Rattle.std.specs.Prelude.{Option, nat_eq, nat_le, not}
use Rattle.std.proofs.lemmas.Bool.{or_cases, or_left, or_right}
use Rattle.std.proofs.lemmas.Bool.Decides.{nat_tests}
use Rattle.duty_core.specs.declared.activity.Activity.{Activity}
use Rattle.duty_core.specs.declared.activity.Activity.TheVariants.{Drive, Serve, Wait, Off, Berth}
use Rattle.duty_core.specs.declared.mark.Mark.{Mark}
use Rattle.duty_core.specs.declared.params.RestWay.{RestWay}
use Rattle.duty_core.specs.declared.params.RestWay.TheVariants.{Split, Defer}
use Rattle.duty_core.specs.declared.params.Params.TheVariants.{Canada}
use Rattle.duty_core.specs.declared.limits.TheConstants.{CA_LOST_LIMIT, CA_BOTH_LOST_LIMIT, CA_DAY_DRIVING_LIMIT, CA_DAY_DUTY_LIMIT}
use Rattle.duty_core.specs.Params.{allows}
use Rattle.duty_core.specs.CaCycle.{cycle_limit}
use Rattle.day_sums.specs.Sums.{LeavesNoLess, leaves_no_less}
use Rattle.day_sums.specs.Laws.LeftLaws.{leaves_decides}
use Rattle.day_sums.specs.Counted.{turned}
use Rattle.day_sums.specs.Laws.Counted.{length-turned}
use Rattle.rule_core.specs.declared.nexts.Next.{Next}
use Rattle.rule_core.specs.Reach.{IsOneOf, IsAnswered}
use Rattle.sleeper_split.specs.declared.rule.TheConstants.SplitRule.{CANADA}
use Rattle.sleeper_split.specs.Machine.{run_of}
use Rattle.sleeper_split.specs.Covers.{Covers, covers_count}
use Rattle.sleeper_split.specs.Laws.CoverLaws.{covers_same, covers_over, choices_cover}
use Rattle.sleeper_split.specs.Laws.CoverTests.{covers_decides}
use Rattle.sleeper_split.specs.Laws.BetterLaws.{canada_pair_rule, canada_monotone, allows_is}
use Rattle.sleeper_split.specs.Laws.Limits.{and_left, and_right, and_both}
use Rattle.cycles_deferral.specs.declared.days.DayCount.{DayCount}
use Rattle.cycles_deferral.specs.declared.days.CanadaDays.{CanadaDays}
use Rattle.cycles_deferral.specs.declared.cycle.CycleCount.{CycleCount}
use Rattle.cycles_deferral.specs.DayMachine.{needed, days_begun}
use Rattle.cycles_deferral.specs.DayCovers.{LosesNoMore, YesterdayCovers, IsMet, RestsAsLong, EndsAsWell, EndsCover, DaysCover}
use Rattle.cycles_deferral.specs.Laws.DayCovers.{days_cover_self, days_cover_over, cover_begun, days_simulate}
use Rattle.cycles_deferral.specs.CycleCovers.{CycleCovers}
use Rattle.cycles_deferral.specs.Laws.CycleCovers.{cycle_covers_self, cycle_covers_over, cycle_simulates}
use Rattle.canada_rules.specs.declared.state.DayDuty.{DayDuty}
use Rattle.canada_rules.specs.declared.state.Calendar.{Calendar}
use Rattle.canada_rules.specs.declared.state.CanadaState.{CanadaState}
use Rattle.canada_rules.specs.Machine.{ca_fits, ca_may, begins_day, ca_date, day_begun, day_more, day_after, day_keeps, calendar_made, ca_next, ca_nexts, IsCanadaState}
use Rattle.canada_rules.specs.Laws.CalendarSteps.{after_means, means_after}
use Rattle.canada_rules.specs.Laws.Paths.{next_means, means_next}
use Rattle.canada_rules.specs.Covers.{day_covers, same_way, loses_no_more, has_rest_today, yesterday_covers, has_rest_yesterday, is_met, rests_as_long, ends_as_well, ends_cover, days_cover, cycle_covers, covers_state}

-- # What the tests mean

is_upto : (a b : ℕ) → a ≤ b → nat_le a b ≡ true
is_upto a b h = grind (arith, nat_tests)

upto : (a b : ℕ) → nat_le a b ≡ true → a ≤ b
upto a b h = grind (arith, nat_tests)

is_same : (a b : ℕ) → a ≡ b → nat_eq a b ≡ true
is_same a b h = grind (arith, nat_tests)

same : (a b : ℕ) → nat_eq a b ≡ true → a ≡ b
same a b h = grind (arith, nat_tests)

-- the driving and the duty of the day are no more
pub record DayWithin (a b : DayDuty) : Type 0 where
  pub driving : a.driving ≤ b.driving
  pub duty : a.duty ≤ b.duty

-- driving or duty of the day stands at its limit
abbrev pub IsDaySpent : DayDuty → Type 0
IsDaySpent d = (CA_DAY_DRIVING_LIMIT ≤ d.driving) ⊎ (CA_DAY_DUTY_LIMIT ≤ d.duty)

abbrev pub DayCovers : DayDuty → DayDuty → Type 0
DayCovers a b = IsDaySpent b ⊎ DayWithin a b

day_decides : (a b : DayDuty) → (day_covers a b ≡ true) ↔ DayCovers a b
day_decides a b =
    let d : Bool = nat_le CA_DAY_DRIVING_LIMIT b.driving in
    let w : Bool = nat_le CA_DAY_DUTY_LIMIT b.duty in
    let m : Bool = nat_le a.driving b.driving in
    let n : Bool = nat_le a.duty b.duty in (
      (λ h. elim (or_cases (d || w) (m && n) h) [
        | inl e ↦ inl (elim (or_cases d w e) [ inl u ↦ inl (upto CA_DAY_DRIVING_LIMIT b.driving u) | inr u ↦ inr (upto CA_DAY_DUTY_LIMIT b.duty u) ])
        | inr e ↦ inr (record { driving = upto a.driving b.driving (and_left m n e); duty = upto a.duty b.duty (and_right m n e) })
      ]),
      (λ h. elim h [
        | inl e ↦ or_left (d || w) (m && n) (elim e [ inl u ↦ or_left d w (is_upto CA_DAY_DRIVING_LIMIT b.driving u) | inr u ↦ or_right d w (is_upto CA_DAY_DUTY_LIMIT b.duty u) ])
        | inr e ↦ or_right (d || w) (m && n) (and_both m n (is_upto a.driving b.driving e.driving) (is_upto a.duty b.duty e.duty))
      ]),
    )

way_means : (a b : RestWay) → same_way a b ≡ true → a ≡ b
way_means Split Split h = refl
way_means Split Defer h = absurd (let z : false ≡ true = h in cc)
way_means Defer Split h = absurd (let z : false ≡ true = h in cc)
way_means Defer Defer h = refl

way_itself : (a : RestWay) → same_way a a ≡ true
way_itself Split = refl
way_itself Defer = refl

no_more_means : (a b : DayCount) → loses_no_more a b ≡ true → LosesNoMore a b
no_more_means a b h = record {
  at_rest = upto a.lost b.lost (and_left (nat_le a.lost b.lost) (nat_le (a.lost + a.short) (b.lost + b.short)) h);
  at_duty = upto (a.lost + a.short) (b.lost + b.short) (and_right (nat_le a.lost b.lost) (nat_le (a.lost + a.short) (b.lost + b.short)) h);
}

no_more_from : (a b : DayCount) → LosesNoMore a b → loses_no_more a b ≡ true
no_more_from a b h = and_both (nat_le a.lost b.lost) (nat_le (a.lost + a.short) (b.lost + b.short)) (is_upto a.lost b.lost h.at_rest) (is_upto (a.lost + a.short) (b.lost + b.short) h.at_duty)

yesterday_means : (a b : CanadaDays) → yesterday_covers a b ≡ true → YesterdayCovers a b
yesterday_means a b h =
    let n : Bool = loses_no_more a.yesterday b.yesterday in
    let t : Bool = has_rest_today a in
    let l : Bool = nat_le b.today.longest a.today.longest in
    elim (or_cases (nat_le (a.yesterday.lost + a.yesterday.short) CA_LOST_LIMIT) (n && (t || l)) h) [
      | inl e ↦ inl (upto (a.yesterday.lost + a.yesterday.short) CA_LOST_LIMIT e)
      | inr e ↦ inr (
        no_more_means a.yesterday b.yesterday (and_left n (t || l) e),
        elim (or_cases t l (and_right n (t || l) e)) [
          | inl f ↦ inl (upto (needed (a.yesterday.lost + a.yesterday.short)) a.today.longest f)
          | inr f ↦ inr (upto b.today.longest a.today.longest f)
        ],
      )
    ]

yesterday_from : (a b : CanadaDays) → YesterdayCovers a b → yesterday_covers a b ≡ true
yesterday_from a b h =
    let k : Bool = nat_le (a.yesterday.lost + a.yesterday.short) CA_LOST_LIMIT in
    let n : Bool = loses_no_more a.yesterday b.yesterday in
    let t : Bool = has_rest_today a in
    let l : Bool = nat_le b.today.longest a.today.longest in
    elim h [
      | inl e ↦ or_left k (n && (t || l)) (is_upto (a.yesterday.lost + a.yesterday.short) CA_LOST_LIMIT e)
      | inr e ↦ or_right k (n && (t || l)) (and_both n (t || l) (no_more_from a.yesterday b.yesterday e.0) (elim e.1 [
        | inl f ↦ or_left t l (is_upto (needed (a.yesterday.lost + a.yesterday.short)) a.today.longest f)
        | inr f ↦ or_right t l (is_upto b.today.longest a.today.longest f)
      ]))
    ]

reaches_means : (a b : Bool) → (not b || a) ≡ true → b ≡ true → a ≡ true
reaches_means true b h e = refl
reaches_means false true h e = h
reaches_means false false h e = absurd (let z : false ≡ true = e in cc)

reaches_from : (a b : Bool) → (b ≡ true → a ≡ true) → (not b || a) ≡ true
reaches_from true true h = refl
reaches_from true false h = refl
reaches_from false true h = h refl
reaches_from false false h = refl

met_means : (a : CanadaDays) → is_met a ≡ true → IsMet a
met_means a h =
    let r : Bool = has_rest_yesterday a in
    let m : Bool = nat_le (a.before + (a.yesterday.lost + a.yesterday.short)) CA_BOTH_LOST_LIMIT in
    record { rest = upto (needed a.before) a.yesterday.longest (and_left r m h); both = upto (a.before + (a.yesterday.lost + a.yesterday.short)) CA_BOTH_LOST_LIMIT (and_right r m h) }

met_from : (a : CanadaDays) → IsMet a → is_met a ≡ true
met_from a h =
    let r : Bool = has_rest_yesterday a in
    let m : Bool = nat_le (a.before + (a.yesterday.lost + a.yesterday.short)) CA_BOTH_LOST_LIMIT in
    and_both r m (is_upto (needed a.before) a.yesterday.longest h.rest) (is_upto (a.before + (a.yesterday.lost + a.yesterday.short)) CA_BOTH_LOST_LIMIT h.both)

as_long_means : (a b : CanadaDays) → rests_as_long a b ≡ true → RestsAsLong a b
as_long_means a b h =
    let r : Bool = not b.reaches || a.reaches in
    let l : Bool = nat_le b.yesterday.longest a.yesterday.longest in
    record { longer = upto b.yesterday.longest a.yesterday.longest (and_left l r h); reaches = reaches_means a.reaches b.reaches (and_right l r h) }

as_long_from : (a b : CanadaDays) → RestsAsLong a b → rests_as_long a b ≡ true
as_long_from a b h =
    let r : Bool = not b.reaches || a.reaches in
    let l : Bool = nat_le b.yesterday.longest a.yesterday.longest in
    and_both l r (is_upto b.yesterday.longest a.yesterday.longest h.longer) (reaches_from a.reaches b.reaches h.reaches)

as_well_means : (a b : CanadaDays) → ends_as_well a b ≡ true → EndsAsWell a b
as_well_means a b h =
    let f : Bool = nat_le a.before b.before in
    let n : Bool = loses_no_more a.yesterday b.yesterday in
    let r : Bool = has_rest_yesterday a in
    let l : Bool = rests_as_long a b in
    let g = and_right f (n && (r || l)) h in
    record {
      fewer = upto a.before b.before (and_left f (n && (r || l)) h);
      yesterday = no_more_means a.yesterday b.yesterday (and_left n (r || l) g);
      rest = elim (or_cases r l (and_right n (r || l) g)) [ inl e ↦ inl (upto (needed a.before) a.yesterday.longest e) | inr e ↦ inr (as_long_means a b e) ];
    }

as_well_from : (a b : CanadaDays) → EndsAsWell a b → ends_as_well a b ≡ true
as_well_from a b h =
    let f : Bool = nat_le a.before b.before in
    let n : Bool = loses_no_more a.yesterday b.yesterday in
    let r : Bool = has_rest_yesterday a in
    let l : Bool = rests_as_long a b in
    and_both f (n && (r || l)) (is_upto a.before b.before h.fewer)
    (and_both n (r || l) (no_more_from a.yesterday b.yesterday h.yesterday)
    (elim h.rest [ inl e ↦ or_left r l (is_upto (needed a.before) a.yesterday.longest e) | inr e ↦ or_right r l (as_long_from a b e) ]))

ends_mean : (a b : CanadaDays) → ends_cover a b ≡ true → EndsCover a b
ends_mean a b h = elim (or_cases (nat_le a.before CA_LOST_LIMIT) (is_met a || ends_as_well a b) h) [
  | inl e ↦ inl (upto a.before CA_LOST_LIMIT e)
  | inr e ↦ inr (elim (or_cases (is_met a) (ends_as_well a b) e) [ inl f ↦ inl (met_means a f) | inr f ↦ inr (as_well_means a b f) ])
]

ends_from : (a b : CanadaDays) → EndsCover a b → ends_cover a b ≡ true
ends_from a b h = elim h [
  | inl e ↦ or_left (nat_le a.before CA_LOST_LIMIT) (is_met a || ends_as_well a b) (is_upto a.before CA_LOST_LIMIT e)
  | inr e ↦ or_right (nat_le a.before CA_LOST_LIMIT) (is_met a || ends_as_well a b) (elim e [ inl f ↦ or_left (is_met a) (ends_as_well a b) (met_from a f) | inr f ↦ or_right (is_met a) (ends_as_well a b) (as_well_from a b f) ])
]

-- The test of days says whether they may stand for the others.
pub days_decide : (a b : CanadaDays) → (days_cover a b ≡ true) ↔ DaysCover a b
days_decide a b =
    let w : Bool = same_way a.way b.way in
    let m : Bool = nat_eq a.minute b.minute in
    let r : Bool = nat_le b.rest a.rest in
    let t : Bool = loses_no_more a.today b.today in
    let y : Bool = yesterday_covers a b in
    let e : Bool = ends_cover a b in (
      (λ h.
          let h1 = and_right w (m && (r && (t && (y && e)))) h in
          let h2 = and_right m (r && (t && (y && e))) h1 in
          let h3 = and_right r (t && (y && e)) h2 in
          let h4 = and_right t (y && e) h3 in
          record {
            same_way = way_means a.way b.way (and_left w (m && (r && (t && (y && e)))) h);
            same_minute = same a.minute b.minute (and_left m (r && (t && (y && e))) h1);
            rested = upto b.rest a.rest (and_left r (t && (y && e)) h2);
            today_no_more = no_more_means a.today b.today (and_left t (y && e) h3);
            yesterday = yesterday_means a b (and_left y e h4);
            ends = ends_mean a b (and_right y e h4);
          }),
      (λ h.
          and_both w (m && (r && (t && (y && e)))) (subst (λ v. same_way a.way v ≡ true) h.same_way (way_itself a.way))
          (and_both m (r && (t && (y && e))) (is_same a.minute b.minute h.same_minute)
          (and_both r (t && (y && e)) (is_upto b.rest a.rest h.rested)
          (and_both t (y && e) (no_more_from a.today b.today h.today_no_more)
          (and_both y e (yesterday_from a b h.yesterday) (ends_from a b h.ends)))))),
    )

same_count : (new : Bool) (xs ys : List ℕ) → length xs ≡ length ys → length (turned new xs) ≡ length (turned new ys)
same_count new xs ys e = length-turned new xs ∙ (e ∙ sym (length-turned new ys))

pub cycle_decides : (new : Bool) (a b : CycleCount) → (cycle_covers new a b ≡ true) ↔ CycleCovers new a b
cycle_decides new a b =
    let limit : ℕ = cycle_limit b.cycle in
    let xs : List ℕ = turned new a.sums in
    let ys : List ℕ = turned new b.sums in
    let c : Bool = nat_eq a.cycle b.cycle in
    let r : Bool = nat_le b.rest a.rest in
    let l : Bool = nat_eq (length xs) (length ys) in
    let s : Bool = leaves_no_less limit (length xs) xs ys in
    let o : Bool = nat_le a.since b.since in
    let w : Bool = nat_le a.without b.without in
    let m : length xs ≡ length a.sums = length-turned new a.sums in
    let n : length ys ≡ length b.sums = length-turned new b.sums in (
      (λ h.
          let h1 = and_right c (r && ((l && s) && (o && w))) h in
          let h2 = and_right r ((l && s) && (o && w)) h1 in
          let h3 = and_left (l && s) (o && w) h2 in
          let h4 = and_right (l && s) (o && w) h2 in
          let e : length xs ≡ length ys = same (length xs) (length ys) (and_left l s h3) in
          record {
            same_cycle = same a.cycle b.cycle (and_left c (r && ((l && s) && (o && w))) h);
            rested = upto b.rest a.rest (and_left r ((l && s) && (o && w)) h1);
            same_days = sym m ∙ (e ∙ n);
            left = subst (λ k. LeavesNoLess limit k xs ys) (e ∙ n) ((leaves_decides limit (length xs) xs ys).0 (and_right l s h3));
            since_no_more = upto a.since b.since (and_left o w h4);
            without_no_more = upto a.without b.without (and_right o w h4);
          }),
      (λ h.
          let e : length xs ≡ length ys = same_count new a.sums b.sums h.same_days in
          and_both c (r && ((l && s) && (o && w))) (is_same a.cycle b.cycle h.same_cycle)
          (and_both r ((l && s) && (o && w)) (is_upto b.rest a.rest h.rested)
          (and_both (l && s) (o && w)
          (and_both l s (is_same (length xs) (length ys) e) ((leaves_decides limit (length xs) xs ys).1 (subst (λ k. LeavesNoLess limit k xs ys) (sym (e ∙ n)) h.left)))
          (and_both o w (is_upto a.since b.since h.since_no_more) (is_upto a.without b.without h.without_no_more))))),
    )

-- what one state needs to stand for another
pub record CanadaCovers (may new : Bool) (a b : CanadaState) : Type 0 where
  pub split : Covers CANADA may a.split b.split
  pub day : DayCovers (day_begun new a.calendar.day) (day_begun new b.calendar.day)
  pub days : DaysCover (days_begun new a.calendar.days) (days_begun new b.calendar.days)
  pub cycle : CycleCovers new a.calendar.cycle b.calendar.cycle

-- The test says whether a may stand for b.
pub state_decides : (may : Bool) (start : ℕ) (a b : CanadaState) (at : ℕ) → (covers_state may start a b at ≡ true) ↔ CanadaCovers may (begins_day start at) a b
state_decides may start a b at =
    let new : Bool = begins_day start at in
    let s : Bool = covers_count CANADA may a.split b.split in
    let d : Bool = day_covers (day_begun new a.calendar.day) (day_begun new b.calendar.day) in
    let l : Bool = days_cover (days_begun new a.calendar.days) (days_begun new b.calendar.days) in
    let c : Bool = cycle_covers new a.calendar.cycle b.calendar.cycle in (
      (λ h.
          let h1 = and_right s (d && (l && c)) h in
          let h2 = and_right d (l && c) h1 in
          record {
            split = (covers_decides CANADA may a.split b.split).0 (and_left s (d && (l && c)) h);
            day = (day_decides (day_begun new a.calendar.day) (day_begun new b.calendar.day)).0 (and_left d (l && c) h1);
            days = (days_decide (days_begun new a.calendar.days) (days_begun new b.calendar.days)).0 (and_left l c h2);
            cycle = (cycle_decides new a.calendar.cycle b.calendar.cycle).0 (and_right l c h2);
          }),
      (λ h.
          and_both s (d && (l && c)) ((covers_decides CANADA may a.split b.split).1 h.split)
          (and_both d (l && c) ((day_decides (day_begun new a.calendar.day) (day_begun new b.calendar.day)).1 h.day)
          (and_both l c ((days_decide (days_begun new a.calendar.days) (days_begun new b.calendar.days)).1 h.days) ((cycle_decides new a.calendar.cycle b.calendar.cycle).1 h.cycle)))),
    )

-- # An order

pub ca_covers_itself : (may : Bool) (start : ℕ) (s : CanadaState) (at : ℕ) → covers_state may start s s at ≡ true
ca_covers_itself may start s at = (state_decides may start s s at).1 (record {
  split = covers_same CANADA may s.split;
  day = inr (record { driving = omega arith; duty = omega arith });
  days = days_cover_self (days_begun (begins_day start at) s.calendar.days);
  cycle = cycle_covers_self (begins_day start at) s.calendar.cycle;
})

spent_more : (a b : DayDuty) → DayWithin a b → IsDaySpent a → IsDaySpent b
spent_more a b h e = let u = h.driving in let v = h.duty in elim e [ inl d ↦ inl (omega arith) | inr w ↦ inr (omega arith) ]

day_over : (a b c : DayDuty) → DayCovers a b → DayCovers b c → DayCovers a c
day_over a b c h (inl e) = inl e
day_over a b c (inl e) (inr g) = inl (spent_more b c g e)
day_over a b c (inr h) (inr g) = inr (let x = h.driving in let y = g.driving in let u = h.duty in let v = g.duty in record { driving = omega arith; duty = omega arith })

pub ca_covers_on : (may : Bool) (way : RestWay) (start : ℕ) (a b c : CanadaState) (at : ℕ) → IsCanadaState may way start a at → covers_state may start a b at ≡ true → covers_state may start b c at ≡ true → covers_state may start a c at ≡ true
ca_covers_on may way start a b c at i h g =
    let new : Bool = begins_day start at in
    let u = (state_decides may start a b at).0 h in
    let v = (state_decides may start b c at).0 g in
    (state_decides may start a c at).1 (record {
      split = covers_over CANADA may a.split b.split c.split canada_pair_rule i.split u.split v.split;
      day = day_over (day_begun new a.calendar.day) (day_begun new b.calendar.day) (day_begun new c.calendar.day) u.day v.day;
      days = days_cover_over (days_begun new a.calendar.days) (days_begun new b.calendar.days) (days_begun new c.calendar.days) u.days v.days;
      cycle = cycle_covers_over new a.calendar.cycle b.calendar.cycle c.calendar.cycle u.cycle v.cycle;
    })

-- # One more unit

day_more_covers : (x : Activity) (a b : DayDuty) → DayCovers a b → DayCovers (day_more x a) (day_more x b)
day_more_covers x a b h = elim h [
  | inl e ↦ inl (spent_more b (day_more x b) (record { driving = omega arith; duty = omega arith }) e)
  | inr g ↦ inr (let u = g.driving in let v = g.duty in record { driving = omega arith; duty = omega arith })
]

pub day_begun_covers : (new : Bool) (a b : DayDuty) → DayCovers a b → DayCovers (day_begun new a) (day_begun new b)
day_begun_covers true a b h = inr (record { driving = omega arith; duty = omega arith })
day_begun_covers false a b h = h

both_less : (a b c d m n : ℕ) → a ≤ c → b ≤ d → (nat_le c m && nat_le d n) ≡ true → (nat_le a m && nat_le b n) ≡ true
both_less a b c d m n h g e = grind (arith, nat_tests)

-- a day that is spent keeps no minute of driving more
spent_stops : (d : DayDuty) → IsDaySpent d → day_keeps (day_more Drive d) Drive ≡ true → ⊥
spent_stops d h e =
    let u = upto (d.driving + 1) CA_DAY_DRIVING_LIMIT (and_left (nat_le (d.driving + 1) CA_DAY_DRIVING_LIMIT) (nat_le (d.duty + 1) CA_DAY_DUTY_LIMIT) e) in
    let v = upto (d.duty + 1) CA_DAY_DUTY_LIMIT (and_right (nat_le (d.driving + 1) CA_DAY_DRIVING_LIMIT) (nat_le (d.duty + 1) CA_DAY_DUTY_LIMIT) e) in
    elim h [ inl a ↦ omega arith | inr a ↦ omega arith ]

day_keeps_covered : (x : Activity) (a b : DayDuty) → DayCovers a b → day_keeps (day_more x b) x ≡ true → day_keeps (day_more x a) x ≡ true
day_keeps_covered Drive a b (inl h) e = absurd (spent_stops b h e)
day_keeps_covered Drive a b (inr h) e = let u = h.driving in let v = h.duty in both_less (a.driving + 1) (a.duty + 1) (b.driving + 1) (b.duty + 1) CA_DAY_DRIVING_LIMIT CA_DAY_DUTY_LIMIT (omega arith) (omega arith) e
day_keeps_covered Serve a b h e = refl
day_keeps_covered Wait a b h e = refl
day_keeps_covered Off a b h e = refl
day_keeps_covered Berth a b h e = refl

pub may_means : (berth : Bool) (way : RestWay) → ca_may berth way ≡ true → berth ≡ true
may_means true way h = refl
may_means false way h = h

pub ca_simulation : (berth : Bool) (way : RestWay) (cycle start : ℕ) (a b : CanadaState) (at : ℕ) (x : Activity) (n : Next CanadaState) → IsCanadaState (ca_may berth way) way start a at → covers_state (ca_may berth way) start a b at ≡ true →
    allows (Canada berth way cycle start) x ≡ true → IsOneOf (ca_nexts (ca_may berth way) start b at x) n → IsAnswered (ca_nexts (ca_may berth way) start a at x) (λ t. covers_state (ca_may berth way) start t n.state (at + 1))
ca_simulation berth way cycle start a b at x n i h allowed o =
    let may : Bool = ca_may berth way in
    let new : Bool = begins_day start at in
    let next : Bool = begins_day start (at + 1) in
    let c = (state_decides may start a b at).0 h in
    let k = next_means may start b at x n o in
    let f = after_means start b.calendar at x k.got k.calendar in
    let s = choices_cover CANADA may berth ca_fits a.split b.split x k.by canada_pair_rule canada_monotone i.split (may_means berth way) (sym (allows_is (Canada berth way cycle start) x) ∙ allowed) c.split k.chosen in
    let d = days_simulate a.calendar.days b.calendar.days k.got.0.days x new (ca_date start at) k.got.1 c.days f.days in
    let y = cycle_simulates a.calendar.cycle b.calendar.cycle k.got.0.cycle x new next c.cycle f.cycle in
    let more : DayCovers (day_after start a.calendar.day at x) (day_after start b.calendar.day at x) = day_more_covers x (day_begun new a.calendar.day) (day_begun new b.calendar.day) c.day in
    let ok = day_keeps_covered x (day_begun new a.calendar.day) (day_begun new b.calendar.day) c.day f.ok in
    let got : Calendar × Option Mark = (calendar_made (day_after start a.calendar.day at x) d.days y.counts, d.mark) in
    let there = means_after start a.calendar at x d.days d.mark y.counts ok d.is y.is in
    let t : Next CanadaState = ca_next got (at - run_of a.split) s.0 in
    let covers : CanadaCovers may next t.state (ca_next k.got (at - run_of b.split) k.by).state = record {
      split = s.2;
      day = day_begun_covers next (day_after start a.calendar.day at x) k.got.0.day (subst (DayCovers (day_after start a.calendar.day at x)) (sym f.day) more);
      days = cover_begun next d.days k.got.0.days d.covers;
      cycle = y.covers;
    } in (
      t,
      means_next may start a at x got s.0 there s.1,
      (state_decides may start t.state n.state (at + 1)).1 (subst (λ (m : Next CanadaState). CanadaCovers may next t.state m.state) k.is covers),
    )

-- # Tests that agree

-- two tests of one relation are one
pub tests_agree : (a b : Bool) (P : Type 0) → (a ≡ true) ↔ P → (b ≡ true) ↔ P → a ≡ b
tests_agree true true P h g = refl
tests_agree true false P h g = sym (g.1 (h.0 refl))
tests_agree false true P h g = h.1 (g.0 refl)
tests_agree false false P h g = refl
