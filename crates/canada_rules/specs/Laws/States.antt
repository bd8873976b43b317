-- What a state is: of the root, and of each successor.
use Rattle.std.proofs.Common.{◌≡◌, ℕ, ◌+◌, ◌-◌, ◌%◌, ◌<◌, ◌≤◌, Bool, true, false, cond, List, [], ◌∷◌, length, refl, sym, ◌∙◌, ap, subst, arith, ◌⊎◌, inl, inr, min, max}
use Rattle.std.specs.Prelude.{ℤ, Option, None, Some, replicate, nat_lt, nat_le, nat_eq}
use Rattle.std.proofs.lemmas.Bool.{cases_lt, cases_eq, cases_Bool, cond-true, cond-false}
use Rattle.std.proofs.lemmas.Bool.Decides.{nat_tests}
use Rattle.std.proofs.lemmas.List.{length-replicate}
use Rattle.duty_core.specs.declared.activity.Activity.{Activity}
use Rattle.duty_core.specs.declared.activity.Activity.TheVariants.{Drive, Serve, Wait, Off, Berth}
use Rattle.duty_core.specs.declared.mark.Mark.{Mark}
use Rattle.duty_core.specs.declared.params.RestWay.{RestWay}
use Rattle.duty_core.specs.declared.params.RestWay.TheVariants.{Split, Defer}
use Rattle.duty_core.specs.declared.limits.TheConstants.{DAY_MINUTES, CA_BLOCK_LEAST, CA_FULL_REST, CA_LOST_LIMIT, CA_DEFERRED_LOST_LIMIT, CA_DAY_OFF, CA_DAY_OFF_WITHIN, CA_CYCLE_2, CA_WITHOUT_DAY_OFF_LIMIT}
use Rattle.duty_core.specs.Activity.{rests, drives, works}
use Rattle.duty_core.specs.CaCycle.{cycle_days, cycle_reset}
use Rattle.rule_core.specs.declared.nexts.Next.{Next}
use Rattle.rule_core.specs.Reach.{IsOneOf}
use Rattle.day_sums.specs.Sums.{cleared, today}
use Rattle.day_sums.specs.Laws.SumLaws.{length-added, length-cleared, today_rolled, today_cleared, today_added}
use Rattle.day_sums.specs.Counted.{turned, after_rest}
use Rattle.day_sums.specs.Laws.Counted.{length-turned}
use Rattle.sleeper_split.specs.declared.rule.TheConstants.SplitRule.{CANADA}
use Rattle.sleeper_split.specs.Laws.CoverLaws.{fresh_kept, choices_kept}
use Rattle.cycles_deferral.specs.declared.days.DayCount.{DayCount}
use Rattle.cycles_deferral.specs.declared.days.CanadaDays.{CanadaDays}
use Rattle.cycles_deferral.specs.declared.cycle.CycleCount.{CycleCount}
use Rattle.cycles_deferral.specs.DayMachine.{lost_limit, IsShortOf, IsCanadaDays, days_turned, days_begun, rest_on, rested_day, days_rested, days_worked, keeps_split, keeps_way, keeps_days, days_after}
use Rattle.cycles_deferral.specs.CycleMachine.{IsCycleCount, HasRoom, since_on, cycle_rested, cycle_worked, cycle_ok, cycle_after}
use Rattle.cycles_deferral.specs.Laws.DeferLaws.{passes_means}
use Rattle.sleeper_split.specs.Machine.{run_of}
use Rattle.canada_rules.specs.declared.state.DayDuty.{DayDuty}
use Rattle.canada_rules.specs.declared.state.Calendar.{Calendar}
use Rattle.canada_rules.specs.declared.state.CanadaState.{CanadaState}
use Rattle.canada_rules.specs.Machine.{ca_fits, begins_day, ca_date, day_made, day_begun, day_after, ca_next, ca_nexts, first_of, root_state, day_so_far, IsDayDuty, IsSeen, IsCanadaState}
use Rattle.canada_rules.specs.Laws.CalendarSteps.{IsAfter, after_means, days_cases, days_way}
use Rattle.canada_rules.specs.Laws.Paths.{next_means}
use Rattle.canada_rules.specs.States.{IsCalendar}

-- # How far days and counts of a cycle are counted

-- the most rest that a deferral needs
abbrev needed_limit : ℕ
needed_limit = CA_FULL_REST + (CA_DEFERRED_LOST_LIMIT - CA_LOST_LIMIT)

-- the time since a day off with which it lies in no fortnight any more
abbrev since_limit : ℕ
since_limit = CA_DAY_OFF_WITHIN - CA_DAY_OFF + 1

-- more duty without a day off than driving allows
abbrev without_limit : ℕ
without_limit = CA_WITHOUT_DAY_OFF_LIMIT + 1

-- # Minutes of the day

-- a minute begins a day, or is a later one of it
pub day_goes : (start at : ℕ) → ((begins_day start at ≡ true) × (day_so_far start at ≡ DAY_MINUTES) × (day_so_far start (at + 1) ≡ 1)) ⊎ ((begins_day start at ≡ false) × (day_so_far start at < DAY_MINUTES) × (day_so_far start (at + 1) ≡ day_so_far start at + 1))
day_goes start at = elim (cases_eq ((at + (DAY_MINUTES - start)) % DAY_MINUTES) 0) [
  | inl q ↦ inl (grind (arith, nat_tests), omega arith, omega arith)
  | inr q ↦ inr (grind (arith, nat_tests), omega arith, omega arith)
]

pub so_far_most : (start at : ℕ) → day_so_far start at ≤ DAY_MINUTES
so_far_most start at = omega arith

-- # The duty of the day

one_most : (b : Bool) → cond {A = ℕ} b 1 0 ≤ 1
one_most true = omega arith
one_most false = omega arith

drives_less : (x : Activity) → cond {A = ℕ} (drives x) 1 0 ≤ cond {A = ℕ} (works x) 1 0
drives_less Drive = omega arith
drives_less Serve = omega arith
drives_less Wait = omega arith
drives_less Off = omega arith
drives_less Berth = omega arith

-- the day where it may have begun holds no more duty than minutes before this one
pub begun_fits : (start : ℕ) (d : DayDuty) (at : ℕ) → IsDayDuty start d at → ((day_begun (begins_day start at) d).driving ≤ (day_begun (begins_day start at) d).duty) × ((day_begun (begins_day start at) d).duty + 1 ≤ day_so_far start (at + 1))
begun_fits start d at h = let a = h.some in let b = h.fits in elim (day_goes start at) [
  | inl k ↦ (let e = k.2 in subst (λ (v : DayDuty). (v.driving ≤ v.duty) × (v.duty + 1 ≤ day_so_far start (at + 1))) (sym (cond-true (begins_day start at) (day_made 0 0) d k.0)) (omega arith, omega arith))
  | inr k ↦ (let e = k.2 in subst (λ (v : DayDuty). (v.driving ≤ v.duty) × (v.duty + 1 ≤ day_so_far start (at + 1))) (sym (cond-false (begins_day start at) (day_made 0 0) d k.0)) (a, omega arith))
]

day_kept : (start : ℕ) (d : DayDuty) (at : ℕ) (x : Activity) → IsDayDuty start d at → IsDayDuty start (day_after start d at x) (at + 1)
day_kept start d at x h =
    let k = begun_fits start d at h in
    let a = k.0 in
    let b = k.1 in
    let e = one_most (works x) in
    let f = drives_less x in
    record { some = omega arith; fits = omega arith }

-- # The days

short_rested : (rest : ℕ) (today yesterday : DayCount) (n : ℕ) → n ≤ 1 → IsShortOf rest today.short yesterday.short → (holds : Bool) → IsShortOf (rest_on rest) (rested_day (rest_on rest) 1 true today).short (rested_day (rest_on rest) 0 holds yesterday).short
short_rested rest today yesterday n l h holds = elim (cases_lt (rest_on rest) CA_BLOCK_LEAST) [
  | inl k ↦ inr (
    k,
    (
        let a = cond-true (nat_lt (rest_on rest) CA_BLOCK_LEAST) (today.short + 1) 0 (grind (arith, nat_tests)) in
        let b = cond-true (nat_lt (rest_on rest) CA_BLOCK_LEAST) (yesterday.short + 0) 0 (grind (arith, nat_tests)) in
        elim h [ inl u ↦ (let v = u.0 in absurd (omega arith)) | inr u ↦ (let v = u.1 in omega arith) ]),
  )
  | inr k ↦ inl (k, omega arith, cond-false (nat_lt (rest_on rest) CA_BLOCK_LEAST) (today.short + 1) 0 (grind (arith, nat_tests)), cond-false (nat_lt (rest_on rest) CA_BLOCK_LEAST) (yesterday.short + 0) 0 (grind (arith, nat_tests)))
]

longest_most : (holds : Bool) (longest rest : ℕ) → longest ≤ needed_limit → rest ≤ needed_limit → cond holds (max longest rest) longest ≤ needed_limit
longest_most true longest rest h g = omega arith
longest_most false longest rest h g = h

pub begun_kept : (new : Bool) (s : CanadaDays) → IsCanadaDays s → IsCanadaDays (days_begun new s)
begun_kept false s h = h
begun_kept true s h = record {
  minutes = omega arith;
  count_today = record { few = omega arith; bounded = omega arith };
  count_yesterday = h.count_today;
  lost_before = h.count_yesterday.few;
  run = elim h.run [ inl u ↦ inl (u.0, u.1, refl, u.2) | inr u ↦ (let v = u.1 in inr (u.0, omega arith)) ];
}

rested_kept : (s : CanadaDays) → IsCanadaDays s → IsCanadaDays (days_rested s)
rested_kept s h = record {
  minutes = omega arith;
  count_today = record { few = h.count_today.few; bounded = longest_most true s.today.longest (rest_on s.rest) h.count_today.bounded (omega arith) };
  count_yesterday = record { few = h.count_yesterday.few; bounded = longest_most s.reaches s.yesterday.longest (rest_on s.rest) h.count_yesterday.bounded (omega arith) };
  lost_before = h.lost_before;
  run = short_rested s.rest s.today s.yesterday 0 (omega arith) h.run s.reaches;
}

both_split : (u : CanadaDays) → keeps_split u ≡ true → (u.today.lost ≤ CA_LOST_LIMIT) × (u.yesterday.lost ≤ CA_LOST_LIMIT)
both_split u h = (grind (arith, nat_tests), grind (arith, nat_tests))

upto : (a b : ℕ) → nat_le a b ≡ true → a ≤ b
upto a b h = grind (arith, nat_tests)

-- the days with a minute of duty that keeps its way
kept_by_way : (way : RestWay) (u : CanadaDays) → keeps_way way u ≡ true → (u.today.lost ≤ lost_limit way) × (u.yesterday.lost ≤ lost_limit way)
kept_by_way Split u k = both_split u k
kept_by_way Defer u k =
    let p = passes_means u k in
    let m = p.most in
    (p.today_most, elim (cases_lt CA_LOST_LIMIT u.yesterday.lost) [ inl l ↦ m l | inr l ↦ omega arith ])

worked_kept : (s u : CanadaDays) → IsCanadaDays s → u ≡ days_worked s → keeps_days u ≡ true → IsCanadaDays u
worked_kept s u h e k =
    let w = kept_by_way s.way (days_worked s) (ap keeps_days (sym e) ∙ k) in
    subst IsCanadaDays (sym e) (record {
      minutes = omega arith;
      count_today = record { few = w.0; bounded = h.count_today.bounded };
      count_yesterday = record { few = w.1; bounded = h.count_yesterday.bounded };
      lost_before = h.lost_before;
      run = inr (omega arith, omega arith);
    })

pub days_kept : (s : CanadaDays) (x : Activity) (new : Bool) (date : ℤ) (u : CanadaDays) (m : Option Mark) → IsCanadaDays s → days_after s x new date ≡ Some (u, m) → IsCanadaDays u
days_kept s x new date u m h e = elim (days_cases s x new date u m e) [
  | inl r ↦ subst IsCanadaDays (sym r.days) (rested_kept (days_begun new s) (begun_kept new s h))
  | inr r ↦ worked_kept (days_begun new s) u (begun_kept new s h) r.days r.keeps
]

-- # What was seen of today

-- what is seen of the day of this minute, before it, where a short rest over midnight is in progress
pub record IsBegun (start : ℕ) (s : CanadaDays) (at : ℕ) : Type 0 where
  pub minutes : s.minute + 1 ≡ day_so_far start (at + 1)
  pub longest : s.today.longest ≤ s.rest

pub begun_seen : (start : ℕ) (s : CanadaDays) (at : ℕ) → IsCanadaDays s → (0 < s.yesterday.short → IsSeen start s at) → 0 < (days_begun (begins_day start at) s).yesterday.short → IsBegun start (days_begun (begins_day start at) s) at
begun_seen start s at h seen = elim (day_goes start at) [
  | inl k ↦ (
      let e = k.2 in
      subst (λ (v : CanadaDays). 0 < v.yesterday.short → IsBegun start v at) (sym (cond-true (begins_day start at) (days_turned s) s k.0)) (λ l. record { minutes = omega arith; longest = omega arith }))
  | inr k ↦ (
      let e = k.2 in
      subst (λ (v : CanadaDays). 0 < v.yesterday.short → IsBegun start v at) (sym (cond-false (begins_day start at) (days_turned s) s k.0))
      (λ l. let v = seen l in let m = v.minutes in record { minutes = omega arith; longest = v.longest }))
]

-- short rest of yesterday stays short only while the run in progress is
still_short : (rest short : ℕ) → 0 < cond (nat_lt rest CA_BLOCK_LEAST) (short + 0) 0 → (rest < CA_BLOCK_LEAST) × (0 < short)
still_short rest short l = elim (cases_lt rest CA_BLOCK_LEAST) [
  | inl k ↦ (k, (let e = cond-true (nat_lt rest CA_BLOCK_LEAST) (short + 0) 0 (grind (arith, nat_tests)) in omega arith))
  | inr k ↦ absurd (let e = cond-false (nat_lt rest CA_BLOCK_LEAST) (short + 0) 0 (grind (arith, nat_tests)) in omega arith)
]

pub seen_on : (start : ℕ) (s : CanadaDays) (at : ℕ) (x : Activity) (date : ℤ) (u : CanadaDays) (m : Option Mark) → IsCanadaDays s → (0 < s.yesterday.short → IsSeen start s at) →
    days_after s x (begins_day start at) date ≡ Some (u, m) → 0 < u.yesterday.short → IsSeen start u (at + 1)
seen_on start s at x date u m h seen e = let t : CanadaDays = days_begun (begins_day start at) s in elim (days_cases s x (begins_day start at) date u m e) [
  | inl r ↦ subst (λ (v : CanadaDays). 0 < v.yesterday.short → IsSeen start v (at + 1)) (sym r.days) (λ l.
      let k = still_short (rest_on t.rest) t.yesterday.short l in
      let b = begun_seen start s at h seen k.1 in
      let n = b.minutes in
      let g = b.longest in
      let most = so_far_most start (at + 1) in
      let few = k.0 in
      record { minutes = omega arith; longest = omega arith })
  | inr r ↦ subst (λ (v : CanadaDays). 0 < v.yesterday.short → IsSeen start v (at + 1)) (sym r.days) (λ l. absurd (omega arith))
]

-- # The cycle

length_after : (restart run : ℕ) (sums : List ℕ) → length (after_rest restart run sums) ≡ length sums
length_after restart run sums = elim (cases_lt run restart) [
  | inl l ↦ (let e : after_rest restart run sums ≡ sums = grind (arith, nat_tests) in ap length e)
  | inr l ↦ (let e : after_rest restart run sums ≡ cleared sums = grind (arith, nat_tests) in ap length e ∙ length-cleared sums)
]

today_after : (restart run n : ℕ) (sums : List ℕ) → today sums ≤ n → today (after_rest restart run sums) ≤ n
today_after restart run n sums h = elim (cases_lt run restart) [
  | inl l ↦ (let e : after_rest restart run sums ≡ sums = grind (arith, nat_tests) in subst (λ s. today s ≤ n) (sym e) h)
  | inr l ↦ (let e : after_rest restart run sums ≡ cleared sums = grind (arith, nat_tests) in subst (λ s. today s ≤ n) (sym e) (let z = today_cleared sums in omega arith))
]

-- the sums where a day may begin hold no more duty than minutes before this one
turned_fits : (start : ℕ) (sums : List ℕ) (at : ℕ) → today sums ≤ day_so_far start at → today (turned (begins_day start at) sums) + 1 ≤ day_so_far start (at + 1)
turned_fits start sums at h = elim (day_goes start at) [
  | inl k ↦ (let e = k.2 in subst (λ b. today (turned b sums) + 1 ≤ day_so_far start (at + 1)) (sym k.0) (let z = today_rolled sums in omega arith))
  | inr k ↦ (let e = k.2 in subst (λ b. today (turned b sums) + 1 ≤ day_so_far start (at + 1)) (sym k.0) (omega arith))
]

pub has_room : (start : ℕ) (c : CycleCount) (at : ℕ) (x : Activity) → today c.sums ≤ day_so_far start at → HasRoom c x (begins_day start at)
has_room start c at x h =
    let a = turned_fits start c.sums at h in
    let b = so_far_most start (at + 1) in
    let e = one_most (works x) in
    omega arith

record IsCycleAt (start : ℕ) (c : CycleCount) (at : ℕ) : Type 0 where
  counts : IsCycleCount c
  fits : today c.sums ≤ day_so_far start at

without_rested : (b : Bool) (cycle without : ℕ) → (cycle ≡ CA_CYCLE_2) ⊎ (without ≡ 0) → (cycle ≡ CA_CYCLE_2) ⊎ (cond b without 0 ≡ 0)
without_rested true cycle without h = h
without_rested false cycle without h = inr refl

least_of : (b : Bool) (n m : ℕ) → n ≤ m → cond b n 0 ≤ m
least_of true n m h = h
least_of false n m h = omega arith

cycle_rest_kept : (start : ℕ) (c : CycleCount) (at : ℕ) → IsCycleAt start c at → IsCycleAt start (cycle_rested c (begins_day start at)) (at + 1)
cycle_rest_kept start c at h =
    let k = h.counts in
    let new : List ℕ = turned (begins_day start at) c.sums in
    let t = turned_fits start c.sums at h.fits in
    record {
      counts = record {
        days_counted = length_after (cycle_reset c.cycle) (c.rest + 1) new ∙ (length-turned (begins_day start at) c.sums ∙ k.days_counted);
        rests_most = omega arith;
        since_most = least_of (nat_lt (c.rest + 1) CA_DAY_OFF) (since_on c.since) since_limit (omega arith);
        without_most = least_of (nat_lt (c.rest + 1) CA_DAY_OFF) c.without without_limit k.without_most;
        no_without = without_rested (nat_lt (c.rest + 1) CA_DAY_OFF) c.cycle c.without k.no_without;
      };
      fits = today_after (cycle_reset c.cycle) (c.rest + 1) (day_so_far start (at + 1)) new (omega arith);
    }

counts_without : (cycle n : ℕ) → (cycle ≡ CA_CYCLE_2) ⊎ (cond (nat_eq cycle CA_CYCLE_2) n 0 ≡ 0)
counts_without cycle n = elim (cases_eq cycle CA_CYCLE_2) [ inl e ↦ inl e | inr e ↦ inr (cond-false (nat_eq cycle CA_CYCLE_2) n 0 (grind (arith, nat_tests))) ]

cycle_work_kept : (start : ℕ) (c : CycleCount) (at : ℕ) → IsCycleAt start c at → IsCycleAt start (cycle_worked c (begins_day start at)) (at + 1)
cycle_work_kept start c at h =
    let k = h.counts in
    let new : List ℕ = turned (begins_day start at) c.sums in
    let t = turned_fits start c.sums at h.fits in
    let d = today_added 1 new in
    record {
      counts = record {
        days_counted = length-added 1 new ∙ (length-turned (begins_day start at) c.sums ∙ k.days_counted);
        rests_most = omega arith;
        since_most = omega arith;
        without_most = least_of (nat_eq c.cycle CA_CYCLE_2) (min (c.without + 1) without_limit) without_limit (omega arith);
        no_without = counts_without c.cycle (min (c.without + 1) without_limit);
      };
      fits = omega arith;
    }

pub cycle_cases : (c u : CycleCount) (x : Activity) (new : Bool) → cycle_after c x new ≡ Some u → ((rests x ≡ true) × (u ≡ cycle_rested c new)) ⊎ ((rests x ≡ false) × (u ≡ cycle_worked c new))
cycle_cases c u x new h =
    let stay : Option CycleCount = Some (cycle_rested c new) in
    let go : Option CycleCount = Some (cycle_worked c new) in
    let worked : Option CycleCount = cond (cycle_ok c x new) go None in
    elim (cases_Bool (rests x)) [
      | inl r ↦ (let e : Some u ≡ Some (cycle_rested c new) = sym h ∙ cond-true (rests x) stay worked r in inl (r, (let f : u ≡ cycle_rested c new = cc in f)))
      | inr r ↦ (
          let e : Some u ≡ worked = sym h ∙ cond-false (rests x) stay worked r in
          elim (cases_Bool (cycle_ok c x new)) [
            | inl k ↦ (let g : Some u ≡ Some (cycle_worked c new) = e ∙ cond-true (cycle_ok c x new) go None k in inr (r, (let f : u ≡ cycle_worked c new = cc in f)))
            | inr k ↦ absurd (let g : Some u ≡ None = e ∙ cond-false (cycle_ok c x new) go None k in cc)
          ])
    ]

cycle_kept : (start : ℕ) (c u : CycleCount) (at : ℕ) (x : Activity) → IsCycleAt start c at → cycle_after c x (begins_day start at) ≡ Some u → IsCycleAt start u (at + 1)
cycle_kept start c u at x h e = elim (cycle_cases c u x (begins_day start at) e) [
  | inl r ↦ subst (λ v. IsCycleAt start v (at + 1)) (sym r.1) (cycle_rest_kept start c at h)
  | inr r ↦ subst (λ v. IsCycleAt start v (at + 1)) (sym r.1) (cycle_work_kept start c at h)
]

-- # States

today_zeros : (days : ℕ) → today (replicate days 0) ≤ 0
today_zeros days = subst (λ s. today s ≤ 0) (ap (λ n. replicate n 0) (length-replicate {A = ℕ} days 0)) (let z = today_cleared (replicate days 0) in omega arith)

lost_none : (way : RestWay) → 0 ≤ lost_limit way
lost_none way = omega arith

pub root_is_ca_state : (may : Bool) (way : RestWay) (cycle start first : ℕ) → IsCanadaState may way start (root_state way cycle) first
root_is_ca_state may way cycle start first = record {
  split = fresh_kept CANADA may;
  day = record { some = omega arith; fits = omega arith };
  days = record {
    minutes = omega arith;
    count_today = record { few = lost_none way; bounded = omega arith };
    count_yesterday = record { few = lost_none way; bounded = omega arith };
    lost_before = lost_none way;
    run = inl (omega arith, omega arith, refl, refl);
  };
  rest_way = refl;
  seen = λ l. absurd (omega arith);
  cycle = record {
    days_counted = length-replicate {A = ℕ} (cycle_days cycle) 0;
    rests_most = omega arith;
    since_most = omega arith;
    without_most = omega arith;
    no_without = inr refl;
  };
  fits = let z = today_zeros (cycle_days cycle) in omega arith;
}

pub is_calendar : (may : Bool) (way : RestWay) (start : ℕ) (s : CanadaState) (at : ℕ) → IsCanadaState may way start s at → IsCalendar way start s.calendar at
is_calendar may way start s at h = record { day = h.day; days = h.days; rest_way = h.rest_way; seen = h.seen; cycle = h.cycle; fits = h.fits }

pub calendar_kept : (way : RestWay) (start : ℕ) (c : Calendar) (at : ℕ) (x : Activity) (r : Calendar × Option Mark) → IsCalendar way start c at → IsAfter start c at x r → IsCalendar way start r.0 (at + 1)
calendar_kept way start c at x r h a =
    let d : IsDayDuty start r.0.day (at + 1) = subst (λ v. IsDayDuty start v (at + 1)) (sym a.day) (day_kept start c.day at x h.day) in
    let k = cycle_kept start c.cycle r.0.cycle at x (record { counts = h.cycle; fits = h.fits }) a.cycle in
    record {
      day = d;
      days = days_kept c.days x (begins_day start at) (ca_date start at) r.0.days r.1 h.days a.days;
      rest_way = days_way c.days x (begins_day start at) (ca_date start at) r.0.days r.1 a.days ∙ h.rest_way;
      seen = seen_on start c.days at x (ca_date start at) r.0.days r.1 h.days h.seen a.days;
      cycle = k.counts;
      fits = k.fits;
    }

pub next_is_ca_state : (may : Bool) (way : RestWay) (start : ℕ) (s : CanadaState) (at : ℕ) (x : Activity) (n : Next CanadaState) → IsCanadaState may way start s at → IsOneOf (ca_nexts may start s at x) n → IsCanadaState may way start n.state (at + 1)
next_is_ca_state may way start s at x n h o =
    let k = next_means may start s at x n o in
    let c = calendar_kept way start s.calendar at x k.got (is_calendar may way start s at h) (after_means start s.calendar at x k.got k.calendar) in
    let made : IsCanadaState may way start (ca_next k.got (at - run_of s.split) k.by).state (at + 1) = record {
      split = choices_kept CANADA may ca_fits s.split x k.by (omega arith) h.split k.chosen;
      day = c.day;
      days = c.days;
      rest_way = c.rest_way;
      seen = c.seen;
      cycle = c.cycle;
      fits = c.fits;
    } in
    subst (λ (m : Next CanadaState). IsCanadaState may way start m.state (at + 1)) k.is made

-- the first successor is a state too
pub first_in : (ns : List (Next CanadaState)) (t : Next CanadaState) → first_of ns ≡ Some t → IsOneOf ns t
first_in [] t e = absurd (let z : None ≡ Some t = e in cc)
first_in (n ∷ ns) t e = inl (let q : n ≡ t = cc in q)

pub first_is_ca_state : (may : Bool) (way : RestWay) (start : ℕ) (s : CanadaState) (t : Next CanadaState) (at : ℕ) (x : Activity) → IsCanadaState may way start s at → first_of (ca_nexts may start s at x) ≡ Some t → IsCanadaState may way start t.state (at + 1)
first_is_ca_state may way start s t at x h e = next_is_ca_state may way start s at x t h (first_in (ca_nexts may start s at x) t e)
