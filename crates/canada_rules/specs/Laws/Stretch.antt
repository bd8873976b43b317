-- Equal units of one day, while no run of rest may end: what they lead to one by one, they lead to at once.
use Rattle.std.proofs.Common.{◌≡◌, ℕ, ◌+◌, ◌-◌, ◌/◌, ◌%◌, ◌<◌, ◌≤◌, Bool, true, false, cond, ◌&&◌, [], ◌∷◌, refl, sym, ◌∙◌, ap, subst, arith, ◌⊎◌, inl, inr, zero, suc}
use Rattle.std.specs.Prelude.{ℤ, pos, ◌-ℤ◌, Option, None, Some, nat_eq, nat_le, if◌then◌else◌}
use Rattle.std.proofs.lemmas.Bool.{cases_Bool, cases_eq, cond-true, cond-false}
use Rattle.std.proofs.lemmas.Bool.Decides.{nat_tests}
use Rattle.duty_core.specs.declared.activity.Activity.{Activity}
use Rattle.duty_core.specs.declared.mark.Mark.{Mark}
use Rattle.duty_core.specs.declared.params.RestWay.{RestWay}
use Rattle.duty_core.specs.declared.limits.TheConstants.{DAY_MINUTES, CA_DAY_DRIVING_LIMIT, CA_DAY_DUTY_LIMIT}
use Rattle.duty_core.specs.Activity.{rests, drives, works}
use Rattle.rule_core.specs.declared.nexts.Next.{Next}
use Rattle.rule_core.specs.Reach.{IsOneOf}
use Rattle.day_sums.specs.Sums.{today}
use Rattle.day_sums.specs.Laws.SumLaws.{today_rolled}
use Rattle.day_sums.specs.Counted.{turned}
use Rattle.sleeper_split.specs.declared.rule.TheConstants.SplitRule.{CANADA}
use Rattle.sleeper_split.specs.declared.count.SplitCount.{SplitCount}
use Rattle.sleeper_split.specs.Machine.{after_rest, after_duty, run_of}
use Rattle.sleeper_split.specs.Runs.{repeated}
use Rattle.sleeper_split.specs.Laws.Runs.{duty_run, duty_run_is}
use Rattle.sleeper_split.specs.Choices.{choice, choices, sleeps, at_duty, run_choices}
use Rattle.cycles_deferral.specs.declared.days.CanadaDays.{CanadaDays}
use Rattle.cycles_deferral.specs.declared.cycle.CycleCount.{CycleCount}
use Rattle.cycles_deferral.specs.DayMachine.{days_after}
use Rattle.cycles_deferral.specs.DayRuns.{either, days_with, days_more, days_run}
use Rattle.cycles_deferral.specs.Laws.DayRuns.{days_more_with, days_run_one}
use Rattle.cycles_deferral.specs.CycleMachine.{cycle_after}
use Rattle.cycles_deferral.specs.CycleRuns.{cycle_more, cycle_run, HasRoomFor}
use Rattle.cycles_deferral.specs.Laws.CycleRuns.{cycle_run_one}
use Rattle.canada_rules.specs.declared.state.DayDuty.{DayDuty}
use Rattle.canada_rules.specs.declared.state.Calendar.{Calendar}
use Rattle.canada_rules.specs.declared.state.CanadaState.{CanadaState}
use Rattle.canada_rules.specs.Machine.{ca_fits, begins_day, ca_date, day_made, day_begun, day_more, day_keeps, calendar_made, calendar_with, calendar_after, ca_made, nexts_with, ca_nexts, first_of, carried, goes_on, day_so_far, IsCanadaState}
use Rattle.canada_rules.specs.Laws.States.{day_goes, first_in, next_is_ca_state}
use Rattle.canada_rules.specs.Laws.Advance.{next_steady}
use Rattle.sleeper_split.specs.Ends.{duty_after}
use Rattle.sleeper_split.specs.Laws.EndLaws.{chosen, after_is}
use Rattle.canada_rules.specs.Ends.{next_with}
use Rattle.canada_rules.specs.Stretch.{day_more_run, calendar_run, left_of_day, IsFree, split_at_once, IsGoing}

-- one more unit while none may end
abbrev pub split_on : Activity → SplitCount → Option SplitCount
split_on x s = cond (rests x) (Some (after_rest (sleeps x) s)) (duty_after ca_fits x (Some s))

-- where so many more units lead
abbrev pub split_more : Option SplitCount → Activity → ℕ → Option SplitCount
split_more None x n = None
split_more (Some s) x zero = Some s
split_more (Some s) x (suc n) = split_more (split_on x s) x n

-- one more unit of the day, where driving and duty allow it
abbrev day_on : Activity → DayDuty → Option DayDuty
day_on x d = cond (day_keeps (day_more x d) x) (Some (day_more x d)) None

abbrev duty_more : Option DayDuty → Activity → ℕ → Option DayDuty
duty_more None x n = None
duty_more (Some d) x zero = Some d
duty_more (Some d) x (suc n) = duty_more (day_on x d) x n

-- the successor whose calendar and counts these are, after an earlier mark
abbrev pub found : Option Mark → Option (Calendar × Option Mark) → Option SplitCount → Option (Next CanadaState)
found mark None c = None
found mark (Some r) c = next_with c r.0 (either mark r.1)

-- # The parts

joined : Option DayDuty → Option (CanadaDays × Option Mark) → Option CycleCount → Option SplitCount → Option (Next CanadaState)
joined None r k c = None
joined (Some d) None k c = None
joined (Some d) (Some r) None c = None
joined (Some d) (Some r) (Some k) None = None
joined (Some d) (Some r) (Some k) (Some c) = Some (record { state = ca_made c (calendar_made d r.0 k); mark = r.1 })

found_joined : (b : Bool) (mark : Option Mark) (d : DayDuty) (o : Option (CanadaDays × Option Mark)) (k : Option CycleCount) (c : Option SplitCount) →
    found mark (if b then calendar_with d o k else None) c ≡ joined (cond b (Some d) None) (days_with mark o) k c
unfolding joined
found_joined false mark d o k c = refl
found_joined true mark d None k c = refl
found_joined true mark d (Some r) None c = refl
found_joined true mark d (Some r) (Some k) None = refl
found_joined true mark d (Some r) (Some k) (Some c) = refl

carried_joined : (mark : Option Mark) (d : Option DayDuty) (r : Option (CanadaDays × Option Mark)) (k : Option CycleCount) (c : Option SplitCount) → carried mark (joined d r k c) ≡ joined d (days_with mark r) k c
unfolding joined
carried_joined mark None r k c = refl
carried_joined mark (Some d) None k c = refl
carried_joined mark (Some d) (Some r) None c = refl
carried_joined mark (Some d) (Some r) (Some k) None = refl
carried_joined mark (Some d) (Some r) (Some k) (Some c) = refl

no_days : (d : Option DayDuty) (k : Option CycleCount) (c : Option SplitCount) → None ≡ joined d None k c
unfolding joined
no_days None k c = refl
no_days (Some d) k c = refl

no_cycle : (d : Option DayDuty) (r : Option (CanadaDays × Option Mark)) (c : Option SplitCount) → None ≡ joined d r None c
unfolding joined
no_cycle None r c = refl
no_cycle (Some d) None c = refl
no_cycle (Some d) (Some r) c = refl

no_split : (d : Option DayDuty) (r : Option (CanadaDays × Option Mark)) (k : Option CycleCount) → None ≡ joined d r k None
unfolding joined
no_split None r k = refl
no_split (Some d) None k = refl
no_split (Some d) (Some r) None = refl
no_split (Some d) (Some r) (Some k) = refl

with_none : (o : Option (CanadaDays × Option Mark)) → days_with None o ≡ o
with_none None = refl
with_none (Some r) = refl

-- # One unit

free_choices : (may : Bool) (s : SplitCount) (x : Activity) → IsFree s x → choices CANADA may ca_fits s x ≡ chosen false (split_on x s)
free_choices may s x h =
    let go = cond (nat_eq (run_of s) 0) (at_duty ca_fits x false s) (run_choices CANADA may ca_fits s x) in
    elim h [
      | inl r ↦ cond-true (rests x) (choice (after_rest (sleeps x) s) false ∷ []) go r ∙ ap (chosen false) (sym (cond-true (rests x) (Some (after_rest (sleeps x) s)) (duty_after ca_fits x (Some s)) r))
      | inr w ↦
          cond-false (rests x) (choice (after_rest (sleeps x) s) false ∷ []) go w.0
          ∙ (cond-true (nat_eq (run_of s) 0) (at_duty ca_fits x false s) (run_choices CANADA may ca_fits s x) (let z = w.1 in grind (arith, nat_tests))
          ∙ (after_is ca_fits x false (Some s) ∙ ap (chosen false) (sym (cond-false (rests x) (Some (after_rest (sleeps x) s)) (duty_after ca_fits x (Some s)) w.0))))
    ]

first_found : (o : Option (Calendar × Option Mark)) (begin : ℕ) (c : Option SplitCount) → first_of (nexts_with o begin (chosen false c)) ≡ found None o c
first_found None begin c = refl
first_found (Some r) begin None = refl
first_found (Some r) begin (Some s) = refl

one_joined : (may : Bool) (start : ℕ) (s : CanadaState) (at : ℕ) (x : Activity) → IsFree s.split x →
    first_of (ca_nexts may start s at x) ≡ joined (day_on x (day_begun (begins_day start at) s.calendar.day)) (days_after s.calendar.days x (begins_day start at) (ca_date start at))
    (cycle_after s.calendar.cycle x (begins_day start at)) (split_on x s.split)
one_joined may start s at x h =
    let new = begins_day start at in
    let d = day_begun new s.calendar.day in
    let o = days_after s.calendar.days x new (ca_date start at) in
    let k = cycle_after s.calendar.cycle x new in
    ap (λ cs. first_of (nexts_with (calendar_after start s.calendar at x) (at - run_of s.split) cs)) (free_choices may s.split x h)
    ∙ (first_found (calendar_after start s.calendar at x) (at - run_of s.split) (split_on x s.split)
    ∙ (found_joined (day_keeps (day_more x d) x) None (day_more x d) o k (split_on x s.split) ∙ ap (λ v. joined (day_on x d) v k (split_on x s.split)) (with_none o)))

-- a unit later none may end either
stays_free : (s t : SplitCount) (x : Activity) → IsFree s x → split_on x s ≡ Some t → IsFree t x
stays_free s t x h e = elim h [
  | inl r ↦ inl r
  | inr w ↦
      let ok : Bool = cond (drives x) (ca_fits (after_duty (drives x) s)) true in
      let go : Option SplitCount = Some (after_duty (drives x) s) in
      let f : Some t ≡ cond ok go None = sym e ∙ cond-false (rests x) (Some (after_rest (sleeps x) s)) (duty_after ca_fits x (Some s)) w.0 in
      elim (cases_Bool ok) [
        | inl k ↦ (let g : Some t ≡ Some (after_duty (drives x) s) = f ∙ cond-true ok go None k in let q : t ≡ after_duty (drives x) s = cc in inr (w.0, ap run_of q))
        | inr k ↦ absurd (let g : Some t ≡ None = f ∙ cond-false ok go None k in cc)
      ]
]

-- # Later units of the day

later_joined : (may : Bool) (start : ℕ) (x : Activity) (date : ℤ) (n at : ℕ) (d : Option DayDuty) (r : Option (CanadaDays × Option Mark)) (k : Option CycleCount) (c : Option SplitCount) →
    ((j : ℕ) → j < n → (begins_day start (at + j) ≡ false) × (ca_date start (at + j) ≡ date)) → ((s : SplitCount) → c ≡ Some s → IsFree s x) →
    goes_on may start (joined d r k c) at x n ≡ joined (duty_more d x n) (days_more r x date n) (cycle_more k x n) (split_more c x n)
unfolding joined
later_joined may start x date n at None r k c same free = refl
later_joined may start x date n at (Some d) None k c same free = no_days (duty_more (Some d) x n) (cycle_more k x n) (split_more c x n)
later_joined may start x date n at (Some d) (Some r) None c same free = no_cycle (duty_more (Some d) x n) (days_more (Some r) x date n) (split_more c x n)
later_joined may start x date n at (Some d) (Some r) (Some k) None same free = no_split (duty_more (Some d) x n) (days_more (Some r) x date n) (cycle_more (Some k) x n)
later_joined may start x date zero at (Some d) (Some r) (Some k) (Some c) same free = refl
later_joined may start x date (suc n) at (Some d) (Some r) (Some k) (Some c) same free =
    let s : CanadaState = ca_made c (calendar_made d r.0 k) in
    let f = same 0 (omega arith) in
    let here : at + 0 ≡ at = omega arith in
    let new : begins_day start at ≡ false = ap (begins_day start) (sym here) ∙ f.0 in
    let dated : ca_date start at ≡ date = ap (ca_date start) (sym here) ∙ f.1 in
    let h = free c refl in
    ap (λ o. goes_on may start (carried r.1 o) (at + 1) x n)
    (one_joined may start s at x h
    ∙ (ap (λ b. joined (day_on x (day_begun b d)) (days_after r.0 x b (ca_date start at)) (cycle_after k x b) (split_on x c)) new
    ∙ ap (λ m. joined (day_on x d) (days_after r.0 x false m) (cycle_after k x false) (split_on x c)) dated))
    ∙ (ap (λ o. goes_on may start o (at + 1) x n) (carried_joined r.1 (day_on x d) (days_after r.0 x false date) (cycle_after k x false) (split_on x c))
    ∙ later_joined may start x date n (at + 1) (day_on x d) (days_with r.1 (days_after r.0 x false date)) (cycle_after k x false) (split_on x c)
    (λ j l. let g = same (j + 1) (omega arith) in let z : at + (j + 1) ≡ at + 1 + j = omega arith in (ap (begins_day start) (sym z) ∙ g.0, ap (ca_date start) (sym z) ∙ g.1))
    (λ t e. stays_free c t x h e))

-- # The parts at once

-- so many more units of the day
less_day : (b : Bool) (drive duty more again : ℕ) → drive ≤ more → duty ≤ again →
    cond b (nat_le more CA_DAY_DRIVING_LIMIT && nat_le again CA_DAY_DUTY_LIMIT) true ≡ true → cond b (nat_le drive CA_DAY_DRIVING_LIMIT && nat_le duty CA_DAY_DUTY_LIMIT) true ≡ true
less_day false drive duty more again h g e = refl
less_day true drive duty more again h g e = grind (arith, nat_tests)

some_more : (b : Bool) (n : ℕ) → cond {A = ℕ} b 1 0 + cond b (n + 1) 0 ≡ cond b (suc n + 1) 0
some_more true n = omega arith
some_more false n = refl

day_twice : (n : ℕ) (x : Activity) (d : DayDuty) → day_more_run (n + 1) x (day_more x d) ≡ day_more_run (suc n + 1) x d
day_twice n x d =
    let a = some_more (drives x) n in
    let b = some_more (works x) n in
    let e : d.driving + cond (drives x) 1 0 + cond (drives x) (n + 1) 0 ≡ d.driving + cond (drives x) (suc n + 1) 0 = omega arith in
    let f : d.duty + cond (works x) 1 0 + cond (works x) (n + 1) 0 ≡ d.duty + cond (works x) (suc n + 1) 0 = omega arith in
    ap (λ m. day_made m (d.duty + cond (works x) 1 0 + cond (works x) (n + 1) 0)) e ∙ ap (day_made (d.driving + cond (drives x) (suc n + 1) 0)) f

day_at_once : ℕ → Activity → DayDuty → Option DayDuty
day_at_once n x d = cond (day_keeps (day_more_run n x d) x) (Some (day_more_run n x d)) None

no_duty : (o : Option DayDuty) (x : Activity) → duty_more o x 0 ≡ o
no_duty None x = refl
no_duty (Some d) x = refl

day_run_is : (x : Activity) (n : ℕ) (d : DayDuty) → duty_more (day_on x d) x n ≡ day_at_once (n + 1) x d
unfolding day_at_once
day_run_is x zero d = no_duty (day_on x d) x
day_run_is x (suc n) d =
    let t : DayDuty = day_more x d in
    let all : Option DayDuty = Some (day_more_run (suc n + 1) x d) in
    elim (cases_Bool (day_keeps t x)) [
      | inl k ↦
          ap (λ o. duty_more o x (suc n)) (cond-true (day_keeps t x) (Some t) None k)
          ∙ (day_run_is x n t ∙ ap (λ v. cond (day_keeps v x) (Some v) None) (day_twice n x d))
      | inr k ↦
          ap (λ o. duty_more o x (suc n)) (cond-false (day_keeps t x) (Some t) None k)
          ∙ sym (cond-false (day_keeps (day_more_run (suc n + 1) x d) x) all None (elim (cases_Bool (day_keeps (day_more_run (suc n + 1) x d) x)) [
            | inl g ↦ (
                let a = some_more (drives x) n in
                let b = some_more (works x) n in
                absurd (let z : true ≡ false = sym (less_day (drives x) t.driving t.duty (day_more_run (suc n + 1) x d).driving (day_more_run (suc n + 1) x d).duty (omega arith) (omega arith) g) ∙ k in cc))
            | inr g ↦ g
          ]))
    ]

no_counts : (o : Option SplitCount) (x : Activity) → split_more o x 0 ≡ o
no_counts None x = refl
no_counts (Some s) x = refl

fits_less : (s : SplitCount) (n : ℕ) → ca_fits (duty_run true (suc n + 1) s) ≡ true → ca_fits (after_duty true s) ≡ true
fits_less s n e = grind (arith, nat_tests)

drives_less : (b : Bool) (s : SplitCount) (n : ℕ) → cond b (ca_fits (repeated (after_duty b) (suc (suc n)) s)) true ≡ true → cond b (ca_fits (after_duty b s)) true ≡ true
drives_less false s n e = refl
drives_less true s n e = fits_less s n (ap ca_fits (sym (duty_run_is true (suc n) s)) ∙ e)

rests_on : (x : Activity) → rests x ≡ true → (n : ℕ) (s : SplitCount) → split_more (Some (after_rest (sleeps x) s)) x n ≡ Some (repeated (after_rest (sleeps x)) (suc n) s)
rests_on x r zero s = refl
rests_on x r (suc n) s =
    let t : SplitCount = after_rest (sleeps x) s in
    ap (λ o. split_more o x n) (cond-true (rests x) (Some (after_rest (sleeps x) t)) (duty_after ca_fits x (Some t)) r) ∙ rests_on x r n t

works_on : (x : Activity) → rests x ≡ false → (n : ℕ) (s : SplitCount) → split_more (duty_after ca_fits x (Some s)) x n
    ≡ cond (cond (drives x) (ca_fits (repeated (after_duty (drives x)) (suc n) s)) true) (Some (repeated (after_duty (drives x)) (suc n) s)) None
works_on x r zero s = no_counts (duty_after ca_fits x (Some s)) x
works_on x r (suc n) s =
    let t : SplitCount = after_duty (drives x) s in
    let one : Bool = cond (drives x) (ca_fits t) true in
    let last : SplitCount = repeated (after_duty (drives x)) (suc (suc n)) s in
    let all : Bool = cond (drives x) (ca_fits last) true in
    elim (cases_Bool one) [
      | inl k ↦
          ap (λ o. split_more o x (suc n)) (cond-true one (Some t) None k)
          ∙ (ap (λ o. split_more o x n) (cond-false (rests x) (Some (after_rest (sleeps x) t)) (duty_after ca_fits x (Some t)) r) ∙ works_on x r n t)
      | inr k ↦
          ap (λ o. split_more o x (suc n)) (cond-false one (Some t) None k)
          ∙ sym (cond-false all (Some last) None (elim (cases_Bool all) [ inl g ↦ absurd (let z : true ≡ false = sym (drives_less (drives x) s n g) ∙ k in cc) | inr g ↦ g ]))
    ]

split_run_is : (x : Activity) (n : ℕ) (s : SplitCount) → split_more (split_on x s) x n ≡ split_at_once (suc n) x s
split_run_is x n s =
    let stay : Option SplitCount = Some (repeated (after_rest (sleeps x)) (suc n) s) in
    let go : Option SplitCount = cond (cond (drives x) (ca_fits (repeated (after_duty (drives x)) (suc n) s)) true) (Some (repeated (after_duty (drives x)) (suc n) s)) None in
    elim (cases_Bool (rests x)) [
      | inl r ↦ ap (λ o. split_more o x n) (cond-true (rests x) (Some (after_rest (sleeps x) s)) (duty_after ca_fits x (Some s)) r) ∙ (rests_on x r n s ∙ sym (cond-true (rests x) stay go r))
      | inr r ↦ ap (λ o. split_more o x n) (cond-false (rests x) (Some (after_rest (sleeps x) s)) (duty_after ca_fits x (Some s)) r) ∙ (works_on x r n s ∙ sym (cond-false (rests x) stay go r))
    ]

-- # Units of one day

-- the units of a day from this one on begin no day, and have its date
of_day : (start at n : ℕ) → suc n ≤ left_of_day start at → (j : ℕ) → j < n → (begins_day start (at + 1 + j) ≡ false) × (ca_date start (at + 1 + j) ≡ ca_date start at)
of_day start at n l j k =
    let a : ℕ = at + (DAY_MINUTES - start) in
    let e : at + 1 + j + (DAY_MINUTES - start) ≡ a + (1 + j) = omega arith in
    let m : (at + 1 + j + (DAY_MINUTES - start)) % DAY_MINUTES ≡ a % DAY_MINUTES + (1 + j) = omega arith in
    let d : (at + 1 + j + (DAY_MINUTES - start)) / DAY_MINUTES ≡ a / DAY_MINUTES = omega arith in
    (grind (arith, nat_tests), ap (λ q. pos q -ℤ pos 1) d)

-- Equal units of one day lead a successor where its calendar and its counts lead at once.
pub stretch_is : (may : Bool) (start : ℕ) (t : Next CanadaState) (at : ℕ) (x : Activity) (n : ℕ) → 1 ≤ n → n ≤ left_of_day start at → IsFree t.state.split x →
    found t.mark (calendar_run start t.state.calendar at x n) (split_at_once n x t.state.split) ≡ goes_on may start (Some t) at x n
unfolding day_at_once
stretch_is may start t at x zero some l h = absurd (omega arith)
stretch_is may start t at x (suc n) some l h =
    let s : CanadaState = t.state in
    let new = begins_day start at in
    let date = ca_date start at in
    let d = day_begun new s.calendar.day in
    let one = days_after s.calendar.days x new date in
    let more = days_more one x date n in
    let cycle = cycle_more (cycle_after s.calendar.cycle x new) x n in
    let split = split_more (split_on x s.split) x n in
    let k : n ≡ suc n - 1 = omega arith in
    let e : n + 1 ≡ suc n = omega arith in
    found_joined (day_keeps (day_more_run (suc n) x d) x) t.mark (day_more_run (suc n) x d) (days_run s.calendar.days x new date (suc n)) (cycle_run s.calendar.cycle x new (suc n)) (split_at_once (suc n) x s.split)
    ∙ (ap (λ m. joined (day_at_once m x d) (days_with t.mark (days_run s.calendar.days x new date (suc n))) (cycle_run s.calendar.cycle x new (suc n)) (split_at_once (suc n) x s.split)) (sym e)
    ∙ (ap (λ v. joined v (days_with t.mark (days_run s.calendar.days x new date (suc n))) (cycle_run s.calendar.cycle x new (suc n)) (split_at_once (suc n) x s.split)) (sym (day_run_is x n d))
    ∙ (ap (λ m. joined (duty_more (day_on x d) x n) (days_with t.mark (days_more one x date m)) (cycle_more (cycle_after s.calendar.cycle x new) x m) (split_at_once (suc n) x s.split)) (sym k)
    ∙ (ap (λ v. joined (duty_more (day_on x d) x n) (days_with t.mark more) cycle v) (sym (split_run_is x n s.split))
    ∙ (ap (λ v. joined (duty_more (day_on x d) x n) v cycle split) (sym (days_more_with t.mark one x date n))
    ∙ (sym (later_joined may start x date n (at + 1) (day_on x d) (days_with t.mark one) (cycle_after s.calendar.cycle x new) (split_on x s.split) (of_day start at n l) (λ u f. stays_free s.split u x h f))
    ∙ (ap (λ o. goes_on may start o (at + 1) x n) (sym (carried_joined t.mark (day_on x d) one (cycle_after s.calendar.cycle x new) (split_on x s.split)))
    ∙ ap (λ o. goes_on may start (carried t.mark o) (at + 1) x n) (sym (one_joined may start s at x h)))))))))

-- # Stretch by stretch

pub goes_on_by : (may : Bool) (start : ℕ) (x : Activity) (m : ℕ) (o : Option (Next CanadaState)) (at n : ℕ) → goes_on may start o at x (m + n) ≡ goes_on may start (goes_on may start o at x m) (at + m) x n
goes_on_by may start x m None at n = refl
goes_on_by may start x zero (Some t) at n =
    ap (goes_on may start (Some t) at x) (let z : 0 + n ≡ n = omega arith in z) ∙ ap (λ i. goes_on may start (Some t) i x n) (let z : at ≡ at + 0 = omega arith in z)
goes_on_by may start x (suc m) (Some t) at n =
    let next = carried t.mark (first_of (ca_nexts may start t.state at x)) in
    ap (goes_on may start (Some t) at x) (let z : suc m + n ≡ suc (m + n) = omega arith in z)
    ∙ (goes_on_by may start x m next (at + 1) n ∙ ap (λ i. goes_on may start (goes_on may start next (at + 1) x m) i x n) (let z : at + 1 + m ≡ at + suc m = omega arith in z))

-- each successor by a unit goes on so
pub next_goes : (may : Bool) (way : RestWay) (start : ℕ) (s : CanadaState) (at : ℕ) (x : Activity) (t : Next CanadaState) → IsCanadaState may way start s at → IsOneOf (ca_nexts may start s at x) t → IsGoing may way start t (at + 1) x
next_goes may way start s at x t h o = record {
  state = next_is_ca_state may way start s at x t h o;
  free = elim (next_steady may start s at x t o) [ inl r ↦ inl r | inr w ↦ inr (w.0, w.1) ];
}

told : (o : Option (Next CanadaState)) → (o ≡ None) ⊎ ((t : Next CanadaState) × (o ≡ Some t))
told None = inl refl
told (Some t) = inr (t, refl)

pub keeps_going : (may : Bool) (way : RestWay) (start : ℕ) (x : Activity) (n : ℕ) (t u : Next CanadaState) (at : ℕ) → IsGoing may way start t at x → goes_on may start (Some t) at x n ≡ Some u → IsGoing may way start u (at + n) x
keeps_going may way start x zero t u at h e =
    let q : t ≡ u = cc in
    let z : at ≡ at + 0 = omega arith in
    subst (λ v. IsGoing may way start v (at + 0) x) q (subst (λ i. IsGoing may way start t i x) z h)
keeps_going may way start x (suc n) t u at h e = elim (told (first_of (ca_nexts may start t.state at x))) [
  | inl none ↦ absurd (let z : None ≡ Some u = sym (ap (λ o. goes_on may start (carried t.mark o) (at + 1) x n) none) ∙ e in cc)
  | inr k ↦
      let one = first_in (ca_nexts may start t.state at x) k.0 k.1 in
      let z : at + 1 + n ≡ at + suc n = omega arith in
      let next : Next CanadaState = record { state = k.0.state; mark = either t.mark k.0.mark } in
      subst (λ i. IsGoing may way start u i x) z (keeps_going may way start x n next u (at + 1)
      (let g = next_goes may way start t.state at x k.0 h.state one in record { state = g.state; free = g.free }) (sym (ap (λ o. goes_on may start (carried t.mark o) (at + 1) x n) k.1) ∙ e))
]

-- # Where the calls stand

some_most : (b : Bool) (n : ℕ) → cond {A = ℕ} b n 0 ≤ n
some_most true n = omega arith
some_most false n = omega arith

so_far_left : (start at n : ℕ) → n ≤ left_of_day start at → begins_day start at ≡ false → day_so_far start at + n ≤ DAY_MINUTES
so_far_left start at n l e =
    let a : ℕ = at + (DAY_MINUTES - start) in
    let some : 0 < a % DAY_MINUTES = elim (cases_eq (a % DAY_MINUTES) 0) [ inl z ↦ absurd (let q : true ≡ false = sym (grind (arith, nat_tests)) ∙ e in cc) | inr z ↦ omega arith ] in
    omega arith

-- duty fits in its day
pub has_room_for : (start : ℕ) (c : CycleCount) (at : ℕ) (x : Activity) (n : ℕ) → n ≤ left_of_day start at → today c.sums ≤ day_so_far start at → HasRoomFor c x (begins_day start at) n
has_room_for start c at x n l h =
    let few : cond {A = ℕ} (works x) n 0 ≤ n = some_most (works x) n in
    elim (day_goes start at) [
      | inl k ↦ subst (λ b. today (turned b c.sums) + cond (works x) n 0 ≤ DAY_MINUTES) (sym k.0) (let z = today_rolled c.sums in omega arith)
      | inr k ↦ subst (λ b. today (turned b c.sums) + cond (works x) n 0 ≤ DAY_MINUTES) (sym k.0) (let m = so_far_left start at n l k.0 in omega arith)
    ]

-- one unit is one
pub calendar_run_one : (start : ℕ) (c : Calendar) (at : ℕ) (x : Activity) → calendar_run start c at x 1 ≡ calendar_after start c at x
calendar_run_one start c at x =
    let new = begins_day start at in
    let d = day_more x (day_begun new c.day) in
    ap (λ o. if day_keeps d x then calendar_with d o (cycle_run c.cycle x new 1) else None) (days_run_one c.days x new (ca_date start at))
    ∙ ap (λ k. if day_keeps d x then calendar_with d (days_after c.days x new (ca_date start at)) k else None) (cycle_run_one c.cycle x new)
