-- One more unit of a calendar: what it comes by, and which mark it chooses.
use Rattle.std.proofs.Common.{◌≡◌, ℕ, ◌≤◌, Bool, true, false, cond, ◌&&◌, refl, sym, ◌∙◌, ap, arith, ◌⊎◌, inl, inr}
use Rattle.std.specs.Prelude.{ℤ, Option, None, Some, nat_lt, nat_le, if◌then◌else◌}
use Rattle.std.proofs.lemmas.Bool.{cases_Bool, cond-true, cond-false}
use Rattle.std.proofs.lemmas.Bool.Decides.{nat_tests}
use Rattle.duty_core.specs.declared.activity.Activity.{Activity}
use Rattle.duty_core.specs.declared.mark.Mark.{Mark}
use Rattle.duty_core.specs.declared.params.RestWay.TheVariants.{Split}
use Rattle.duty_core.specs.declared.limits.TheConstants.{CA_LOST_LIMIT}
use Rattle.duty_core.specs.Activity.{rests}
use Rattle.cycles_deferral.specs.declared.days.CanadaDays.{CanadaDays}
use Rattle.cycles_deferral.specs.declared.cycle.CycleCount.{CycleCount}
use Rattle.cycles_deferral.specs.DayMachine.{days_begun, days_rested, days_worked, keeps_split, keeps_way, keeps_days, mark_between, days_after}
use Rattle.cycles_deferral.specs.CycleMachine.{cycle_after}
use Rattle.canada_rules.specs.declared.state.DayDuty.{DayDuty}
use Rattle.canada_rules.specs.declared.state.Calendar.{Calendar}
use Rattle.canada_rules.specs.Machine.{begins_day, ca_date, day_after, day_ok, calendar_made, calendar_with, calendar_after}

-- what a calendar after a unit comes by
pub record IsAfter (start : ℕ) (c : Calendar) (at : ℕ) (x : Activity) (r : Calendar × Option Mark) : Type 0 where
  pub ok : day_ok start c.day at x ≡ true
  pub day : r.0.day ≡ day_after start c.day at x
  pub days : days_after c.days x (begins_day start at) (ca_date start at) ≡ Some (r.0.days, r.1)
  pub cycle : cycle_after c.cycle x (begins_day start at) ≡ Some r.0.cycle

record IsWith (d : DayDuty) (o : Option (CanadaDays × Option Mark)) (k : Option CycleCount) (r : Calendar × Option Mark) : Type 0 where
  day : r.0.day ≡ d
  days : o ≡ Some (r.0.days, r.1)
  cycle : k ≡ Some r.0.cycle

with_found : (d : DayDuty) (o : Option (CanadaDays × Option Mark)) (k : Option CycleCount) (r : Calendar × Option Mark) → calendar_with d o k ≡ Some r → IsWith d o k r
with_found d None k r e = absurd (let z : None ≡ Some r = e in cc)
with_found d (Some v) None r e = absurd (let z : None ≡ Some r = e in cc)
with_found d (Some v) (Some c) r e =
    let z : Some (calendar_made d v.0 c, v.1) ≡ Some r = e in
    let y : (calendar_made d v.0 c, v.1) ≡ r = cc in
    record {
      day = sym (ap (λ (q : Calendar × Option Mark). q.0.day) y);
      days = ap (λ (q : Calendar × Option Mark). Some (q.0.days, q.1)) y;
      cycle = ap (λ (q : Calendar × Option Mark). Some q.0.cycle) y;
    }

some_when : (b : Bool) (o : Option (Calendar × Option Mark)) (r : Calendar × Option Mark) → (if b then o else None) ≡ Some r → (b ≡ true) × (o ≡ Some r)
some_when true o r e = (refl, e)
some_when false o r e = absurd (let z : None ≡ Some r = e in cc)

pub after_means : (start : ℕ) (c : Calendar) (at : ℕ) (x : Activity) (r : Calendar × Option Mark) → calendar_after start c at x ≡ Some r → IsAfter start c at x r
after_means start c at x r e =
    let o = days_after c.days x (begins_day start at) (ca_date start at) in
    let k = cycle_after c.cycle x (begins_day start at) in
    let w = some_when (day_ok start c.day at x) (calendar_with (day_after start c.day at x) o k) r e in
    let f = with_found (day_after start c.day at x) o k r w.1 in
    record { ok = w.0; day = f.day; days = f.days; cycle = f.cycle }

when_ok : (b : Bool) (o r : Option (Calendar × Option Mark)) → b ≡ true → o ≡ r → (if b then o else None) ≡ r
when_ok true o r e f = f
when_ok false o r e f = absurd (let z : false ≡ true = e in cc)

with_these : (d : DayDuty) (o : Option (CanadaDays × Option Mark)) (k : Option CycleCount) (u : CanadaDays) (m : Option Mark) (c : CycleCount) → o ≡ Some (u, m) → k ≡ Some c → calendar_with d o k ≡ Some (calendar_made d u c, m)
with_these d o k u m c e f = ap (λ v. calendar_with d v k) e ∙ ap (calendar_with d (Some (u, m))) f

-- a calendar goes on where its three parts do
pub means_after : (start : ℕ) (c : Calendar) (at : ℕ) (x : Activity) (u : CanadaDays) (m : Option Mark) (k : CycleCount) → day_ok start c.day at x ≡ true →
    days_after c.days x (begins_day start at) (ca_date start at) ≡ Some (u, m) → cycle_after c.cycle x (begins_day start at) ≡ Some k →
    calendar_after start c at x ≡ Some (calendar_made (day_after start c.day at x) u k, m)
means_after start c at x u m k ok e f =
    let o = days_after c.days x (begins_day start at) (ca_date start at) in
    let l = cycle_after c.cycle x (begins_day start at) in
    when_ok (day_ok start c.day at x) (calendar_with (day_after start c.day at x) o l) (Some (calendar_made (day_after start c.day at x) u k, m)) ok (with_these (day_after start c.day at x) o l u m k e f)

-- # The days and their marks

-- at rest
pub record IsRested (s : CanadaDays) (x : Activity) (new : Bool) (u : CanadaDays) (m : Option Mark) : Type 0 where
  pub rest : rests x ≡ true
  pub days : u ≡ days_rested (days_begun new s)
  pub unmarked : m ≡ None

-- at duty
pub record IsWorked (s : CanadaDays) (x : Activity) (new : Bool) (date : ℤ) (u : CanadaDays) (m : Option Mark) : Type 0 where
  pub work : rests x ≡ false
  pub keeps : keeps_days u ≡ true
  pub days : u ≡ days_worked (days_begun new s)
  pub mark : m ≡ mark_between (days_begun new s) u date

pub days_cases : (s : CanadaDays) (x : Activity) (new : Bool) (date : ℤ) (u : CanadaDays) (m : Option Mark) → days_after s x new date ≡ Some (u, m) → IsRested s x new u m ⊎ IsWorked s x new date u m
days_cases s x new date u m h =
    let t : CanadaDays = days_begun new s in
    let w : CanadaDays = days_worked t in
    let go : CanadaDays × Option Mark = (w, mark_between t w date) in
    let stay : CanadaDays × Option Mark = (days_rested t, None) in
    let worked : Option (CanadaDays × Option Mark) = cond (keeps_days w) (Some go) None in
    elim (cases_Bool (rests x)) [
      | inl r ↦ (
          let e : Some (u, m) ≡ Some stay = sym h ∙ cond-true (rests x) (Some stay) worked r in
          let f : (u, m) ≡ stay = cc in
          inl (record { rest = r; days = ap (λ (z : CanadaDays × Option Mark). z.0) f; unmarked = ap (λ (z : CanadaDays × Option Mark). z.1) f }))
      | inr r ↦ (
          let e : Some (u, m) ≡ worked = sym h ∙ cond-false (rests x) (Some stay) worked r in
          elim (cases_Bool (keeps_days w)) [
            | inl k ↦ (
                let g : Some (u, m) ≡ Some go = e ∙ cond-true (keeps_days w) (Some go) None k in
                let f : (u, m) ≡ go = cc in
                let d : u ≡ w = ap (λ (z : CanadaDays × Option Mark). z.0) f in
                inr (record { work = r; keeps = ap keeps_days d ∙ k; days = d; mark = ap (λ (z : CanadaDays × Option Mark). z.1) f ∙ ap (λ v. mark_between t v date) (sym d) }))
            | inr k ↦ absurd (let g : Some (u, m) ≡ None = e ∙ cond-false (keeps_days w) (Some go) None k in cc)
          ])
    ]

pub begun_way : (new : Bool) (s : CanadaDays) → (days_begun new s).way ≡ s.way
begun_way true s = refl
begun_way false s = refl

-- days keep their way
pub days_way : (s : CanadaDays) (x : Activity) (new : Bool) (date : ℤ) (u : CanadaDays) (m : Option Mark) → days_after s x new date ≡ Some (u, m) → u.way ≡ s.way
days_way s x new date u m e = elim (days_cases s x new date u m e) [
  | inl r ↦ ap (λ (v : CanadaDays). v.way) r.days ∙ begun_way new s
  | inr r ↦ ap (λ (v : CanadaDays). v.way) r.days ∙ begun_way new s
]

neither : (a b c d : Bool) (m n : Option Mark) → b ≡ false → d ≡ false → cond (a && b) m (cond (c && d) n None) ≡ None
neither true true c d m n e f = absurd (let z : true ≡ false = e in cc)
neither true false true true m n e f = absurd (let z : true ≡ false = f in cc)
neither true false true false m n e f = refl
neither true false false d m n e f = refl
neither false b true true m n e f = absurd (let z : true ≡ false = f in cc)
neither false b true false m n e f = refl
neither false b false d m n e f = refl

is_no_more : (n : ℕ) → n ≤ CA_LOST_LIMIT → nat_lt CA_LOST_LIMIT n ≡ false
is_no_more n l = grind (arith, nat_tests)

keeps_both : (u : CanadaDays) → keeps_split u ≡ true → (u.today.lost ≤ CA_LOST_LIMIT) × (u.yesterday.lost ≤ CA_LOST_LIMIT)
keeps_both u h = (grind (arith, nat_tests), grind (arith, nat_tests))

-- Under `split` no mark of a deferral is chosen.
pub split_unmarked : (s : CanadaDays) (x : Activity) (new : Bool) (date : ℤ) (u : CanadaDays) (m : Option Mark) → s.way ≡ Split → days_after s x new date ≡ Some (u, m) → m ≡ None
split_unmarked s x new date u m w e = elim (days_cases s x new date u m e) [
  | inl r ↦ r.unmarked
  | inr r ↦ (
      let way : u.way ≡ Split = days_way s x new date u m e ∙ w in
      let k = keeps_both u (ap (λ v. keeps_way v u) (sym way) ∙ r.keeps) in
      let t : CanadaDays = days_begun new s in
      r.mark ∙ neither (nat_le t.today.lost CA_LOST_LIMIT) (nat_lt CA_LOST_LIMIT u.today.lost) (nat_le t.yesterday.lost CA_LOST_LIMIT) (nat_lt CA_LOST_LIMIT u.yesterday.lost) _ _ (is_no_more u.today.lost k.0) (is_no_more u.yesterday.lost k.1))
]
