-- Many equal minutes of one day, for the days: one by one, and at once.
use Rattle.std.proofs.Common.{◌≡◌, ℕ, ◌+◌, ◌-◌, ◌<◌, ◌≤◌, Bool, true, false, cond, ◌&&◌, refl, sym, ◌∙◌, ap, subst, arith, ◌⊎◌, inl, inr, min, max, zero, suc}
use Rattle.std.specs.Prelude.{ℤ, pos, ◌-ℤ◌, Option, None, Some, nat_lt, nat_le}
use Rattle.std.proofs.lemmas.Bool.{cases_lt, cases_Bool, cond-true, cond-false}
use Rattle.std.proofs.lemmas.Bool.Decides.{nat_tests}
use Rattle.duty_core.specs.declared.activity.Activity.{Activity}
use Rattle.duty_core.specs.declared.mark.Mark.{Mark}
use Rattle.duty_core.specs.declared.mark.Mark.TheVariants.{DeferDay}
use Rattle.duty_core.specs.declared.params.RestWay.{RestWay}
use Rattle.duty_core.specs.declared.params.RestWay.TheVariants.{Split, Defer}
use Rattle.duty_core.specs.declared.limits.TheConstants.{DAY_MINUTES, CA_BLOCK_LEAST, CA_LOST_LIMIT}
use Rattle.duty_core.specs.Activity.{rests}
use Rattle.cycles_deferral.specs.declared.days.TheConstants.{NEEDED_LIMIT}
use Rattle.cycles_deferral.specs.declared.days.DayCount.{DayCount}
use Rattle.cycles_deferral.specs.declared.days.CanadaDays.{CanadaDays}
use Rattle.cycles_deferral.specs.DayMachine.{day_count, days_made, days_begun, rested_day, days_rested, worked_day, days_worked, keeps_split, keeps_defer, keeps_way, keeps_days, mark_between, days_on, days_after}
use Rattle.cycles_deferral.specs.Laws.DeferLaws.{passes_means, passes_from}
use Rattle.cycles_deferral.specs.DayRuns.{either, days_with, days_more, days_run, days_rested_run, days_worked_run, worked_at_once, days_at_once}

-- # One minute more

count_same : (a b c d e f : ℕ) → a ≡ d → b ≡ e → c ≡ f → day_count a b c ≡ day_count d e f
count_same a b c d e f h g k = ap (λ x. day_count x b c) h ∙ (ap (λ y. day_count d y c) g ∙ ap (λ z. day_count d e z) k)

made_same : (way : RestWay) (a b c d : ℕ) (t u y v : DayCount) (before : ℕ) (reaches : Bool) → a ≡ b → c ≡ d → t ≡ u → y ≡ v → days_made way a c t y before reaches ≡ days_made way b d u v before reaches
made_same way a b c d t u y v before reaches e f g h =
    ap (λ m. days_made way m c t y before reaches) e
    ∙ (ap (λ r. days_made way b r t y before reaches) f
    ∙ (ap (λ n. days_made way b d n y before reaches) g ∙ ap (λ n. days_made way b d u n before reaches) h))

short_twice : (q r s a b : ℕ) → q ≤ r → cond (nat_lt r CA_BLOCK_LEAST) (cond (nat_lt q CA_BLOCK_LEAST) (s + a) 0 + b) 0 ≡ cond (nat_lt r CA_BLOCK_LEAST) (s + (a + b)) 0
short_twice q r s a b l = elim (cases_lt r CA_BLOCK_LEAST) [
  | inl k ↦ (
      let d = cond-true (nat_lt q CA_BLOCK_LEAST) (s + a) 0 (grind (arith, nat_tests)) in
      let e = cond-true (nat_lt r CA_BLOCK_LEAST) (cond (nat_lt q CA_BLOCK_LEAST) (s + a) 0 + b) 0 (grind (arith, nat_tests)) in
      let f = cond-true (nat_lt r CA_BLOCK_LEAST) (s + (a + b)) 0 (grind (arith, nat_tests)) in
      omega arith)
  | inr k ↦ cond-false (nat_lt r CA_BLOCK_LEAST) (cond (nat_lt q CA_BLOCK_LEAST) (s + a) 0 + b) 0 (grind (arith, nat_tests)) ∙ sym (cond-false (nat_lt r CA_BLOCK_LEAST) (s + (a + b)) 0 (grind (arith, nat_tests)))
]

longest_twice : (holds : Bool) (q r l : ℕ) → q ≤ r → cond holds (max (cond holds (max l q) l) r) (cond holds (max l q) l) ≡ cond holds (max l r) l
longest_twice true q r l h = omega arith
longest_twice false q r l h = refl

rested_twice : (q r a b : ℕ) (holds : Bool) (c : DayCount) → q ≤ r → rested_day r b holds (rested_day q a holds c) ≡ rested_day r (a + b) holds c
rested_twice q r a b holds c l = count_same c.lost _ _ c.lost _ _ refl (short_twice q r c.short a b l) (longest_twice holds q r c.longest l)

worked_twice : (a b : ℕ) (c : DayCount) → worked_day b (worked_day a c) ≡ worked_day (a + b) c
worked_twice a b c = count_same (c.lost + c.short + a + 0 + b) 0 c.longest (c.lost + c.short + (a + b)) 0 c.longest (omega arith) refl refl

rest_more : (n : ℕ) (s : CanadaDays) → days_rested_run (n + 1) (days_rested s) ≡ days_rested_run (suc n + 1) s
rest_more n s =
    let q : ℕ = min (s.rest + 1) NEEDED_LIMIT in
    let r : ℕ = min (q + (n + 1)) NEEDED_LIMIT in
    let t : ℕ = min (s.rest + (suc n + 1)) NEEDED_LIMIT in
    let e : r ≡ t = omega arith in
    let k : 1 + (n + 1) ≡ suc n + 1 = omega arith in
    made_same s.way (min (min (s.minute + 1) DAY_MINUTES + (n + 1)) DAY_MINUTES) (min (s.minute + (suc n + 1)) DAY_MINUTES) r t
    (rested_day r (n + 1) true (rested_day q 1 true s.today)) (rested_day t (suc n + 1) true s.today)
    (rested_day r 0 s.reaches (rested_day q 0 s.reaches s.yesterday)) (rested_day t 0 s.reaches s.yesterday) s.before s.reaches
    (omega arith) e
    (rested_twice q r 1 (n + 1) true s.today (omega arith) ∙ (ap (λ m. rested_day m (1 + (n + 1)) true s.today) e ∙ ap (λ m. rested_day t m true s.today) k))
    (rested_twice q r 0 0 s.reaches s.yesterday (omega arith) ∙ ap (λ m. rested_day m 0 s.reaches s.yesterday) e)

work_more : (n : ℕ) (s : CanadaDays) → days_worked_run (n + 1) (days_worked s) ≡ days_worked_run (suc n + 1) s
work_more n s =
    let k : 1 + (n + 1) ≡ suc n + 1 = omega arith in
    made_same s.way (min (min (s.minute + 1) DAY_MINUTES + (n + 1)) DAY_MINUTES) (min (s.minute + (suc n + 1)) DAY_MINUTES) 0 0
    (worked_day (n + 1) (worked_day 1 s.today)) (worked_day (suc n + 1) s.today) (worked_day 0 (worked_day 0 s.yesterday)) (worked_day 0 s.yesterday) s.before false
    (omega arith) refl (worked_twice 1 (n + 1) s.today ∙ ap (λ m. worked_day m s.today) k) (worked_twice 0 0 s.yesterday)

-- # What more duty keeps

is_last : (m n : ℕ) → nat_lt (min (m + 1) DAY_MINUTES) DAY_MINUTES ≡ false → nat_lt (min (min (m + 1) DAY_MINUTES + (n + 1)) DAY_MINUTES) DAY_MINUTES ≡ false
is_last m n e = grind (arith, nat_tests)

split_less : (s : CanadaDays) (n : ℕ) → keeps_split (days_worked_run (n + 1) (days_worked s)) ≡ true → keeps_split (days_worked s) ≡ true
split_less s n e = grind (arith, nat_tests)

defer_less : (s : CanadaDays) (n : ℕ) → keeps_defer (days_worked_run (n + 1) (days_worked s)) ≡ true → keeps_defer (days_worked s) ≡ true
defer_less s n e =
    let p = passes_means (days_worked_run (n + 1) (days_worked s)) e in
    passes_from (days_worked s) (record {
      before_both = λ l. let z = p.before_both l in omega arith;
      before_rest = λ l. p.before_rest l;
      most = λ l. let z = p.most (omega arith) in omega arith;
      both = λ l. let z = p.both (omega arith) in omega arith;
      rest = λ m l. let z = p.rest (is_last s.minute n m) (omega arith) in omega arith;
      today_most = let z = p.today_most in omega arith;
    })

way_less : (way : RestWay) (s : CanadaDays) (n : ℕ) → keeps_way way (days_worked_run (n + 1) (days_worked s)) ≡ true → keeps_way way (days_worked s) ≡ true
way_less Split s n e = split_less s n e
way_less Defer s n e = defer_less s n e

-- minutes of duty keep what the first of them keeps
keeps_less : (s : CanadaDays) (n : ℕ) → keeps_days (days_worked_run (n + 1) (days_worked s)) ≡ true → keeps_days (days_worked s) ≡ true
keeps_less s n e = way_less s.way s n e

-- # Marks

-- the same of plain numbers
mark_of : ℕ → ℕ → ℕ → ℕ → Option Mark → Option Mark → Option Mark
mark_of a b c d m o = cond (nat_le a CA_LOST_LIMIT && nat_lt CA_LOST_LIMIT b) m (cond (nat_le c CA_LOST_LIMIT && nat_lt CA_LOST_LIMIT d) o None)

crosses : (a b : ℕ) → a ≤ CA_LOST_LIMIT → CA_LOST_LIMIT < b → (nat_le a CA_LOST_LIMIT && nat_lt CA_LOST_LIMIT b) ≡ true
crosses a b h g = grind (arith, nat_tests)

stays_less : (a b : ℕ) → b ≤ CA_LOST_LIMIT → (nat_le a CA_LOST_LIMIT && nat_lt CA_LOST_LIMIT b) ≡ false
stays_less a b h = grind (arith, nat_tests)

stays_more : (a b : ℕ) → CA_LOST_LIMIT < a → (nat_le a CA_LOST_LIMIT && nat_lt CA_LOST_LIMIT b) ≡ false
stays_more a b h = grind (arith, nat_tests)

first_cond : (b c : Bool) (m o : Option Mark) → b ≡ true → cond b m (cond c o None) ≡ m
first_cond b c m o e = cond-true b m (cond c o None) e

second_cond : (b c : Bool) (m o : Option Mark) → b ≡ false → c ≡ true → cond b m (cond c o None) ≡ o
second_cond b c m o e f = cond-false b m (cond c o None) e ∙ cond-true c o None f

no_cond : (b c : Bool) (m o : Option Mark) → b ≡ false → c ≡ false → cond b m (cond c o None) ≡ None
no_cond b c m o e f = cond-false b m (cond c o None) e ∙ cond-false c o None f

stays : (a b : ℕ) → (b ≤ CA_LOST_LIMIT) ⊎ (CA_LOST_LIMIT < a) → (nat_le a CA_LOST_LIMIT && nat_lt CA_LOST_LIMIT b) ≡ false
stays a b h = elim h [ inl l ↦ stays_less a b l | inr l ↦ stays_more a b l ]

-- A mark is chosen once: today's lost minutes go from a by b to c, and yesterday's from d to e.
marks_meet : (a b c d e : ℕ) (m o : Mark) → a ≤ b → b ≤ c → d ≤ e → (CA_LOST_LIMIT < e → c ≤ CA_LOST_LIMIT) → either (mark_of a b d e (Some m) (Some o)) (mark_of b c e e (Some m) (Some o)) ≡ mark_of a c d e (Some m) (Some o)
unfolding mark_of
marks_meet a b c d e m o h g k one =
    let x = Some m in
    let y = Some o in
    elim (cases_lt CA_LOST_LIMIT e) [
      | inl l ↦ (
          -- yesterday loses too much, and today does not
          let few = one l in
          let i = stays_less a b (omega arith) in
          let j = stays_less b c few in
          let n = stays_less a c few in
          let p = stays_more e e l in
          elim (cases_lt CA_LOST_LIMIT d) [
            | inl q ↦ (
                let z = stays_more d e q in
                ap (λ v. either v (mark_of b c e e x y)) (no_cond _ _ x y i z) ∙ (no_cond _ _ x y j p ∙ sym (no_cond _ _ x y n z)))
            | inr q ↦ (
                let z = crosses d e q l in
                ap (λ v. either v (mark_of b c e e x y)) (second_cond _ _ x y i z) ∙ sym (second_cond _ _ x y n z))
          ])
      | inr l ↦ (
          let p = stays_less e e l in
          let z = stays_less d e l in
          elim (cases_lt CA_LOST_LIMIT a) [
            | inl q ↦ ap (λ v. either v (mark_of b c e e x y)) (no_cond _ _ x y (stays_more a b q) z) ∙ (no_cond _ _ x y (stays_more b c (omega arith)) p ∙ sym (no_cond _ _ x y (stays_more a c q) z))
            | inr q ↦ elim (cases_lt CA_LOST_LIMIT b) [
              | inl r ↦ ap (λ v. either v (mark_of b c e e x y)) (first_cond _ _ x y (crosses a b q r)) ∙ sym (first_cond _ _ x y (crosses a c q (omega arith)))
              | inr r ↦ ap (λ v. either v (mark_of b c e e x y)) (no_cond _ _ x y (stays_less a b r) z) ∙ (elim (cases_lt CA_LOST_LIMIT c) [
                | inl t ↦ first_cond _ _ x y (crosses b c r t) ∙ sym (first_cond _ _ x y (crosses a c q t))
                | inr t ↦ no_cond _ _ x y (stays_less b c t) p ∙ sym (no_cond _ _ x y (stays_less a c t) z)
              ])
            ]
          ])
    ]

-- days that keep their way deferred today or yesterday, but not both
way_one : (way : RestWay) (u : CanadaDays) → keeps_way way u ≡ true → CA_LOST_LIMIT < u.yesterday.lost → u.today.lost ≤ CA_LOST_LIMIT
way_one Split u e l = grind (arith, nat_tests)
way_one Defer u e l = let z = (passes_means u e).both l in omega arith

marks_once : (s : CanadaDays) (n : ℕ) (date : ℤ) → keeps_days (days_worked_run (n + 1) (days_worked s)) ≡ true →
    either (mark_between s (days_worked s) date) (mark_between (days_worked s) (days_worked_run (n + 1) (days_worked s)) date) ≡ mark_between s (days_worked_run (n + 1) (days_worked s)) date
unfolding mark_of
marks_once s n date k =
    let t : CanadaDays = days_worked s in
    let u : CanadaDays = days_worked_run (n + 1) t in
    let m : Mark = DeferDay date in
    let o : Mark = DeferDay (date -ℤ pos 1) in
    let e : t.yesterday.lost ≡ u.yesterday.lost = omega arith in
    subst (λ y. either (mark_of s.today.lost t.today.lost s.yesterday.lost t.yesterday.lost (Some m) (Some o)) (mark_of t.today.lost u.today.lost t.yesterday.lost y (Some m) (Some o))
    ≡ mark_of s.today.lost u.today.lost s.yesterday.lost y (Some m) (Some o)) e
    (marks_meet s.today.lost t.today.lost u.today.lost s.yesterday.lost t.yesterday.lost m o (omega arith) (omega arith) (omega arith) (λ l. way_one s.way u k (omega arith)))

-- # They are the same

with_with : (m k : Option Mark) (o : Option (CanadaDays × Option Mark)) → days_with m (days_with k o) ≡ days_with (either m k) o
with_with m k None = refl
with_with None k (Some r) = refl
with_with (Some a) k (Some r) = refl

-- an earlier mark stays
pub days_more_with : (m : Option Mark) (o : Option (CanadaDays × Option Mark)) (x : Activity) (date : ℤ) (n : ℕ) → days_more (days_with m o) x date n ≡ days_with m (days_more o x date n)
days_more_with m None x date n = refl
days_more_with m (Some r) x date zero = refl
days_more_with m (Some r) x date (suc n) =
    ap (λ o. days_more o x date n) (sym (with_with m r.1 (days_after r.0 x false date))) ∙ days_more_with m (days_with r.1 (days_after r.0 x false date)) x date n

none_more : (o : Option (CanadaDays × Option Mark)) (x : Activity) (date : ℤ) → days_more o x date 0 ≡ o
none_more None x date = refl
none_more (Some r) x date = refl

rests_at_once : (x : Activity) (date : ℤ) → rests x ≡ true → (n : ℕ) (s : CanadaDays) → days_more (Some (days_rested s, None)) x date n ≡ Some (days_rested_run (n + 1) s, None)
rests_at_once x date r zero s = refl
rests_at_once x date r (suc n) s =
    let t : CanadaDays = days_rested s in
    ap (λ o. days_more (days_with None o) x date n) (cond-true (rests x) (Some (days_rested t, None)) (worked_at_once t date 1) r)
    ∙ (rests_at_once x date r n t ∙ ap (λ u. Some (u, None)) (rest_more n s))

works_at_once : (x : Activity) (date : ℤ) → rests x ≡ false → (n : ℕ) (s : CanadaDays) → days_more (worked_at_once s date 1) x date n ≡ worked_at_once s date (n + 1)
works_at_once x date r zero s = none_more (worked_at_once s date 1) x date
works_at_once x date r (suc n) s =
    let t : CanadaDays = days_worked s in
    let u : CanadaDays = days_worked_run (n + 1) t in
    let one : Option Mark = mark_between s t date in
    let all : Option (CanadaDays × Option Mark) = Some (u, mark_between s u date) in
    let same : cond (keeps_days u) all None ≡ worked_at_once s date (suc n + 1) = ap (λ v. cond (keeps_days v) (Some (v, mark_between s v date)) None) (work_more n s) in
    elim (cases_Bool (keeps_days t)) [
      | inl k ↦
          ap (λ o. days_more o x date (suc n)) (cond-true (keeps_days t) (Some (t, one)) None k)
          ∙ (ap (λ o. days_more (days_with one o) x date n) (cond-false (rests x) (Some (days_rested t, None)) (worked_at_once t date 1) r)
          ∙ (days_more_with one (worked_at_once t date 1) x date n
          ∙ (ap (days_with one) (works_at_once x date r n t)
          ∙ (elim (cases_Bool (keeps_days u)) [
            | inl g ↦
                ap (days_with one) (cond-true (keeps_days u) (Some (u, mark_between t u date)) None g)
                ∙ (ap (λ m. Some (u, m)) (marks_once s n date g) ∙ sym (cond-true (keeps_days u) all None g))
            | inr g ↦ ap (days_with one) (cond-false (keeps_days u) (Some (u, mark_between t u date)) None g) ∙ sym (cond-false (keeps_days u) all None g)
          ] ∙ same))))
      | inr k ↦
          ap (λ o. days_more o x date (suc n)) (cond-false (keeps_days t) (Some (t, one)) None k)
          ∙ (sym (cond-false (keeps_days u) all None (elim (cases_Bool (keeps_days u)) [ inl g ↦ absurd (let z : true ≡ false = sym (keeps_less s n g) ∙ k in cc) | inr g ↦ g ])) ∙ same)
    ]

begun_at_once : (n : ℕ) (s : CanadaDays) (x : Activity) (date : ℤ) → days_more (days_on s x date) x date n ≡ days_at_once s x date (n + 1)
begun_at_once n s x date = elim (cases_Bool (rests x)) [
  | inl r ↦
      ap (λ o. days_more o x date n) (cond-true (rests x) (Some (days_rested s, None)) (worked_at_once s date 1) r)
      ∙ (rests_at_once x date r n s ∙ sym (cond-true (rests x) (Some (days_rested_run (n + 1) s, None)) (worked_at_once s date (n + 1)) r))
  | inr r ↦
      ap (λ o. days_more o x date n) (cond-false (rests x) (Some (days_rested s, None)) (worked_at_once s date 1) r)
      ∙ (works_at_once x date r n s ∙ sym (cond-false (rests x) (Some (days_rested_run (n + 1) s, None)) (worked_at_once s date (n + 1)) r))
]

-- Many minutes at once are what they are one by one.
pub days_run_at_once : (s : CanadaDays) (x : Activity) (new : Bool) (date : ℤ) (n : ℕ) → 1 ≤ n → days_at_once (days_begun new s) x date n ≡ days_run s x new date n
days_run_at_once s x new date zero l = absurd (omega arith)
days_run_at_once s x new date (suc n) l =
    ap (days_at_once (days_begun new s) x date) (let z : suc n ≡ n + 1 = omega arith in z) ∙ (sym (begun_at_once n (days_begun new s) x date) ∙ ap (days_more (days_after s x new date) x date) (let z : n ≡ suc n - 1 = omega arith in z))

-- and one minute is one
pub days_run_one : (s : CanadaDays) (x : Activity) (new : Bool) (date : ℤ) → days_run s x new date 1 ≡ days_after s x new date
days_run_one s x new date = none_more (days_after s x new date) x date

lose_few : (way : RestWay) (u : CanadaDays) → keeps_way way u ≡ true → DAY_MINUTES < u.today.lost → ⊥
lose_few Split u e l = grind (arith, nat_tests)
lose_few Defer u e l = let z = (passes_means u e).today_most in omega arith

-- too many minutes of duty for a day lose too much
pub too_many : (s : CanadaDays) (n : ℕ) → DAY_MINUTES < n → keeps_days (days_worked_run n s) ≡ false
too_many s n l = elim (cases_Bool (keeps_days (days_worked_run n s))) [
  | inl k ↦ absurd (lose_few s.way (days_worked_run n s) k (omega arith))
  | inr k ↦ k
]
