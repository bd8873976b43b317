-- Where one history is plainly better than another, its days may stand for those of the other.
use Rattle.std.proofs.Common.{◌≡◌, ℕ, ◌+◌, ◌-◌, ◌<◌, ◌≤◌, ◌⊎◌, min, Bool, true, false, cond, ◌&&◌, List, [], ◌∷◌, length, refl, sym, ◌∙◌, ap, subst, arith, inl, inr, zero, suc}
use Rattle.std.specs.Prelude.{nat_eq, nat_le, ℤ, Option, Some}
use Rattle.std.proofs.lemmas.Bool.{cases_lt, cases_Bool}
use Rattle.std.proofs.lemmas.Bool.Decides.{nat_tests}
use Rattle.duty_core.specs.declared.activity.Activity.{Activity}
use Rattle.duty_core.specs.declared.activity.Activity.TheVariants.{Serve}
use Rattle.duty_core.specs.declared.mark.Mark.{Mark}
use Rattle.duty_core.specs.declared.limits.TheConstants.{CA_BLOCK_LEAST, CA_LOST_LIMIT}
use Rattle.duty_core.specs.Counting.{places}
use Rattle.duty_core.specs.RestRun.{EndsIn}
use Rattle.duty_core.specs.LostMinutes.{rest_before, lost}
use Rattle.duty_core.specs.Laws.LostLaws.{before_rest, before_stops, before_there}
use Rattle.duty_core.specs.PlainlyBetter.{IsLostBetter}
use Rattle.cycles_deferral.specs.declared.days.TheConstants.{NEEDED_LIMIT}
use Rattle.cycles_deferral.specs.declared.days.CanadaDays.{CanadaDays}
use Rattle.cycles_deferral.specs.DayMachine.{days_after, days_begun, minute_on}
use Rattle.cycles_deferral.specs.Paths.{AreDays, begins, date_of, TakesDays}
use Rattle.cycles_deferral.specs.LostSteps.{IsOpenRun}
use Rattle.cycles_deferral.specs.Tracks.{Tracks}
use Rattle.cycles_deferral.specs.Laws.Tracks.{tracks_worked, days_up_to}
use Rattle.cycles_deferral.specs.Knows.{Knows}
use Rattle.cycles_deferral.specs.DaySteps.{Stands}
use Rattle.cycles_deferral.specs.Laws.DaySteps.{begun_days}
use Rattle.cycles_deferral.specs.DayCovers.{LosesNoMore, DaysCover}
use Rattle.cycles_deferral.specs.Laws.DayCovers.{days_on_cases}

-- # The run in progress

-- each history ends with some run
pub ends_in : (p : List Activity) → EndsIn p (rest_before p (length p))
ends_in p = let t = before_there p (length p) in record {
  there = t;
  rest = λ k a b. before_rest p (length p) k b a;
  starts = λ k e. before_stops p (length p) k e;
}

run_is : (p : List Activity) (r n : ℕ) → IsOpenRun p r → EndsIn p n → r ≡ min n NEEDED_LIMIT
run_is p r n h e =
    let a = h.there in
    let b = h.small in
    let c = e.there in
    let least : r ≤ n = elim (cases_lt n r) [
      | inr l ↦ l
      | inl l ↦ absurd (let k : ℕ = length p - n - 1 in let z : true ≡ false = sym (h.rest k (omega arith) (omega arith)) ∙ e.starts k (omega arith) in cc)
    ] in
    elim (cases_lt r NEEDED_LIMIT) [
      | inr l ↦ omega arith
      | inl l ↦ elim (cases_lt r n) [
        | inr m ↦ omega arith
        | inl m ↦ absurd (let k : ℕ = length p - r - 1 in let z : true ≡ false = sym (e.rest k (omega arith) (omega arith)) ∙ h.starts l k (omega arith) in cc)
      ]
    ]

-- the run in progress is at least as long
abbrev pub RestsLonger : List Activity → List Activity → Type 0
RestsLonger p q = (n k : ℕ) → EndsIn p n → EndsIn q k → k ≤ n

rests_longer : (p q : List Activity) (r s : ℕ) → IsOpenRun p r → IsOpenRun q s → RestsLonger p q → s ≤ r
rests_longer p q r s h g l =
    let a = run_is p r (rest_before p (length p)) h (ends_in p) in
    let b = run_is q s (rest_before q (length q)) g (ends_in q) in
    let c = l (rest_before p (length p)) (rest_before q (length q)) (ends_in p) (ends_in q) in
    omega arith

-- # Lost minutes

no_more_today : (day : ℕ → ℕ) (p q : List Activity) (u v : CanadaDays) → length p ≡ length q → Tracks day p (day (length p)) u → Tracks day q (day (length p)) v → IsLostBetter day p q (day (length p)) → LosesNoMore u.today v.today
no_more_today day p q u v e h g b =
    let d = day (length p) in
    let x = (tracks_worked day p Serve d u refl refl h).lost_today in
    let y = (tracks_worked day q Serve d v refl (ap day (sym e)) g).lost_today in
    let s = h.lost_today in
    let t = g.lost_today in
    let l = b.at_rest in
    let m = b.at_duty in
    record { at_rest = omega arith; at_duty = omega arith }

no_more_yesterday : (day : ℕ → ℕ) (p q : List Activity) (u v : CanadaDays) (j : ℕ) → length p ≡ length q → j + 1 ≡ day (length p) → Tracks day p (day (length p)) u → Tracks day q (day (length p)) v → IsLostBetter day p q j → LosesNoMore u.yesterday v.yesterday
no_more_yesterday day p q u v j e f h g b =
    let d = day (length p) in
    let x = (tracks_worked day p Serve d u refl refl h).lost_yesterday j f in
    let y = (tracks_worked day q Serve d v refl (ap day (sym e)) g).lost_yesterday j f in
    let s = h.lost_yesterday j f in
    let t = g.lost_yesterday j f in
    let l = b.at_rest in
    let m = b.at_duty in
    record { at_rest = omega arith; at_duty = omega arith }

-- # A short rest over midnight is all the rest that today has so far

some_place : (f : ℕ → Bool) (n : ℕ) → 0 < places f n → (k : ℕ) × (k < n) × (f k ≡ true)
some_place f zero l = absurd (omega arith)
some_place f (suc n) l = elim (cases_Bool (f n)) [
  | inl t ↦ (n, omega arith, t)
  | inr t ↦ (
      let z : cond {A = ℕ} (f n) 1 0 ≡ 0 = ap (λ (b : Bool). cond {A = ℕ} b 1 0) t in
      let k = some_place f n (omega arith) in
      let m = k.1 in
      (k.0, omega arith, k.2))
]

both_of : (a b : ℕ) (c e : ℕ) → (nat_eq a b && nat_le c e) ≡ true → (a ≡ b) × (c ≤ e)
both_of a b c e h = (grind (arith, nat_tests), grind (arith, nat_tests))

all_of_today : (day : ℕ → ℕ) → AreDays day → (q : List Activity) (d j : ℕ) (v : CanadaDays) → j + 1 ≡ d → Knows day q d v → 0 < v.yesterday.short → v.today.longest ≤ v.rest
all_of_today day days q d j v e h l = elim (cases_lt 0 v.today.longest) [
  | inr z ↦ omega arith
  | inl some ↦ (
      let run = h.tracks.run in
      let there = run.there in
      let short : v.rest < CA_BLOCK_LEAST = elim (cases_lt v.rest CA_BLOCK_LEAST) [ inl a ↦ a | inr a ↦ absurd (let z = h.tracks.long_yesterday a in omega arith) ] in
      let c = h.tracks.short_yesterday short j e in
      let k = some_place (λ i. nat_eq (day i) j && nat_le (length q - v.rest) i) (length q) (omega arith) in
      let b = both_of (day k.0) j (length q - v.rest) k.0 k.2 in
      let b0 = b.0 in
      let b1 = b.1 in
      let s = h.longest_today.has some in
      let od = s.rest.of_day in
      let af = s.rest.after in
      let bf = s.rest.before in
      let lo = s.rest.long in
      let ins = s.inside in
      let later : k.0 < s.rest.at = elim (cases_lt k.0 s.rest.at) [ inl a ↦ a | inr a ↦ (let z = days_up_to day days s.rest.at k.0 a in absurd (omega arith)) ] in
      elim (cases_lt (s.rest.from + v.rest) (length q)) [
        | inr a ↦ omega arith
        | inl a ↦ absurd (let i : ℕ = length q - v.rest - 1 in let z : true ≡ false = sym (s.rest.rest i (omega arith) (omega arith)) ∙ run.starts (omega arith) i (omega arith) in cc)
      ])
]

rest_today : (day : ℕ → ℕ) → AreDays day → (p q : List Activity) (d : ℕ) (u v : CanadaDays) → length p ≡ length q → Knows day p d u → Knows day q d v → v.rest ≤ u.rest → v.today.longest ≤ v.rest → v.today.longest ≤ u.today.longest
rest_today day days p q d u v e h g r l = elim (cases_lt 0 v.today.longest) [
  | inr z ↦ omega arith
  | inl some ↦ (
      let s = g.longest_today.has some in
      let od = s.rest.of_day in
      let bf = s.rest.before in
      let ins = s.inside in
      let run = h.tracks.run in
      let there = run.there in
      let up = h.tracks.upto (length p - 1) (omega arith) in
      let on = days_up_to day days s.rest.at (length p - 1) (omega arith) in
      let m = h.longest_today.most u.rest run.small (record {
        rest = record {
          from = length p - u.rest;
          to = length p;
          at = length p - 1;
          rest = run.rest;
          long = omega arith;
          after = omega arith;
          before = omega arith;
          of_day = omega arith;
        };
        inside = omega arith;
      }) in
      omega arith)
]

-- # Plainly better

-- what is compared of two histories of one length, after their padding, where no deferral goes on
pub record AreDaysBetter (day : ℕ → ℕ) (p q : List Activity) : Type 0 where
  pub same_length : length p ≡ length q
  pub run : RestsLonger p q
  pub today : IsLostBetter day p q (day (length p))
  pub yesterday : (j : ℕ) → j + 1 ≡ day (length p) → IsLostBetter day p q j
  pub kept : (j : ℕ) → (j + 1 ≡ day (length p)) ⊎ (j + 2 ≡ day (length p)) → lost day p j ≤ CA_LOST_LIMIT
  pub other_kept : (j : ℕ) → (j + 1 ≡ day (length p)) ⊎ (j + 2 ≡ day (length p)) → lost day q j ≤ CA_LOST_LIMIT

begun_better : (day : ℕ → ℕ) → AreDays day → (p q : List Activity) (u v : CanadaDays) → Knows day p (day (length p)) u → Knows day q (day (length p)) v → u.way ≡ v.way → u.minute ≡ v.minute → AreDaysBetter day p q → DaysCover u v
begun_better day days p q u v h g w m b =
    let d = day (length p) in
    let two = h.later in
    let j : ℕ = d - 1 in
    let e : j + 1 ≡ d = omega arith in
    let r = rests_longer p q u.rest v.rest h.tracks.run g.tracks.run b.run in
    let y : LosesNoMore u.yesterday v.yesterday = no_more_yesterday day p q u v j b.same_length e h.tracks g.tracks (b.yesterday j e) in
    let k = b.kept (d - 2) (inr (omega arith)) in
    let l = h.lost_before (d - 2) (omega arith) in
    let ly = g.tracks.lost_yesterday j e in
    let ky = b.other_kept j (inl e) in
    let yd = y.at_duty in
    record {
      same_way = w;
      same_minute = m;
      rested = r;
      today_no_more = no_more_today day p q u v b.same_length h.tracks g.tracks b.today;
      yesterday = elim (cases_lt CA_LOST_LIMIT (u.yesterday.lost + u.yesterday.short)) [
        | inr le ↦ inl le
        | inl lt ↦ inr (y, inr (rest_today day days p q d u v b.same_length h g r (all_of_today day days q d j v e g (omega arith))))
      ];
      ends = inl (omega arith);
    }

minute_begun : (new : Bool) (a b : CanadaDays) → a.minute ≡ b.minute → (days_begun new a).minute ≡ (days_begun new b).minute
minute_begun true a b e = refl
minute_begun false a b e = e

-- The days of the better history may stand for those of the other.
pub days_better : (day : ℕ → ℕ) → AreDays day → (p q : List Activity) (a b : CanadaDays) → Stands day p a → Stands day q b → a.way ≡ b.way → a.minute ≡ b.minute → AreDaysBetter day p q →
    DaysCover (days_begun (begins day (length p)) a) (days_begun (begins day (length p)) b)
days_better day days p q a b h g w m better =
    let n = better.same_length in
    let u = begun_days day days p a h in
    let v = begun_days day days q b g in
    let v2 : Knows day q (day (length p)) (days_begun (begins day (length p)) b) = subst (λ i. Knows day q (day i) (days_begun (begins day i) b)) (sym n) v.knows in
    let ways : (days_begun (begins day (length p)) b).way ≡ b.way = subst (λ i. (days_begun (begins day i) b).way ≡ b.way) (sym n) v.way in
    begun_better day days p q (days_begun (begins day (length p)) a) (days_begun (begins day (length p)) b) u.knows v2 (u.way ∙ (w ∙ sym ways)) (minute_begun (begins day (length p)) a b m) better

minute_after : (s : CanadaDays) (x : Activity) (new : Bool) (date : ℤ) (u : CanadaDays) (m : Option Mark) → days_after s x new date ≡ Some (u, m) → u.minute ≡ minute_on (days_begun new s).minute
minute_after s x new date u m h = elim (days_on_cases s x new date u m h) [
  | inl c ↦ ap (λ (z : CanadaDays). z.minute) c.1
  | inr c ↦ ap (λ (z : CanadaDays). z.minute) c.2
]

-- paths of one length count the same minutes of the day
pub same_minutes : (day : ℕ → ℕ) (s t a b : CanadaDays) (n : ℕ) (xs ys : List Activity) (marks others : List Mark) → length xs ≡ length ys → s.minute ≡ t.minute → TakesDays day s n xs marks a → TakesDays day t n ys others b → a.minute ≡ b.minute
same_minutes day s t a b n [] [] marks others l e h g = sym (ap (λ (z : CanadaDays). z.minute) h.1) ∙ (e ∙ ap (λ (z : CanadaDays). z.minute) g.1)
same_minutes day s t a b n [] (y ∷ ys) marks others l e h g = absurd (omega arith)
same_minutes day s t a b n (x ∷ xs) [] marks others l e h g = absurd (omega arith)
same_minutes day s t a b n (x ∷ xs) (y ∷ ys) marks others l e h g =
    let new : Bool = begins day n in
    let c = minute_after s x new (date_of (day n)) h.0 h.1 h.3 in
    let d = minute_after t y new (date_of (day n)) g.0 g.1 g.3 in
    let k = minute_begun new s t e in
    same_minutes day h.0 g.0 a b (n + 1) xs ys h.2 g.2 (omega arith) (omega arith) h.5 g.5
