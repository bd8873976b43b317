-- The days at one more minute: they go on and the history is lawful so far, or there are none and it is not.
use Rattle.std.proofs.Common.{◌≡◌, ℕ, ◌+◌, ◌-◌, ◌<◌, ◌≤◌, ◌⊎◌, Bool, true, false, cond, ◌&&◌, List, [], ◌∷◌, ◌++◌, length, refl, sym, ◌∙◌, ap, subst, arith, inl, inr}
use Rattle.std.specs.Prelude.{nat_lt, nat_le, ℤ, pos, ◌-ℤ◌, Option, None, Some}
use Rattle.std.proofs.lemmas.Bool.{cases_lt, cases_eq, cases_Bool, cond-true, cond-false}
use Rattle.std.proofs.lemmas.Bool.Decides.{nat_tests}
use Rattle.std.proofs.lemmas.Int.{ints}
use Rattle.duty_core.specs.declared.activity.Activity.{Activity}
use Rattle.duty_core.specs.declared.mark.Mark.{Mark}
use Rattle.duty_core.specs.declared.mark.Mark.TheVariants.{DeferDay}
use Rattle.duty_core.specs.declared.params.RestWay.{RestWay}
use Rattle.duty_core.specs.declared.params.RestWay.TheVariants.{Split, Defer}
use Rattle.duty_core.specs.declared.limits.TheConstants.{CA_LOST_LIMIT}
use Rattle.duty_core.specs.Activity.{rests}
use Rattle.duty_core.specs.LostMinutes.{lost}
use Rattle.cycles_deferral.specs.declared.days.CanadaDays.{CanadaDays}
use Rattle.cycles_deferral.specs.DayMachine.{days_turned, days_begun, days_rested, days_worked, keeps_split, keeps_way, keeps_days, mark_between, days_after}
use Rattle.cycles_deferral.specs.Paths.{AreDays, begins, date_of}
use Rattle.cycles_deferral.specs.Laws.LostSteps.{length_more, lost_at_rest, lost_less}
use Rattle.cycles_deferral.specs.LostSteps.{IsOpenRun}
use Rattle.cycles_deferral.specs.Tracks.{Tracks}
use Rattle.cycles_deferral.specs.Laws.Tracks.{lost_later, lost_earlier}
use Rattle.cycles_deferral.specs.Knows.{IsClocked, Knows}
use Rattle.cycles_deferral.specs.Laws.Knows.{knows_turned, knows_rested, knows_worked, clock_turned, clock_rested, clock_worked}
use Rattle.cycles_deferral.specs.Laws.DeferLaws.{AllDeferred, keeps_sound, keeps_complete, deferred_at_rest, deferred_less}
use Rattle.cycles_deferral.specs.DaySteps.{Stands}

-- # What a way asks of a history

-- each day loses at most its limit
abbrev pub AllKept : (ℕ → ℕ) → List Activity → Type 0
AllKept day p = (j : ℕ) → lost day p j ≤ CA_LOST_LIMIT

-- what must hold of the lost minutes of p: no day loses too much, or each one that does is deferred
abbrev pub KeepsWay : RestWay → (ℕ → ℕ) → List Activity → Type 0
KeepsWay Split day p = AllKept day p
KeepsWay Defer day p = AllDeferred day p

-- no two days, one after the other, lose too much
abbrev pub AreApart : (ℕ → ℕ) → List Activity → Type 0
AreApart day p = (j : ℕ) → CA_LOST_LIMIT < lost day p j → CA_LOST_LIMIT < lost day p (j + 1) → ⊥

pub way_apart : (way : RestWay) (day : ℕ → ℕ) (p : List Activity) → KeepsWay way day p → AreApart day p
way_apart Split day p h j a b = let c = h j in absurd (omega arith)
way_apart Defer day p h j a b = let c = (h j a).both in absurd (omega arith)

pub way_at_rest : (way : RestWay) (day : ℕ → ℕ) (p : List Activity) (x : Activity) → rests x ≡ true → KeepsWay way day p → KeepsWay way day (p ++ x ∷ [])
way_at_rest Split day p x r h = λ j. let a = lost_at_rest day p x j r in let b = h j in omega arith
way_at_rest Defer day p x r h = deferred_at_rest day p x r h

pub way_less : (way : RestWay) (day : ℕ → ℕ) (p : List Activity) (x : Activity) → KeepsWay way day (p ++ x ∷ []) → KeepsWay way day p
way_less Split day p x h = λ j. let a = lost_less day p x j in let b = h j in omega arith
way_less Defer day p x h = deferred_less day p x h

split_sound : (day : ℕ → ℕ) → AreDays day → (p : List Activity) (x : Activity) (r : ℕ) (s : CanadaDays) → rests x ≡ false → IsOpenRun p r → Tracks day (p ++ x ∷ []) (day (length p)) s → AllKept day p → keeps_split s ≡ true → AllKept day (p ++ x ∷ [])
split_sound day days p x r s w run h old e j =
    let a : s.yesterday.lost ≤ CA_LOST_LIMIT = grind (arith, nat_tests) in
    let b : s.today.lost ≤ CA_LOST_LIMIT = grind (arith, nat_tests) in
    elim (cases_lt (day (length p)) j) [
      | inl lt ↦ (let z = lost_later day (p ++ x ∷ []) (day (length p)) j h.upto lt in omega arith)
      | inr le ↦ elim (cases_eq j (day (length p))) [
        | inl q ↦ (let z : lost day (p ++ x ∷ []) j ≡ s.today.lost = ap (lost day (p ++ x ∷ [])) q ∙ h.lost_today in omega arith)
        | inr q ↦ elim (cases_eq (j + 1) (day (length p))) [
          | inl f ↦ (let z = h.lost_yesterday j f in omega arith)
          | inr f ↦ (let z = lost_earlier day days p x r j w run (omega arith) in let y = old j in omega arith)
        ]
      ]
    ]

split_complete : (day : ℕ → ℕ) (p : List Activity) (d : ℕ) (s : CanadaDays) → Tracks day p d s → AllKept day p → keeps_split s ≡ true
split_complete day p d s h all =
    let o = h.later in
    let a = h.lost_today in
    let b = h.lost_yesterday (d - 1) (omega arith) in
    let c = all d in
    let e = all (d - 1) in
    let y : s.yesterday.lost ≤ CA_LOST_LIMIT = omega arith in
    let t : s.today.lost ≤ CA_LOST_LIMIT = omega arith in
    grind (arith, nat_tests)

way_sound : (way : RestWay) (day : ℕ → ℕ) → AreDays day → (p : List Activity) (x : Activity) (r : ℕ) (s : CanadaDays) → rests x ≡ false → IsOpenRun p r → Knows day (p ++ x ∷ []) (day (length p)) s →
    IsClocked day (p ++ x ∷ []) (day (length p)) s → KeepsWay way day p → keeps_way way s ≡ true → KeepsWay way day (p ++ x ∷ [])
way_sound Split day days p x r s w run h clock old e = split_sound day days p x r s w run h.tracks old e
way_sound Defer day days p x r s w run h clock old e = keeps_sound day days p x r s w run h clock old e

way_complete : (way : RestWay) (day : ℕ → ℕ) → AreDays day → (p : List Activity) (x : Activity) (s : CanadaDays) → rests x ≡ false → Knows day (p ++ x ∷ []) (day (length p)) s →
    IsClocked day (p ++ x ∷ []) (day (length p)) s → KeepsWay way day (p ++ x ∷ []) → keeps_way way s ≡ true
way_complete Split day days p x s w h clock g = split_complete day (p ++ x ∷ []) (day (length p)) s h.tracks g
way_complete Defer day days p x s w h clock g = keeps_complete day days p x s w h clock g

-- # Marks

-- the mark of the day with this number
abbrev pub mark_at : ℕ → Mark
mark_at number = DeferDay (date_of number)

-- the mark is that of a day that loses too much in q, and not yet in p
pub record IsNewlyLost (day : ℕ → ℕ) (p q : List Activity) (m : Mark) : Type 0 where
  pub number : ℕ
  pub is : m ≡ mark_at number
  pub more : CA_LOST_LIMIT < lost day q number
  pub less : lost day p number ≤ CA_LOST_LIMIT

-- the mark is that of the one day that does, if there is one
pub record IsMarkOf (day : ℕ → ℕ) (p q : List Activity) (o : Option Mark) : Type 0 where
  pub says : (m : Mark) → o ≡ Some m → IsNewlyLost day p q m
  pub told : (j : ℕ) → CA_LOST_LIMIT < lost day q j → lost day p j ≤ CA_LOST_LIMIT → o ≡ Some (mark_at j)

date_before : (d : ℕ) → 1 ≤ d → date_of d -ℤ pos 1 ≡ date_of (d - 1)
date_before d l = omega (arith, ints)

-- the three ways to choose a mark
first_mark : CanadaDays → CanadaDays → Bool
first_mark s t = nat_le s.today.lost CA_LOST_LIMIT && nat_lt CA_LOST_LIMIT t.today.lost

second_mark : CanadaDays → CanadaDays → Bool
second_mark s t = nat_le s.yesterday.lost CA_LOST_LIMIT && nat_lt CA_LOST_LIMIT t.yesterday.lost

mark_cases : (s t : CanadaDays) (d : ℕ) → 1 ≤ d →
    ((s.today.lost ≤ CA_LOST_LIMIT) × (CA_LOST_LIMIT < t.today.lost) × (mark_between s t (date_of d) ≡ Some (mark_at d)))
    ⊎ (((s.today.lost ≤ CA_LOST_LIMIT → t.today.lost ≤ CA_LOST_LIMIT) × (s.yesterday.lost ≤ CA_LOST_LIMIT) × (CA_LOST_LIMIT < t.yesterday.lost) × (mark_between s t (date_of d) ≡ Some (mark_at (d - 1))))
    ⊎ ((s.today.lost ≤ CA_LOST_LIMIT → t.today.lost ≤ CA_LOST_LIMIT) × (s.yesterday.lost ≤ CA_LOST_LIMIT → t.yesterday.lost ≤ CA_LOST_LIMIT) × (mark_between s t (date_of d) ≡ None)))
unfolding first_mark second_mark
mark_cases s t d l =
    let today : Option Mark = Some (mark_at d) in
    let before : Option Mark = Some (DeferDay (date_of d -ℤ pos 1)) in
    elim (cases_Bool (first_mark s t)) [
      | inl a ↦ inl (grind (arith, nat_tests), grind (arith, nat_tests), cond-true (first_mark s t) today (cond (second_mark s t) before None) a)
      | inr a ↦ (
          let e = cond-false (first_mark s t) today (cond (second_mark s t) before None) a in
          let n : s.today.lost ≤ CA_LOST_LIMIT → t.today.lost ≤ CA_LOST_LIMIT = λ k. grind (arith, nat_tests) in
          elim (cases_Bool (second_mark s t)) [
            | inl b ↦ inr (inl (n, grind (arith, nat_tests), grind (arith, nat_tests), e ∙ (cond-true (second_mark s t) before None b ∙ ap (λ (z : ℤ). Some (DeferDay z)) (date_before d l))))
            | inr b ↦ inr (inr (n, (λ k. grind (arith, nat_tests)), e ∙ cond-false (second_mark s t) before None b))
          ])
    ]

some_is : (m n : Mark) (o : Option Mark) → o ≡ Some m → o ≡ Some n → n ≡ m
some_is m n o h k = cc

none_is : (m : Mark) (o : Option Mark) → o ≡ None → o ≡ Some m → ⊥
none_is m o h k = cc

one_mark : (day : ℕ → ℕ) (p q : List Activity) (i : ℕ) (o : Option Mark) → o ≡ Some (mark_at i) → CA_LOST_LIMIT < lost day q i → lost day p i ≤ CA_LOST_LIMIT →
    ((j : ℕ) → CA_LOST_LIMIT < lost day q j → lost day p j ≤ CA_LOST_LIMIT → j ≡ i) → IsMarkOf day p q o
one_mark day p q i o e a b only = record {
  says = λ m f. record { number = i; is = some_is (mark_at i) m o e f; more = a; less = b };
  told = λ j c d. e ∙ ap (λ k. Some (mark_at k)) (sym (only j c d));
}

no_mark : (day : ℕ → ℕ) (p q : List Activity) (o : Option Mark) → o ≡ None → ((j : ℕ) → CA_LOST_LIMIT < lost day q j → lost day p j ≤ CA_LOST_LIMIT → ⊥) → IsMarkOf day p q o
no_mark day p q o e none = record {
  says = λ m f. absurd (none_is m o e f);
  told = λ j c d. absurd (none j c d);
}

marks_at_duty : (day : ℕ → ℕ) → AreDays day → (p : List Activity) (x : Activity) (s t : CanadaDays) → rests x ≡ false → Knows day p (day (length p)) s → Knows day (p ++ x ∷ []) (day (length p)) t → AreApart day (p ++ x ∷ []) →
    IsMarkOf day p (p ++ x ∷ []) (mark_between s t (date_of (day (length p))))
marks_at_duty day days p x s t r h k g =
    let d = day (length p) in
    let v = p ++ x ∷ [] in
    let two = h.later in
    let hd = h.tracks.lost_today in
    let kd = k.tracks.lost_today in
    let hy = h.tracks.lost_yesterday (d - 1) (omega arith) in
    let ky = k.tracks.lost_yesterday (d - 1) (omega arith) in
    let is : (m : ℕ) → CA_LOST_LIMIT < lost day v m → lost day p m ≤ CA_LOST_LIMIT → (m ≡ d) ⊎ (m ≡ d - 1) = λ m a b. elim (cases_lt d m) [
      | inl lt ↦ (let z = lost_later day v d m k.tracks.upto lt in absurd (omega arith))
      | inr le ↦ elim (cases_lt (m + 1) d) [
        | inl lt ↦ (let z = lost_earlier day days p x s.rest m r h.tracks.run lt in absurd (omega arith))
        | inr up ↦ elim (cases_eq m d) [ inl e ↦ inl e | inr e ↦ inr (omega arith) ]
      ]
    ] in
    elim (mark_cases s t d (omega arith)) [
      | inl c ↦ (
          let c0 = c.0 in
          let c1 = c.1 in
          one_mark day p v d (mark_between s t (date_of d)) c.2 (omega arith) (omega arith) (λ j a b. elim (is j a b) [
            | inl q ↦ q
            | inr q ↦ absurd (
                let y : lost day v j ≡ lost day v (d - 1) = ap (lost day v) q in
                let z : lost day v (d - 1 + 1) ≡ lost day v d = ap (lost day v) (let z : d - 1 + 1 ≡ d = omega arith in z) in
                g (d - 1) (omega arith) (omega arith))
          ]))
      | inr c2 ↦ elim c2 [
        | inl c ↦ (
            let c1 = c.1 in
            let c3 = c.2 in
            one_mark day p v (d - 1) (mark_between s t (date_of d)) c.3 (omega arith) (omega arith) (λ j a b. elim (is j a b) [
              | inl q ↦ absurd (
                  let y : lost day v j ≡ lost day v d = ap (lost day v) q in
                  let z : lost day p j ≡ lost day p d = ap (lost day p) q in
                  let u = c.0 (omega arith) in
                  omega arith)
              | inr q ↦ q
            ]))
        | inr c ↦ no_mark day p v (mark_between s t (date_of d)) c.2 (λ j a b. elim (is j a b) [
          | inl q ↦ (
              let y : lost day v j ≡ lost day v d = ap (lost day v) q in
              let z : lost day p j ≡ lost day p d = ap (lost day p) q in
              let u = c.0 (omega arith) in
              absurd (omega arith))
          | inr q ↦ (
              let y : lost day v j ≡ lost day v (d - 1) = ap (lost day v) q in
              let z : lost day p j ≡ lost day p (d - 1) = ap (lost day p) q in
              let u = c.1 (omega arith) in
              absurd (omega arith))
        ])
      ]
    ]

-- the same where the next minute's day may have begun
pub record Begun (day : ℕ → ℕ) (p : List Activity) (s u : CanadaDays) : Type 0 where
  pub knows : Knows day p (day (length p)) u
  pub clock : IsClocked day p (day (length p)) u
  pub way : u.way ≡ s.way

pub begun_days : (day : ℕ → ℕ) → AreDays day → (p : List Activity) (s : CanadaDays) → Stands day p s → Begun day p s (days_begun (begins day (length p)) s)
begun_days day days p s h =
    let n : ℕ = length p in
    let some = h.some in
    let a = days.on (n - 1) in
    let b = days.by_one (n - 1) in
    let z : day (n - 1 + 1) ≡ day n = ap day (let z : n - 1 + 1 ≡ n = omega arith in z) in
    elim (cases_lt (day (n - 1)) (day n)) [
      | inl lt ↦ (
          let e : day (n - 1) + 1 ≡ day n = omega arith in
          subst (Begun day p s) (sym (cond-true (begins day n) (days_turned s) s (grind (arith, nat_tests)))) (record {
            knows = subst (λ d. Knows day p d (days_turned s)) e (knows_turned day p (day (n - 1)) s some refl h.knows);
            clock = clock_turned day p (day n) s some e refl;
            way = refl;
          }))
      | inr le ↦ (
          let e : day (n - 1) ≡ day n = omega arith in
          subst (Begun day p s) (sym (cond-false (begins day n) (days_turned s) s (grind (arith, nat_tests)))) (record {
            knows = subst (λ d. Knows day p d s) e h.knows;
            clock = subst (λ d. IsClocked day p d s) e h.clock;
            way = refl;
          }))
    ]

-- a minute goes on: the days after it, and the mark
pub record GoesOn (day : ℕ → ℕ) (p : List Activity) (x : Activity) (way : RestWay) (got : Option (CanadaDays × Option Mark)) : Type 0 where
  pub days : CanadaDays
  pub mark : Option Mark
  pub is : got ≡ Some (days, mark)
  pub stands : Stands day (p ++ x ∷ []) days
  pub same_way : days.way ≡ way
  pub lawful : KeepsWay way day (p ++ x ∷ [])
  pub marks : IsMarkOf day p (p ++ x ∷ []) mark

stands_after : (day : ℕ → ℕ) (p : List Activity) (x : Activity) (s : CanadaDays) → Knows day (p ++ x ∷ []) (day (length p)) s → IsClocked day (p ++ x ∷ []) (day (length p)) s → Stands day (p ++ x ∷ []) s
stands_after day p x s h c =
    let n = length_more p x in
    let e : length p ≡ length (p ++ x ∷ []) - 1 = omega arith in
    record { some = omega arith; knows = subst (λ i. Knows day (p ++ x ∷ []) (day i) s) e h; clock = subst (λ i. IsClocked day (p ++ x ∷ []) (day i) s) e c }

-- the days after a minute at place n
abbrev pub days_at : (ℕ → ℕ) → ℕ → CanadaDays → Activity → Option (CanadaDays × Option Mark)
days_at day n s x = days_after s x (begins day n) (date_of (day n))

pub days_step : (day : ℕ → ℕ) → AreDays day → (p : List Activity) (x : Activity) (s : CanadaDays) → Stands day p s → KeepsWay s.way day p →
    GoesOn day p x s.way (days_at day (length p) s x) ⊎ ((days_at day (length p) s x ≡ None) × (KeepsWay s.way day (p ++ x ∷ []) → ⊥))
days_step day days p x s h old =
    let n : ℕ = length p in
    let u : CanadaDays = days_begun (begins day n) s in
    let b = begun_days day days p s h in
    let t : CanadaDays = days_worked u in
    let mark : Option Mark = mark_between u t (date_of (day n)) in
    let rested : Option (CanadaDays × Option Mark) = Some (days_rested u, None) in
    let worked : Option (CanadaDays × Option Mark) = cond (keeps_days t) (Some (t, mark)) None in
    elim (cases_Bool (rests x)) [
      | inl r ↦ inl (record {
        days = days_rested u;
        mark = None;
        is = cond-true (rests x) rested worked r;
        stands = stands_after day p x (days_rested u) (knows_rested day p x (day n) u r refl b.knows) (clock_rested day days p x (day n) u refl b.clock);
        same_way = b.way;
        lawful = way_at_rest s.way day p x r old;
        marks = no_mark day p (p ++ x ∷ []) None refl (λ j c d. let a = lost_at_rest day p x j r in absurd (omega arith));
      })
      | inr r ↦ (
          let k : Knows day (p ++ x ∷ []) (day n) t = knows_worked day days p x (day n) u r refl b.knows in
          let c : IsClocked day (p ++ x ∷ []) (day n) t = clock_worked day days p x (day n) u refl b.clock in
          let e : days_at day n s x ≡ worked = cond-false (rests x) rested worked r in
          let w : keeps_days t ≡ keeps_way s.way t = ap (λ z. keeps_way z t) b.way in
          elim (cases_Bool (keeps_days t)) [
            | inl ok ↦ (
                let g : KeepsWay s.way day (p ++ x ∷ []) = way_sound s.way day days p x u.rest t r b.knows.tracks.run k c old (sym w ∙ ok) in
                inl (record {
                  days = t;
                  mark = mark;
                  is = e ∙ cond-true (keeps_days t) (Some (t, mark)) None ok;
                  stands = stands_after day p x t k c;
                  same_way = b.way;
                  lawful = g;
                  marks = marks_at_duty day days p x u t r b.knows k (way_apart s.way day (p ++ x ∷ []) g);
                }))
            | inr no_ok ↦ inr (
              e ∙ cond-false (keeps_days t) (Some (t, mark)) None no_ok,
              λ g. let z : true ≡ false = sym (w ∙ way_complete s.way day days p x t r k c g) ∙ no_ok in absurd (let z = z in cc),
            )
          ])
    ]
