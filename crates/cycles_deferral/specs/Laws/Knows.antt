-- What the days say of deferral: the day before yesterday, the longest rests of two days, and how far the day has come.
use Rattle.std.proofs.Common.{◌≡◌, ℕ, ◌+◌, ◌-◌, ◌<◌, ◌≤◌, max, true, false, List, [], ◌∷◌, ◌++◌, length, refl, sym, ◌∙◌, ap, subst, arith, inl, inr}
use Rattle.std.specs.Prelude.{nat_lt}
use Rattle.std.proofs.lemmas.Bool.{cases_lt, cases_eq, cases_Bool, cond-true, cond-false}
use Rattle.std.proofs.lemmas.Bool.Decides.{nat_tests}
use Rattle.duty_core.specs.declared.activity.Activity.{Activity}
use Rattle.duty_core.specs.declared.limits.TheConstants.{DAY_MINUTES}
use Rattle.duty_core.specs.Activity.{rests}
use Rattle.duty_core.specs.History.{unit_at}
use Rattle.duty_core.specs.Stretch.{IsRest}
use Rattle.duty_core.specs.Deferral.{HasRestIn}
use Rattle.cycles_deferral.specs.declared.days.TheConstants.{NEEDED_LIMIT}
use Rattle.cycles_deferral.specs.declared.days.CanadaDays.{CanadaDays}
use Rattle.cycles_deferral.specs.DayMachine.{days_turned, minute_on, rest_on, days_rested, days_worked}
use Rattle.cycles_deferral.specs.Paths.{AreDays}
use Rattle.cycles_deferral.specs.Laws.LostSteps.{rests_past, length_more, rest_front, rest_last, rest_more, rest_less, lost_at_rest}
use Rattle.cycles_deferral.specs.LostSteps.{IsOpenRun}
use Rattle.cycles_deferral.specs.Laws.Tracks.{tracks_turned, tracks_rested, tracks_worked, run_at_rest, lost_earlier, days_up_to}
use Rattle.cycles_deferral.specs.Knows.{HasRestSoFar, IsLongest, ReachesBack, IsClock, IsClocked, Knows}

-- # A new day

none_longest : (day : ℕ → ℕ) (p : List Activity) (d j : ℕ) → ((k : ℕ) → k < length p → day k ≤ d) → d < j → IsLongest day p j 0
none_longest day p d j up l = record {
  small = omega arith;
  has = λ m. absurd (omega arith);
  most = λ m o h.
      let a = h.inside in
      let b = h.rest.before in
      let c = h.rest.of_day in
      let e = up h.rest.at (omega arith) in
      absurd (omega arith);
}

-- the day of the last minute is d
pub knows_turned : (day : ℕ → ℕ) (p : List Activity) (d : ℕ) (s : CanadaDays) → 1 ≤ length p → day (length p - 1) ≡ d → Knows day p d s → Knows day p (d + 1) (days_turned s)
knows_turned day p d s len e h = record {
  later = omega arith;
  tracks = tracks_turned day p d s h.tracks;
  lost_before = λ j q. h.tracks.lost_yesterday j (omega arith);
  longest_today = none_longest day p d (d + 1) h.tracks.upto (omega arith);
  longest_yesterday = λ j q. subst (λ i. IsLongest day p i s.today.longest) (let z : d ≡ j = omega arith in z) h.longest_today;
  reaches = λ t j q.
      let r : 0 < s.rest = grind (arith, nat_tests) in
      record {
        at = length p - 1;
        of_day = omega arith;
        inside = omega arith;
        rest = λ k a b. h.tracks.run.rest k (omega arith) b;
      };
  reaches_not = λ t j q k.
      let r : s.rest ≡ 0 = grind (arith, nat_tests) in
      let i = k.inside in
      let c : true ≡ false = sym (k.rest (length p - 1) (omega arith) (omega arith)) ∙ h.tracks.run.starts (omega arith) (length p - 1) (omega arith) in
      absurd (let c = c in cc);
}

-- # Stretches at one more minute

-- a stretch of one history is one of another that rests wherever the stretch does
pub rest_carried : (day : ℕ → ℕ) (p q : List Activity) (m j : ℕ) (h : HasRestIn day p m j) → ((k : ℕ) → k < h.to → rests (unit_at p k) ≡ true → rests (unit_at q k) ≡ true) → HasRestIn day q m j
rest_carried day p q m j h rest_too = record {
  from = h.from;
  to = h.to;
  at = h.at;
  rest = λ k a b. rest_too k b (h.rest k a b);
  long = h.long;
  after = h.after;
  before = h.before;
  of_day = h.of_day;
}

has_more : (day : ℕ → ℕ) (p : List Activity) (x : Activity) (m j : ℕ) → HasRestSoFar day p m j → HasRestSoFar day (p ++ x ∷ []) m j
unfolding rest_carried
has_more day p x m j h =
    let n = length_more p x in
    let i = h.inside in
    record { rest = rest_carried day p (p ++ x ∷ []) m j h.rest (λ k b r. rest_front p x k (omega arith) ∙ r); inside = omega arith }

has_less : (day : ℕ → ℕ) (p : List Activity) (x : Activity) (m j : ℕ) (h : HasRestSoFar day (p ++ x ∷ []) m j) → h.rest.to ≤ length p → HasRestSoFar day p m j
unfolding rest_carried
has_less day p x m j h i = record { rest = rest_carried day (p ++ x ∷ []) p m j h.rest (λ k b. rest_less p x k); inside = i }

-- a stretch with a minute before the minute of duty ends before it
has_before_duty : (day : ℕ → ℕ) (p : List Activity) (x : Activity) (m j : ℕ) → rests x ≡ false → HasRestSoFar day (p ++ x ∷ []) m j → HasRestSoFar day p m j
has_before_duty day p x m j r h =
    let n = length_more p x in
    let i = h.inside in
    let b = h.rest.before in
    let a = h.rest.after in
    elim (cases_lt (length p) h.rest.to) [
      | inl lt ↦ absurd (let c : true ≡ false = sym (h.rest.rest (length p) (omega arith) lt) ∙ (rest_last p x ∙ r) in cc)
      | inr le ↦ has_less day p x m j h le
    ]

longest_at_duty : (day : ℕ → ℕ) (p : List Activity) (x : Activity) (j b : ℕ) → rests x ≡ false → IsLongest day p j b → IsLongest day (p ++ x ∷ []) j b
longest_at_duty day p x j b r h = record {
  small = h.small;
  has = λ m. has_more day p x b j (h.has m);
  most = λ m l k. h.most m l (has_before_duty day p x m j r k);
}

-- a stretch that ends with the run in progress is no longer than the run
stretch_most : (p : List Activity) (r from m : ℕ) → IsOpenRun p r → m ≤ NEEDED_LIMIT → IsRest p from (length p) → from + m ≤ length p → m ≤ r
stretch_most p r from m h l k o = elim (cases_lt r m) [
  | inl lt ↦ (
      let t = h.there in
      let i : ℕ = length p - r - 1 in
      absurd (let c : true ≡ false = sym (k i (omega arith) (omega arith)) ∙ h.starts (omega arith) i (omega arith) in cc))
  | inr le ↦ le
]

-- one more minute of rest, where the run in progress has a minute in day j
longest_at_rest : (day : ℕ → ℕ) (p : List Activity) (x : Activity) (r j b : ℕ) → rests x ≡ true → IsOpenRun p r → IsLongest day p j b → ReachesBack day (p ++ x ∷ []) j → IsLongest day (p ++ x ∷ []) j (max b (rest_on r))
longest_at_rest day p x r j b e run h k =
    let q = run_at_rest p x r e run in
    let n = length_more p x in
    let sm = q.small in
    let th = q.there in
    record {
      small = let a = h.small in omega arith;
      has = λ m. elim (cases_lt b (rest_on r)) [
        | inl lt ↦ subst (λ z. HasRestSoFar day (p ++ x ∷ []) z j) (let z : rest_on r ≡ max b (rest_on r) = omega arith in z) (
            let ki = k.inside in
            record {
              rest = record {
                from = length (p ++ x ∷ []) - max (rest_on r) (length (p ++ x ∷ []) - k.at);
                to = length (p ++ x ∷ []);
                at = k.at;
                rest = λ c a1 b1. elim (cases_lt c k.at) [ inl l1 ↦ q.rest c (omega arith) b1 | inr l1 ↦ k.rest c l1 b1 ];
                long = omega arith;
                after = omega arith;
                before = ki;
                of_day = k.of_day;
              };
              inside = omega arith;
            })
        | inr le ↦ subst (λ z. HasRestSoFar day (p ++ x ∷ []) z j) (let z : b ≡ max b (rest_on r) = omega arith in z) (has_more day p x b j (h.has (omega arith)))
      ];
      most = λ m l g. elim (cases_lt (length p) g.rest.to) [
        | inl lt ↦ (
            let i = g.inside in
            let lo = g.rest.long in
            let z : g.rest.to ≡ length (p ++ x ∷ []) = omega arith in
            let y = stretch_most (p ++ x ∷ []) (rest_on r) g.rest.from m q l (λ c a1 b1. g.rest.rest c a1 (omega arith)) (omega arith) in
            omega arith)
        | inr le ↦ (let y = h.most m l (has_less day p x m j g le) in omega arith)
      ];
    }

-- and where it has none
longest_elsewhere : (day : ℕ → ℕ) (p : List Activity) (x : Activity) (j b : ℕ) → rests x ≡ true → IsLongest day p j b → (ReachesBack day p j → ⊥) → (day (length p) ≡ j → ⊥) → IsLongest day (p ++ x ∷ []) j b
longest_elsewhere day p x j b e h none other =
    let n = length_more p x in
    record {
      small = h.small;
      has = λ m. has_more day p x b j (h.has m);
      most = λ m l g. elim (cases_lt (length p) g.rest.to) [
        | inl lt ↦ (
            let i = g.inside in
            let bf = g.rest.before in
            let af = g.rest.after in
            let od = g.rest.of_day in
            elim (cases_eq g.rest.at (length p)) [
              | inl q ↦ absurd (other (sym (ap day q) ∙ od))
              | inr q ↦ absurd (none (record { at = g.rest.at; of_day = od; inside = omega arith; rest = λ c a1 b1. rest_less p x c (g.rest.rest c (omega arith) (omega arith)) }))
            ])
        | inr le ↦ h.most m l (has_less day p x m j g le)
      ];
    }

reach_more : (day : ℕ → ℕ) (p : List Activity) (x : Activity) (j : ℕ) → rests x ≡ true → ReachesBack day p j → ReachesBack day (p ++ x ∷ []) j
reach_more day p x j e h =
    let n = length_more p x in
    record {
      at = h.at;
      of_day = h.of_day;
      inside = let i = h.inside in omega arith;
      rest = λ k a b. rest_more p x k e ∙ (elim (cases_lt k (length p)) [ inl l ↦ h.rest k a l | inr l ↦ rests_past p k l ]);
    }

reach_less : (day : ℕ → ℕ) (p : List Activity) (x : Activity) (j : ℕ) → (day (length p) ≡ j → ⊥) → ReachesBack day (p ++ x ∷ []) j → ReachesBack day p j
reach_less day p x j other h =
    let n = length_more p x in
    let i = h.inside in
    record {
      at = h.at;
      of_day = h.of_day;
      inside = elim (cases_eq h.at (length p)) [ inl q ↦ absurd (other (sym (ap day q) ∙ h.of_day)) | inr q ↦ omega arith ];
      rest = λ k a b. rest_less p x k (h.rest k a (omega arith));
    }

no_reach : (day : ℕ → ℕ) (p : List Activity) (x : Activity) (j : ℕ) → rests x ≡ false → ReachesBack day (p ++ x ∷ []) j → ⊥
no_reach day p x j r h =
    let n = length_more p x in
    let i = h.inside in
    let c : true ≡ false = sym (h.rest (length p) (omega arith) (omega arith)) ∙ (rest_last p x ∙ r) in
    absurd (let c = c in cc)

-- # One more minute

pub knows_worked : (day : ℕ → ℕ) → AreDays day → (p : List Activity) (x : Activity) (d : ℕ) (s : CanadaDays) → rests x ≡ false → day (length p) ≡ d → Knows day p d s → Knows day (p ++ x ∷ []) d (days_worked s)
knows_worked day days p x d s r e h = record {
  later = h.later;
  tracks = tracks_worked day p x d s r e h.tracks;
  lost_before = λ j q. lost_earlier day days p x s.rest j r h.tracks.run (omega arith) ∙ h.lost_before j q;
  longest_today = longest_at_duty day p x d s.today.longest r h.longest_today;
  longest_yesterday = λ j q. longest_at_duty day p x j s.yesterday.longest r (h.longest_yesterday j q);
  reaches = λ t. absurd (let t = t in cc);
  reaches_not = λ t j q. no_reach day p x j r;
}

pub knows_rested : (day : ℕ → ℕ) (p : List Activity) (x : Activity) (d : ℕ) (s : CanadaDays) → rests x ≡ true → day (length p) ≡ d → Knows day p d s → Knows day (p ++ x ∷ []) d (days_rested s)
knows_rested day p x d s r e h = record {
  later = h.later;
  tracks = tracks_rested day p x d s r e h.tracks;
  lost_before = λ j q. lost_at_rest day p x j r ∙ h.lost_before j q;
  longest_today = longest_at_rest day p x s.rest d s.today.longest r h.tracks.run h.longest_today (
      let n = length_more p x in
      record {
        at = length p;
        of_day = e;
        inside = omega arith;
        rest = λ k a b. rest_more p x k r ∙ rests_past p k a;
      });
  longest_yesterday = λ j q. elim (cases_Bool s.reaches) [
    | inl t ↦ subst (IsLongest day (p ++ x ∷ []) j) (sym (cond-true s.reaches (max s.yesterday.longest (rest_on s.rest)) s.yesterday.longest t))
        (longest_at_rest day p x s.rest j s.yesterday.longest r h.tracks.run (h.longest_yesterday j q) (reach_more day p x j r (h.reaches t j q)))
    | inr t ↦ subst (IsLongest day (p ++ x ∷ []) j) (sym (cond-false s.reaches (max s.yesterday.longest (rest_on s.rest)) s.yesterday.longest t))
        (longest_elsewhere day p x j s.yesterday.longest r (h.longest_yesterday j q) (h.reaches_not t j q) (λ z. omega arith))
  ];
  reaches = λ t j q. reach_more day p x j r (h.reaches t j q);
  reaches_not = λ t j q k. h.reaches_not t j q (reach_less day p x j (λ z. omega arith) k);
}

-- # The minute of the day

-- the next place begins a day
pub clock_turned : (day : ℕ → ℕ) (p : List Activity) (d : ℕ) (s : CanadaDays) → 1 ≤ length p → day (length p - 1) + 1 ≡ d → day (length p) ≡ d → IsClocked day p d (days_turned s)
clock_turned day p d s some e f = inl (record {
  at = length p;
  passed = omega arith;
  of_day = f;
  first = λ k q. let z : k ≡ length p - 1 = omega arith in ap (λ i. day i + 1) z ∙ e;
  some = some;
})

-- while it goes on, it has not come to its end
clock_inside : (day : ℕ → ℕ) → AreDays day → (p : List Activity) (d m : ℕ) → IsClock day p d m → day (length p) ≡ d → m < DAY_MINUTES
clock_inside day days p d m h e = elim (cases_lt m DAY_MINUTES) [
  | inl l ↦ l
  | inr l ↦ (
      let q = h.passed in
      let o = h.of_day in
      let w = days.whole h.at in
      let u = days_up_to day days (h.at + DAY_MINUTES) (length p) (omega arith) in
      absurd (omega arith))
]

clock_more : (day : ℕ → ℕ) → AreDays day → (p : List Activity) (x : Activity) (d m : ℕ) → IsClock day p d m → day (length p) ≡ d → IsClock day (p ++ x ∷ []) d (minute_on m)
clock_more day days p x d m h e =
    let n = length_more p x in
    let l = clock_inside day days p d m h e in
    let q = h.passed in
    record { at = h.at; passed = omega arith; of_day = h.of_day; first = h.first; some = h.some }

pub clock_rested : (day : ℕ → ℕ) → AreDays day → (p : List Activity) (x : Activity) (d : ℕ) (s : CanadaDays) → day (length p) ≡ d → IsClocked day p d s → IsClocked day (p ++ x ∷ []) d (days_rested s)
clock_rested day days p x d s e h = elim h [
  | inl c ↦ inl (clock_more day days p x d s.minute c e)
  | inr c ↦ inr (c.0, (let a = c.1 in elim (cases_lt (rest_on s.rest) 30) [ inl l ↦ grind (arith, nat_tests) | inr l ↦ grind (arith, nat_tests) ]))
]

pub clock_worked : (day : ℕ → ℕ) → AreDays day → (p : List Activity) (x : Activity) (d : ℕ) (s : CanadaDays) → day (length p) ≡ d → IsClocked day p d s → IsClocked day (p ++ x ∷ []) d (days_worked s)
clock_worked day days p x d s e h = elim h [
  | inl c ↦ inl (clock_more day days p x d s.minute c e)
  | inr c ↦ inr ((let a = c.0 in let b = c.1 in omega arith), refl)
]

-- the last minute of a day is that at which the minutes of a day have passed
pub clock_last : (day : ℕ → ℕ) → AreDays day → (p : List Activity) (x : Activity) (d m : ℕ) → IsClock day (p ++ x ∷ []) d m → day (length p) ≡ d → nat_lt m DAY_MINUTES ≡ true → day (length p + 1) ≡ d
clock_last day days p x d m h e t =
    let n = length_more p x in
    let q = h.passed in
    let o = h.first (h.at - 1) (let s = h.some in omega arith) in
    let s = h.some in
    let l : m < DAY_MINUTES = grind (arith, nat_tests) in
    let w = days.whole (h.at - 1) in
    let u = days_up_to day days (length p + 1) (h.at - 1 + DAY_MINUTES) (omega arith) in
    let v = days.on (length p) in
    omega arith

pub clock_over : (day : ℕ → ℕ) → AreDays day → (p : List Activity) (x : Activity) (d m : ℕ) → IsClock day (p ++ x ∷ []) d m → day (length p) ≡ d → nat_lt m DAY_MINUTES ≡ false → day (length p + 1) ≡ d + 1
clock_over day days p x d m h e t =
    let n = length_more p x in
    let q = h.passed in
    let o = h.of_day in
    let l : DAY_MINUTES ≤ m = grind (arith, nat_tests) in
    let w = days.whole h.at in
    let u = days_up_to day days (h.at + DAY_MINUTES) (length p + 1) (omega arith) in
    let v = days.by_one (length p) in
    omega arith
