-- What the days say of lost minutes: those of today and of yesterday, and of the short rest that may still become lost. p is the history so far, after its padding.
use Rattle.std.proofs.Common.{◌≡◌, ℕ, ◌+◌, ◌-◌, ◌<◌, ◌≤◌, Bool, true, false, cond, ◌&&◌, List, [], ◌∷◌, ◌++◌, length, refl, ◌∙◌, ap, arith, inl, inr, zero, suc}
use Rattle.std.specs.Prelude.{nat_eq, nat_lt, nat_le}
use Rattle.std.proofs.lemmas.Bool.{cases_lt, cond-true, cond-false}
use Rattle.std.proofs.lemmas.Bool.Decides.{nat_tests}
use Rattle.duty_core.specs.declared.activity.Activity.{Activity}
use Rattle.duty_core.specs.declared.limits.TheConstants.{DAY_MINUTES, CA_BLOCK_LEAST}
use Rattle.duty_core.specs.Activity.{rests}
use Rattle.duty_core.specs.History.{unit_at}
use Rattle.duty_core.specs.LostMinutes.{is_lost, lost}
use Rattle.cycles_deferral.specs.declared.days.CanadaDays.{CanadaDays}
use Rattle.cycles_deferral.specs.DayMachine.{days_turned, rest_on, days_rested, days_worked}
use Rattle.cycles_deferral.specs.Paths.{AreDays}
use Rattle.cycles_deferral.specs.Laws.LostSteps.{places_none, rests_past, length_more, rest_last, rest_more, and_false, lost_at_rest, one_at, lost_at_duty_long, lost_at_duty_short}
use Rattle.cycles_deferral.specs.LostSteps.{IsOpenRun, day_places}
use Rattle.cycles_deferral.specs.Tracks.{Tracks}

-- # The run in progress

pub run_at_rest : (p : List Activity) (x : Activity) (r : ℕ) → rests x ≡ true → IsOpenRun p r → IsOpenRun (p ++ x ∷ []) (rest_on r)
run_at_rest p x r e h =
    let n = length_more p x in
    let t = h.there in
    let s = h.small in
    record {
      there = omega arith;
      small = omega arith;
      rest = λ k a b. rest_more p x k e ∙ (elim (cases_lt k (length p)) [ inl l ↦ h.rest k (omega arith) l | inr l ↦ rests_past p k l ]);
      starts = λ l i q. rest_more p x i e ∙ h.starts (omega arith) i (omega arith);
    }

pub run_at_duty : (p : List Activity) (x : Activity) → rests x ≡ false → IsOpenRun (p ++ x ∷ []) 0
run_at_duty p x e =
    let n = length_more p x in
    record {
      there = omega arith;
      small = omega arith;
      rest = λ k a b. absurd (omega arith);
      starts = λ l i q. ap (λ m. rests (unit_at (p ++ x ∷ []) m)) (let z : i ≡ length p = omega arith in z) ∙ (rest_last p x ∙ e);
    }

-- # Days

pub is_no_day : (a b : ℕ) → (a ≡ b → ⊥) → nat_eq a b ≡ false
is_no_day a b h = grind (arith, nat_tests)

is_day : (a b : ℕ) → a ≡ b → nat_eq a b ≡ true
is_day a b h = grind (arith, nat_tests)

-- a day that has not come has no places
pub lost_later : (day : ℕ → ℕ) (p : List Activity) (d j : ℕ) → ((k : ℕ) → k < length p → day k ≤ d) → d < j → lost day p j ≡ 0
lost_later day p d j h l = places_none (λ i. nat_eq (day i) j && is_lost p i) (length p) (λ i m. ap (λ b. b && is_lost p i) (let a = h i m in is_no_day (day i) j (λ e. omega arith)))

places_later : (day : ℕ → ℕ) (d j b n : ℕ) → ((k : ℕ) → k < n → day k ≤ d) → d < j → day_places day j b n ≡ 0
places_later day d j b n h l = places_none (λ i. nat_eq (day i) j && nat_le b i) n (λ i m. ap (λ c. c && nat_le b i) (let a = h i m in is_no_day (day i) j (λ e. omega arith)))

-- the days go up
days_up : (day : ℕ → ℕ) → AreDays day → (i n : ℕ) → day i ≤ day (i + n)
days_up day h i zero = let z : day (i + 0) ≡ day i = ap day (let z : i + 0 ≡ i = omega arith in z) in omega arith
days_up day h i (suc n) =
    let a = days_up day h i n in
    let b = h.on (i + n) in
    let z : day (i + suc n) ≡ day (i + n + 1) = ap day (let z : i + suc n ≡ i + n + 1 = omega arith in z) in
    omega arith

pub days_up_to : (day : ℕ → ℕ) → AreDays day → (i n : ℕ) → i ≤ n → day i ≤ day n
days_up_to day h i n l = let a = days_up day h i (n - i) in let z : day (i + (n - i)) ≡ day n = ap day (let z : i + (n - i) ≡ n = omega arith in z) in omega arith

-- within a day's length they go up by one at most
pub days_near : (day : ℕ → ℕ) → AreDays day → (i n : ℕ) → i ≤ n → n ≤ i + DAY_MINUTES → day n ≤ day i + 1
days_near day h i n l m = let a = days_up_to day h n (i + DAY_MINUTES) m in let b = h.whole i in omega arith

places_earlier : (day : ℕ → ℕ) → AreDays day → (r j n : ℕ) → r < CA_BLOCK_LEAST → j + 1 < day n → day_places day j (n - r) n ≡ 0
places_earlier day h r j n l m = places_none (λ i. nat_eq (day i) j && nat_le (n - r) i) n (λ i o. elim (cases_lt i (n - r)) [
  | inl lt ↦ (let z : nat_le (n - r) i ≡ false = grind (arith, nat_tests) in ap (λ b. nat_eq (day i) j && b) z ∙ and_false (nat_eq (day i) j))
  | inr le ↦ ap (λ c. c && nat_le (n - r) i) (let a = days_near day h i n (omega arith) (omega arith) in is_no_day (day i) j (λ e. omega arith))
])

last_place : (b : Bool) → cond {A = ℕ} (b && true) 1 0 ≡ cond b 1 0
last_place true = refl
last_place false = refl

places_more : (day : ℕ → ℕ) (j b n : ℕ) → b ≤ n → day_places day j b (suc n) ≡ day_places day j b n + one_at day j n
places_more day j b n l =
    let z : nat_le b n ≡ true = grind (arith, nat_tests) in
    ap (λ c. day_places day j b n + cond {A = ℕ} (nat_eq (day n) j && c) 1 0) z ∙ ap (λ m. day_places day j b n + m) (last_place (nat_eq (day n) j))

one_here : (day : ℕ → ℕ) (j n : ℕ) → day n ≡ j → one_at day j n ≡ 1
one_here day j n e = ap (λ (b : Bool). cond {A = ℕ} b 1 0) (is_day (day n) j e)

one_elsewhere : (day : ℕ → ℕ) (j n : ℕ) → (day n ≡ j → ⊥) → one_at day j n ≡ 0
one_elsewhere day j n e = ap (λ (b : Bool). cond {A = ℕ} b 1 0) (is_no_day (day n) j e)

places_empty : (day : ℕ → ℕ) (j b n : ℕ) → n ≤ b → day_places day j b n ≡ 0
places_empty day j b n l =
    places_none (λ i. nat_eq (day i) j && nat_le b i) n (λ i o. let z : nat_le b i ≡ false = grind (arith, nat_tests) in ap (λ c. nat_eq (day i) j && c) z ∙ and_false (nat_eq (day i) j))

-- # A new day

pub tracks_turned : (day : ℕ → ℕ) (p : List Activity) (d : ℕ) (s : CanadaDays) → Tracks day p d s → Tracks day p (d + 1) (days_turned s)
tracks_turned day p d s h = record {
  later = omega arith;
  run = h.run;
  upto = λ k l. let a = h.upto k l in omega arith;
  lost_today = lost_later day p d (d + 1) h.upto (omega arith);
  lost_yesterday = λ j e. ap (lost day p) (let z : j ≡ d = omega arith in z) ∙ h.lost_today;
  short_today = λ l. places_later day d (d + 1) (length p - s.rest) (length p) h.upto (omega arith);
  short_yesterday = λ l j e. ap (λ i. day_places day i (length p - s.rest) (length p)) (let z : j ≡ d = omega arith in z) ∙ h.short_today l;
  long_today = λ l. refl;
  long_yesterday = h.long_today;
}

-- # Rest

pub upto_more : (day : ℕ → ℕ) (p : List Activity) (x : Activity) (d : ℕ) → day (length p) ≡ d → ((k : ℕ) → k < length p → day k ≤ d) → (k : ℕ) → k < length (p ++ x ∷ []) → day k ≤ d
upto_more day p x d e h k l = elim (cases_lt k (length p)) [
  | inl lt ↦ h k lt
  | inr le ↦ (let n = length_more p x in let z : day k ≡ day (length p) = ap day (let y : k ≡ length p = omega arith in y) in omega arith)
]

-- the short part of a day, of which this minute is so many more
short_part : ℕ → ℕ → ℕ → ℕ
short_part r n c = cond (nat_lt (rest_on r) CA_BLOCK_LEAST) (c + n) 0

short_on : (r n c : ℕ) → rest_on r < CA_BLOCK_LEAST → short_part r n c ≡ c + n
unfolding short_part
short_on r n c l = cond-true (nat_lt (rest_on r) CA_BLOCK_LEAST) (c + n) 0 (grind (arith, nat_tests))

long_on : (r n c : ℕ) → CA_BLOCK_LEAST ≤ rest_on r → short_part r n c ≡ 0
unfolding short_part
long_on r n c l = cond-false (nat_lt (rest_on r) CA_BLOCK_LEAST) (c + n) 0 (grind (arith, nat_tests))

short_more : (day : ℕ → ℕ) (p : List Activity) (x : Activity) (r j n c : ℕ) → r ≤ length p → one_at day j (length p) ≡ n → (r < CA_BLOCK_LEAST → day_places day j (length p - r) (length p) ≡ c) →
    rest_on r < CA_BLOCK_LEAST → day_places day j (length (p ++ x ∷ []) - rest_on r) (length (p ++ x ∷ [])) ≡ short_part r n c
short_more day p x r j n c t o h l =
    let m = length_more p x in
    let a : length (p ++ x ∷ []) - rest_on r ≡ length p - r = omega arith in
    let b = places_more day j (length p - r) (length p) (omega arith) in
    let d = h (omega arith) in
    let e : day_places day j (length (p ++ x ∷ []) - rest_on r) (length (p ++ x ∷ [])) ≡ day_places day j (length p - r) (suc (length p)) =
    ap (λ b. day_places day j b (length (p ++ x ∷ []))) a ∙ ap (day_places day j (length p - r)) m in
    let f = short_on r n c l in
    omega arith

pub tracks_rested : (day : ℕ → ℕ) (p : List Activity) (x : Activity) (d : ℕ) (s : CanadaDays) → rests x ≡ true → day (length p) ≡ d → Tracks day p d s → Tracks day (p ++ x ∷ []) d (days_rested s)
unfolding short_part
tracks_rested day p x d s r e h = record {
  later = h.later;
  run = run_at_rest p x s.rest r h.run;
  upto = upto_more day p x d e h.upto;
  lost_today = lost_at_rest day p x d r ∙ h.lost_today;
  lost_yesterday = λ j f. lost_at_rest day p x j r ∙ h.lost_yesterday j f;
  short_today = short_more day p x s.rest d 1 s.today.short h.run.there (one_here day d (length p) e) h.short_today;
  short_yesterday = λ l j f. short_more day p x s.rest j 0 s.yesterday.short h.run.there (one_elsewhere day j (length p) (λ g. omega arith)) (λ m. h.short_yesterday m j f) l;
  long_today = long_on s.rest 1 s.today.short;
  long_yesterday = long_on s.rest 0 s.yesterday.short;
}

-- # Duty

lost_at_duty : (day : ℕ → ℕ) (p : List Activity) (x : Activity) (r j l c : ℕ) → rests x ≡ false → IsOpenRun p r → lost day p j ≡ l → (r < CA_BLOCK_LEAST → day_places day j (length p - r) (length p) ≡ c) →
    (CA_BLOCK_LEAST ≤ r → c ≡ 0) → lost day (p ++ x ∷ []) j ≡ l + c + one_at day j (length p)
lost_at_duty day p x r j l c w run e short long = elim (cases_lt r CA_BLOCK_LEAST) [
  | inl lt ↦ (let a = lost_at_duty_short day p x r j w run lt in let b = short lt in omega arith)
  | inr le ↦ (let a = lost_at_duty_long day p x r j w run le in let b = long le in omega arith)
]

pub tracks_worked : (day : ℕ → ℕ) (p : List Activity) (x : Activity) (d : ℕ) (s : CanadaDays) → rests x ≡ false → day (length p) ≡ d → Tracks day p d s → Tracks day (p ++ x ∷ []) d (days_worked s)
tracks_worked day p x d s r e h = record {
  later = h.later;
  run = run_at_duty p x r;
  upto = upto_more day p x d e h.upto;
  lost_today = lost_at_duty day p x s.rest d s.today.lost s.today.short r h.run h.lost_today h.short_today h.long_today ∙ ap (λ n. s.today.lost + s.today.short + n) (one_here day d (length p) e);
  lost_yesterday = λ j f. lost_at_duty day p x s.rest j s.yesterday.lost s.yesterday.short r h.run (h.lost_yesterday j f) (λ l. h.short_yesterday l j f) h.long_yesterday
      ∙ ap (λ n. s.yesterday.lost + s.yesterday.short + n) (one_elsewhere day j (length p) (λ g. omega arith));
  short_today = λ l. places_empty day d (length (p ++ x ∷ []) - 0) (length (p ++ x ∷ [])) (omega arith);
  short_yesterday = λ l j f. places_empty day j (length (p ++ x ∷ []) - 0) (length (p ++ x ∷ [])) (omega arith);
  long_today = λ l. refl;
  long_yesterday = λ l. refl;
}

-- an earlier day loses no more
pub lost_earlier : (day : ℕ → ℕ) → AreDays day → (p : List Activity) (x : Activity) (r j : ℕ) → rests x ≡ false → IsOpenRun p r → j + 1 < day (length p) → lost day (p ++ x ∷ []) j ≡ lost day p j
lost_earlier day days p x r j w h l =
    let o = one_elsewhere day j (length p) (λ g. omega arith) in
    elim (cases_lt r CA_BLOCK_LEAST) [
      | inl lt ↦ (let a = lost_at_duty_short day p x r j w h lt in let b = places_earlier day days r j (length p) lt l in omega arith)
      | inr le ↦ (let a = lost_at_duty_long day p x r j w h le in omega arith)
    ]
