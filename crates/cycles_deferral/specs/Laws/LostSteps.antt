-- The lost minutes of days at one more minute. A rest run that is not over is not lost, as if rest followed for good.
use Rattle.std.proofs.Common.{◌≡◌, ℕ, ◌+◌, ◌-◌, ◌<◌, ◌≤◌, Bool, true, false, cond, ◌&&◌, List, [], ◌∷◌, ◌++◌, length, refl, sym, ◌∙◌, ap, arith, length-append, inl, inr, ◌⊎◌, zero, suc}
use Rattle.std.specs.Prelude.{nat_eq, nat_le}
use Rattle.std.proofs.lemmas.Bool.{cases_lt, cases_eq}
use Rattle.std.proofs.lemmas.Bool.Decides.{nat_tests}
use Rattle.duty_core.specs.declared.activity.Activity.{Activity}
use Rattle.duty_core.specs.declared.limits.TheConstants.{CA_BLOCK_LEAST}
use Rattle.duty_core.specs.Activity.{rests}
use Rattle.duty_core.specs.History.{unit_at}
use Rattle.duty_core.specs.Laws.HistoryLaws.{unit_at-append, unit_at-last, unit_at-past}
use Rattle.duty_core.specs.Stretch.{IsRest}
use Rattle.duty_core.specs.Counting.{places}
use Rattle.duty_core.specs.LostMinutes.{is_lost, lost}
use Rattle.duty_core.specs.Laws.LostLaws.{IsKept, lost_cases, kept_not_lost}
use Rattle.duty_core.specs.Laws.LostFrontLaws.{places_less}
use Rattle.cycles_deferral.specs.LostSteps.{IsOpenRun, day_places}

-- # Lost minutes, by whether they are kept

pub lost_open : (p : List Activity) (i : ℕ) → (IsKept p i → ⊥) → is_lost p i ≡ true
lost_open p i k = elim (lost_cases p i) [ inl c ↦ c.0 | inr c ↦ absurd (k c.1) ]

lost_same : (p q : List Activity) (i : ℕ) → (IsKept p i → IsKept q i) → (IsKept q i → IsKept p i) → is_lost p i ≡ is_lost q i
lost_same p q i f g = elim (lost_cases p i) [
  | inl c ↦ c.0 ∙ sym (lost_open q i (λ k. let z : true ≡ false = sym c.0 ∙ kept_not_lost p i (g k) in cc))
  | inr c ↦ c.0 ∙ sym (kept_not_lost q i (f c.1))
]

-- # Counts of places

places_same : (f g : ℕ → Bool) (n : ℕ) → ((i : ℕ) → i < n → f i ≡ g i) → places f n ≡ places g n
places_same f g zero h = refl
places_same f g (suc n) h = let a = places_same f g n (λ i l. h i (omega arith)) in let b : f n ≡ g n = h n (omega arith) in cc

places_sum : (f g h : ℕ → Bool) (n : ℕ) → ((i : ℕ) → i < n → cond (f i) 1 0 ≡ cond (g i) 1 0 + cond (h i) 1 0) → places f n ≡ places g n + places h n
places_sum f g h zero e = refl
places_sum f g h (suc n) e = let a = places_sum f g h n (λ i l. e i (omega arith)) in let b = e n (omega arith) in omega arith

pub places_none : (f : ℕ → Bool) (n : ℕ) → ((i : ℕ) → i < n → f i ≡ false) → places f n ≡ 0
places_none f zero h = refl
places_none f (suc n) h =
    let a = places_none f n (λ i l. h i (omega arith)) in
    let b : f n ≡ false = h n (omega arith) in
    let c : cond {A = ℕ} (f n) 1 0 ≡ 0 = ap (λ (b : Bool). cond {A = ℕ} b 1 0) b in
    omega arith

-- # Places at one more minute

pub rests_past : (p : List Activity) (i : ℕ) → length p ≤ i → rests (unit_at p i) ≡ true
rests_past p i l = ap rests (unit_at-past p i l)

pub length_more : (p : List Activity) (x : Activity) → length (p ++ x ∷ []) ≡ suc (length p)
length_more p x = omega (arith, length-append p (x ∷ []))

-- rest before the last place, whatever stands there
pub rest_front : (p : List Activity) (x : Activity) (k : ℕ) → k < length p → rests (unit_at (p ++ x ∷ []) k) ≡ rests (unit_at p k)
rest_front p x k l = ap rests (unit_at-append p (x ∷ []) k l)

pub rest_last : (p : List Activity) (x : Activity) → rests (unit_at (p ++ x ∷ []) (length p)) ≡ rests x
rest_last p x = ap rests (unit_at-last p x)

-- one more minute of rest changes no place
pub rest_more : (p : List Activity) (x : Activity) (k : ℕ) → rests x ≡ true → rests (unit_at (p ++ x ∷ []) k) ≡ rests (unit_at p k)
rest_more p x k r = elim (cases_lt k (length p)) [
  | inl lt ↦ rest_front p x k lt
  | inr le ↦ elim (cases_eq k (length p)) [
    | inl e ↦ ap (λ i. rests (unit_at (p ++ x ∷ []) i)) e ∙ (rest_last p x ∙ (r ∙ sym (rests_past p k le)))
    | inr e ↦ rests_past (p ++ x ∷ []) k (omega (arith, length_more p x)) ∙ sym (rests_past p k le)
  ]
]

-- what rests with one more minute rested without it
pub rest_less : (p : List Activity) (x : Activity) (k : ℕ) → rests (unit_at (p ++ x ∷ []) k) ≡ true → rests (unit_at p k) ≡ true
rest_less p x k h = elim (cases_lt k (length p)) [ inl lt ↦ sym (rest_front p x k lt) ∙ h | inr le ↦ rests_past p k le ]

kept_as : (p q : List Activity) (i : ℕ) → ((k : ℕ) → rests (unit_at p k) ≡ rests (unit_at q k)) → IsKept p i → IsKept q i
kept_as p q i e h = record { from = h.from; after = h.after; before = h.before; rest = λ k a b. sym (e k) ∙ h.rest k a b }

lost_as : (p q : List Activity) (i : ℕ) → ((k : ℕ) → rests (unit_at p k) ≡ rests (unit_at q k)) → is_lost p i ≡ is_lost q i
lost_as p q i e = lost_same p q i (kept_as p q i e) (kept_as q p i (λ k. sym (e k)))

-- past the end nothing is lost
lost_past : (p : List Activity) (i : ℕ) → length p ≤ i → is_lost p i ≡ false
lost_past p i l = kept_not_lost p i (record { from = i; after = omega arith; before = omega arith; rest = λ k a b. rests_past p k (omega arith) })

lost_more : (day : ℕ → ℕ) (p : List Activity) (x : Activity) (j : ℕ) →
    lost day (p ++ x ∷ []) j ≡ places (λ i. nat_eq (day i) j && is_lost (p ++ x ∷ []) i) (length p) + cond (nat_eq (day (length p)) j && is_lost (p ++ x ∷ []) (length p)) 1 0
lost_more day p x j = ap (places (λ i. nat_eq (day i) j && is_lost (p ++ x ∷ []) i)) (length_more p x)

and_none : (b : Bool) → cond {A = ℕ} (b && false) 1 0 ≡ 0
and_none true = refl
and_none false = refl

and_one : (b : Bool) → cond {A = ℕ} (b && true) 1 0 ≡ cond b 1 0
and_one true = refl
and_one false = refl

pub and_false : (b : Bool) → (b && false) ≡ false
and_false true = refl
and_false false = refl

-- one more minute of rest loses nothing
pub lost_at_rest : (day : ℕ → ℕ) (p : List Activity) (x : Activity) (j : ℕ) → rests x ≡ true → lost day (p ++ x ∷ []) j ≡ lost day p j
lost_at_rest day p x j r =
    let same : (i : ℕ) → is_lost (p ++ x ∷ []) i ≡ is_lost p i = λ i. lost_as (p ++ x ∷ []) p i (λ k. rest_more p x k r) in
    let a = places_same (λ i. nat_eq (day i) j && is_lost (p ++ x ∷ []) i) (λ i. nat_eq (day i) j && is_lost p i) (length p) (λ i l. ap (λ b. nat_eq (day i) j && b) (same i)) in
    let b : cond {A = ℕ} (nat_eq (day (length p)) j && is_lost (p ++ x ∷ []) (length p)) 1 0 ≡ 0 =
    ap (λ b. cond {A = ℕ} (nat_eq (day (length p)) j && b) 1 0) (same (length p) ∙ lost_past p (length p) (omega arith)) ∙ and_none (nat_eq (day (length p)) j) in
    let c = lost_more day p x j in
    omega arith

-- a stretch of rest of the longer list lies before its last place, or after it
pub before_last : (p : List Activity) (x : Activity) (b e i : ℕ) → rests x ≡ false → IsRest (p ++ x ∷ []) b e → b ≤ i → i < e → i < length p → e ≤ length p
before_last p x b e i r h l m o = elim (cases_lt (length p) e) [
  | inl lt ↦ absurd (let c : true ≡ false = sym (h (length p) (omega arith) lt) ∙ (rest_last p x ∙ r) in cc)
  | inr le ↦ le
]

kept_back : (p : List Activity) (x : Activity) (i : ℕ) → rests x ≡ false → i < length p → IsKept (p ++ x ∷ []) i → IsKept p i
kept_back p x i r l h =
    let s = h.after in
    let f = h.before in
    let e = before_last p x h.from (h.from + CA_BLOCK_LEAST) i r h.rest s f l in
    record { from = h.from; after = s; before = f; rest = λ k a b. sym (rest_front p x k (omega arith)) ∙ h.rest k a b }

kept_front : (p : List Activity) (x : Activity) (i : ℕ) (h : IsKept p i) → h.from + CA_BLOCK_LEAST ≤ length p → IsKept (p ++ x ∷ []) i
kept_front p x i h l = record { from = h.from; after = h.after; before = h.before; rest = λ k a b. rest_front p x k (omega arith) ∙ h.rest k a b }

-- after a long rest, nothing before changes
lost_long : (p : List Activity) (x : Activity) (r i : ℕ) → rests x ≡ false → IsOpenRun p r → CA_BLOCK_LEAST ≤ r → i < length p → is_lost (p ++ x ∷ []) i ≡ is_lost p i
lost_long p x r i w h l m =
    lost_same (p ++ x ∷ []) p i (kept_back p x i w m) (λ k.
    let s = k.after in
    let f = k.before in
    let t = h.there in
    elim (cases_lt (length p) (k.from + CA_BLOCK_LEAST)) [
      | inl lt ↦ record {
        from = length p - CA_BLOCK_LEAST;
        after = omega arith;
        before = omega arith;
        rest = λ c a b. rest_front p x c (omega arith) ∙ h.rest c (omega arith) (omega arith);
      }
      | inr le ↦ kept_front p x i k le
    ])

-- before a short rest nothing changes
lost_before : (p : List Activity) (x : Activity) (r i : ℕ) → rests x ≡ false → IsOpenRun p r → r < CA_BLOCK_LEAST → i + r < length p → is_lost (p ++ x ∷ []) i ≡ is_lost p i
lost_before p x r i w h l m =
    lost_same (p ++ x ∷ []) p i (kept_back p x i w (omega arith)) (λ k.
    let s = k.after in
    let f = k.before in
    let o : ℕ = length p - r - 1 in
    elim (cases_lt o (k.from + CA_BLOCK_LEAST)) [
      | inl lt ↦ absurd (let c : true ≡ false = sym (k.rest o (omega arith) lt) ∙ h.starts (omega arith) o (omega arith) in cc)
      | inr le ↦ kept_front p x i k (omega arith)
    ])

-- the short rest itself: not lost while it goes on for good, and lost now
lost_within : (p : List Activity) (r i : ℕ) → IsOpenRun p r → length p ≤ i + r → is_lost p i ≡ false
lost_within p r i h l = kept_not_lost p i (record {
  from = i;
  after = omega arith;
  before = omega arith;
  rest = λ k a b. elim (cases_lt k (length p)) [ inl lt ↦ h.rest k (omega arith) lt | inr le ↦ rests_past p k le ];
})

lost_now : (p : List Activity) (x : Activity) (r i : ℕ) → rests x ≡ false → IsOpenRun p r → r < CA_BLOCK_LEAST → length p ≤ i + r → i < length p → is_lost (p ++ x ∷ []) i ≡ true
lost_now p x r i w h l m n = lost_open (p ++ x ∷ []) i (λ k.
    let s = k.after in
    let f = k.before in
    let e = before_last p x k.from (k.from + CA_BLOCK_LEAST) i w k.rest s f n in
    let o : ℕ = length p - r - 1 in
    absurd (let c : true ≡ false = sym (k.rest o (omega arith) (omega arith)) ∙ (rest_front p x o (omega arith) ∙ h.starts (omega arith) o (omega arith)) in cc))

lost_last : (p : List Activity) (x : Activity) → rests x ≡ false → is_lost (p ++ x ∷ []) (length p) ≡ true
lost_last p x r = lost_open (p ++ x ∷ []) (length p) (λ k. absurd (let c : true ≡ false = sym (k.rest (length p) k.after k.before) ∙ (rest_last p x ∙ r) in cc))

-- one more of day j
abbrev pub one_at : (ℕ → ℕ) → ℕ → ℕ → ℕ
one_at day j n = cond (nat_eq (day n) j) 1 0

last_one : (day : ℕ → ℕ) (p : List Activity) (x : Activity) (j : ℕ) → rests x ≡ false → cond {A = ℕ} (nat_eq (day (length p)) j && is_lost (p ++ x ∷ []) (length p)) 1 0 ≡ one_at day j (length p)
last_one day p x j r = ap (λ b. cond {A = ℕ} (nat_eq (day (length p)) j && b) 1 0) (lost_last p x r) ∙ and_one (nat_eq (day (length p)) j)

-- duty after a long rest is lost, and nothing else
pub lost_at_duty_long : (day : ℕ → ℕ) (p : List Activity) (x : Activity) (r j : ℕ) → rests x ≡ false → IsOpenRun p r → CA_BLOCK_LEAST ≤ r → lost day (p ++ x ∷ []) j ≡ lost day p j + one_at day j (length p)
lost_at_duty_long day p x r j w h l =
    let a = places_same (λ i. nat_eq (day i) j && is_lost (p ++ x ∷ []) i) (λ i. nat_eq (day i) j && is_lost p i) (length p) (λ i m. ap (λ b. nat_eq (day i) j && b) (lost_long p x r i w h l m)) in
    let b = last_one day p x j w in
    let c = lost_more day p x j in
    omega arith

part_same : (e b : Bool) → cond {A = ℕ} (e && b) 1 0 ≡ cond {A = ℕ} (e && b) 1 0 + cond {A = ℕ} (e && false) 1 0
part_same true true = refl
part_same true false = refl
part_same false true = refl
part_same false false = refl

part_new : (e : Bool) → cond {A = ℕ} (e && true) 1 0 ≡ cond {A = ℕ} (e && false) 1 0 + cond {A = ℕ} (e && true) 1 0
part_new true = refl
part_new false = refl

part : (e a b c : Bool) → ((a ≡ b) × (c ≡ false)) ⊎ ((a ≡ true) × (b ≡ false) × (c ≡ true)) → cond {A = ℕ} (e && a) 1 0 ≡ cond {A = ℕ} (e && b) 1 0 + cond {A = ℕ} (e && c) 1 0
part e a b c h = elim h [
  | inl k ↦ (let f = k.0 in let g = k.1 in rw (f, g) (part_same e b))
  | inr k ↦ (let f = k.0 in let g = k.1 in let i = k.2 in rw (f, g, i) (part_new e))
]

-- duty after a short rest is lost, and so is that rest
pub lost_at_duty_short : (day : ℕ → ℕ) (p : List Activity) (x : Activity) (r j : ℕ) → rests x ≡ false → IsOpenRun p r → r < CA_BLOCK_LEAST →
    lost day (p ++ x ∷ []) j ≡ (lost day p j + day_places day j (length p - r) (length p)) + one_at day j (length p)
lost_at_duty_short day p x r j w h l =
    let a = places_sum (λ i. nat_eq (day i) j && is_lost (p ++ x ∷ []) i) (λ i. nat_eq (day i) j && is_lost p i) (λ i. nat_eq (day i) j && nat_le (length p - r) i) (length p)
    (λ i m. part (nat_eq (day i) j) (is_lost (p ++ x ∷ []) i) (is_lost p i) (nat_le (length p - r) i)
    (elim (cases_lt i (length p - r)) [
      | inl lt ↦ inl (lost_before p x r i w h l (omega arith), (let z : nat_le (length p - r) i ≡ false = grind (arith, nat_tests) in z))
      | inr le ↦ inr (lost_now p x r i w h l (omega arith) m, lost_within p r i h (omega arith), (let z : nat_le (length p - r) i ≡ true = grind (arith, nat_tests) in z))
    ])) in
    let b = last_one day p x j w in
    let c = lost_more day p x j in
    omega arith

-- # One more minute loses no less

lost_on : (p : List Activity) (x : Activity) (i : ℕ) → is_lost p i ≡ true → is_lost (p ++ x ∷ []) i ≡ true
lost_on p x i h = elim (lost_cases (p ++ x ∷ []) i) [
  | inl c ↦ c.0
  | inr c ↦ absurd (
      let k = c.1 in
      let z : IsKept p i = record { from = k.from; after = k.after; before = k.before; rest = λ m a b. rest_less p x m (k.rest m a b) } in
      let y : true ≡ false = sym h ∙ kept_not_lost p i z in cc)
]

both_lost : (e b c : Bool) → (b ≡ true → c ≡ true) → (e && b) ≡ true → (e && c) ≡ true
both_lost true b c h k = h k
both_lost false b c h k = k

pub lost_less : (day : ℕ → ℕ) (p : List Activity) (x : Activity) (j : ℕ) → lost day p j ≤ lost day (p ++ x ∷ []) j
lost_less day p x j =
    let a = places_less (λ i. nat_eq (day i) j && is_lost p i) (λ i. nat_eq (day i) j && is_lost (p ++ x ∷ []) i) (length p) (λ i l. both_lost (nat_eq (day i) j) (is_lost p i) (is_lost (p ++ x ∷ []) i) (lost_on p x i)) in
    let b = lost_more day p x j in
    omega arith
