-- Counts of lost minutes, place by place and day by day.
use Rattle.std.proofs.Common.{◌≡◌, ℕ, ◌+◌, ◌<◌, ◌≤◌, Bool, true, false, cond, ◌&&◌, ◌||◌, List, [], ◌∷◌, ◌++◌, length, min, refl, sym, ◌∙◌, ap, arith, inl, inr, zero, suc, add-one, length-append}
use Rattle.std.specs.Prelude.{nat_eq, nat_lt, slice_index}
use Rattle.std.proofs.lemmas.Bool.{cases_lt}
use Rattle.std.proofs.lemmas.Bool.Decides.{nat_tests}
use Rattle.std.proofs.Math.ListN.{get_or-append}
use Rattle.std.proofs.Math.Seq.{get_or-append_seam}
use Rattle.duty_core.specs.declared.activity.Activity.{Activity}
use Rattle.duty_core.specs.declared.limits.TheConstants.{CA_BLOCK_LEAST}
use Rattle.duty_core.specs.Activity.{rests, works}
use Rattle.duty_core.specs.History.{unit_at}
use Rattle.duty_core.specs.Stretch.{IsRest}
use Rattle.duty_core.specs.Counting.{places}
use Rattle.duty_core.specs.LostMinutes.{rest_before, rest_from, is_lost, lost}
use Rattle.duty_core.specs.Laws.LostLaws.{from_least, from_most, from_rest, lost_from, before_there}
use Rattle.rule_readings.specs.CaDays.{BeginsDay}
use Rattle.rule_readings.specs.Lost.{AreLostCounts}

-- # Rest before and after a place

pub before_next : (p : List Activity) (i n : ℕ) → n ≡ rest_before p i → cond (rests (unit_at p i)) (n + 1) 0 ≡ rest_before p (i + 1)
unfolding rest_before
before_next p i n e = ap (λ m. cond (rests (unit_at p i)) (m + 1) 0) e ∙ sym (ap (rest_before p) (add-one i))

pub from_here : (p : List Activity) (i n : ℕ) → n < CA_BLOCK_LEAST → IsRest p i (i + n) → rests (unit_at p (i + n)) ≡ false → n ≡ rest_from p CA_BLOCK_LEAST i
from_here p i n l r e =
    let a = from_least p CA_BLOCK_LEAST n i (omega arith) r in
    elim (cases_lt n (rest_from p CA_BLOCK_LEAST i)) [
      | inl m ↦ absurd (let z : true ≡ false = sym (from_rest p CA_BLOCK_LEAST i (i + n) (omega arith) (omega arith)) ∙ e in cc)
      | inr m ↦ omega arith
    ]

pub from_all : (p : List Activity) (i n : ℕ) → CA_BLOCK_LEAST ≤ n → IsRest p i (i + n) → CA_BLOCK_LEAST ≡ rest_from p CA_BLOCK_LEAST i
from_all p i n l r =
    let a = from_least p CA_BLOCK_LEAST CA_BLOCK_LEAST i (omega arith) (λ k x y. r k x (omega arith)) in
    let b = from_most p CA_BLOCK_LEAST i in
    omega arith

pub rest_more : (p : List Activity) (i n : ℕ) → IsRest p i (i + n) → rests (unit_at p (i + n)) ≡ true → IsRest p i (i + (n + 1))
rest_more p i n r e k x y = elim (cases_lt k (i + n)) [
  | inl l ↦ r k x l
  | inr l ↦ (let q : k ≡ i + n = omega arith in ap (λ m. rests (unit_at p m)) q ∙ e)
]

-- a minute of duty is lost
pub lost_of_duty : (p : List Activity) (i : ℕ) (x : Activity) → x ≡ unit_at p i → works x ≡ true → is_lost p i ≡ true
lost_of_duty p i x e w = lost_from p i (inl (ap works (sym e) ∙ w))

-- and a minute of rest where the run is short
pub lost_of_rest : (p : List Activity) (i n m : ℕ) (x : Activity) → x ≡ unit_at p i → works x ≡ false → n ≡ rest_before p i → m ≡ rest_from p CA_BLOCK_LEAST i → nat_lt (n + m) CA_BLOCK_LEAST ≡ is_lost p i
unfolding is_lost
lost_of_rest p i n m x e w a b =
    ap (λ k. nat_lt (k + m) CA_BLOCK_LEAST) a ∙ (ap (λ k. nat_lt (rest_before p i + k) CA_BLOCK_LEAST) b ∙ ap (λ c. c || nat_lt (rest_before p i + rest_from p CA_BLOCK_LEAST i) CA_BLOCK_LEAST) (sym (ap works (sym e) ∙ w)))

-- # Counts of places

pub places_next : (test : ℕ → Bool) (n : ℕ) → places test (n + 1) ≡ places test n + cond (test n) 1 0
places_next test n = ap (places test) (add-one n)

share_small : (b : Bool) → cond {A = ℕ} b 1 0 ≤ 1
share_small true = omega arith
share_small false = omega arith

pub places_small : (test : ℕ → Bool) (n : ℕ) → places test n ≤ n
places_small test zero = omega arith
places_small test (suc n) = let a = places_small test n in let b = share_small (test n) in omega arith

share_none : (x y : Bool) → x ≡ false → cond {A = ℕ} (x && y) 1 0 ≡ 0
share_none false y e = refl
share_none true y e = absurd (let z : true ≡ false = e in cc)

share_same : (x y : Bool) → x ≡ true → cond {A = ℕ} (x && y) 1 0 ≡ cond y 1 0
share_same true y e = refl
share_same false y e = absurd (let z : false ≡ true = e in cc)

-- the places of a day that pass the test are those from its begin up to the next day's
pub day_places : (day : ℕ → ℕ) (test : ℕ → Bool) (j from to n : ℕ) → BeginsDay day j from → BeginsDay day (j + 1) to →
    places (λ i. nat_eq (day i) j && test i) n + places test (min n from) ≡ places test (min n to)
day_places day test j from to zero a b =
    let x : min 0 from ≡ 0 = omega arith in
    let y : min 0 to ≡ 0 = omega arith in
    omega (arith, ap (places test) x, ap (places test) y)
day_places day test j from to (suc n) a b =
    let h = day_places day test j from to n a b in
    elim (cases_lt n from) [
      | inl l ↦
          let m : n < to = elim (cases_lt n to) [ inl m ↦ m | inr m ↦ (let u = b.inside n m in let v = a.first n (omega arith) in absurd (omega arith)) ] in
          let d : day n < j = elim (cases_lt (day n) j) [ inl m ↦ m | inr m ↦ (let v = a.first n m in absurd (omega arith)) ] in
          let e : nat_eq (day n) j ≡ false = grind (arith, nat_tests) in
          let s = share_none (nat_eq (day n) j) (test n) e in
          let x1 : min n from ≡ n = omega arith in
          let x2 : min n to ≡ n = omega arith in
          let x3 : min (suc n) from ≡ suc n = omega arith in
          let x4 : min (suc n) to ≡ suc n = omega arith in
          omega (arith, ap (places test) x1, ap (places test) x2, ap (places test) x3, ap (places test) x4)
      | inr l ↦ elim (cases_lt n to) [
        | inl m ↦
            let u = a.inside n l in
            let d : day n < j + 1 = elim (cases_lt (day n) (j + 1)) [ inl k ↦ k | inr k ↦ (let v = b.first n k in absurd (omega arith)) ] in
            let e : nat_eq (day n) j ≡ true = grind (arith, nat_tests) in
            let s = share_same (nat_eq (day n) j) (test n) e in
            let x1 : min n from ≡ from = omega arith in
            let x2 : min n to ≡ n = omega arith in
            let x3 : min (suc n) from ≡ from = omega arith in
            let x4 : min (suc n) to ≡ suc n = omega arith in
            omega (arith, ap (places test) x1, ap (places test) x2, ap (places test) x3, ap (places test) x4)
        | inr m ↦
            let u = b.inside n m in
            let e : nat_eq (day n) j ≡ false = grind (arith, nat_tests) in
            let s = share_none (nat_eq (day n) j) (test n) e in
            let x1 : min n from ≡ from = omega arith in
            let x2 : min n to ≡ to = omega arith in
            let x3 : min (suc n) from ≡ from = omega arith in
            let x4 : min (suc n) to ≡ to = omega arith in
            omega (arith, ap (places test) x1, ap (places test) x2, ap (places test) x3, ap (places test) x4)
      ]
    ]

-- one more count
pub counts_more : (p : List Activity) (counts : List ℕ) (i n : ℕ) → length counts ≡ i + 1 → ((k : ℕ) → k ≤ i → slice_index counts k ≡ places (is_lost p) k) → n ≡ places (is_lost p) (i + 1) →
    (k : ℕ) → k ≤ i + 1 → slice_index (counts ++ n ∷ []) k ≡ places (is_lost p) k
counts_more p counts i n e h q k l = elim (cases_lt k (i + 1)) [
  | inl m ↦ (let b : k < length counts = omega arith in get_or-append counts (n ∷ []) 0 k b ∙ h k (omega arith))
  | inr m ↦ (let b : k ≡ length counts = omega arith in let c : k ≡ i + 1 = omega arith in ap (λ j. slice_index (counts ++ n ∷ []) j) b ∙ (get_or-append_seam counts n [] 0 ∙ (q ∙ ap (places (is_lost p)) (sym c))))
]

-- the lost minutes of a day, by the counts before its begin and before the next day's
pub day_lost : (p : List Activity) (counts : List ℕ) (day : ℕ → ℕ) (j from to a b x y : ℕ) → AreLostCounts p counts → BeginsDay day j from → BeginsDay day (j + 1) to →
    a ≡ min from (length p) → b ≡ min to (length p) → x ≡ slice_index counts a → y ≡ slice_index counts b → lost day p j + x ≡ y
day_lost p counts day j from to a b x y c f t ea eb ex ey =
    let h = day_places day (is_lost p) j from to (length p) f t in
    let m : min (length p) from ≡ a = omega arith in
    let n : min (length p) to ≡ b = omega arith in
    let u = c.each a (omega arith) in
    let v = c.each b (omega arith) in
    omega (arith, ap (places (is_lost p)) m, ap (places (is_lost p)) n)

-- where one more place is gone over
pub record AreCountsTo (p : List Activity) (counts : List ℕ) (total before i : ℕ) : Type 0 where
  pub sum : total ≡ places (is_lost p) i
  pub rest : before ≡ rest_before p i
  pub many : length counts ≡ i + 1
  pub each : (k : ℕ) → k ≤ i → slice_index counts k ≡ places (is_lost p) k

pub none_yet : (p : List Activity) → AreCountsTo p (0 ∷ []) 0 0 0
unfolding rest_before
none_yet p = record {
  sum = refl;
  rest = refl;
  many = omega arith;
  each = λ k l. let e : k ≡ 0 = omega arith in ap (λ j. slice_index (0 ∷ []) j) e ∙ ap (places (is_lost p)) (sym e);
}

pub small_total : (p : List Activity) (counts : List ℕ) (total before i : ℕ) → AreCountsTo p counts total before i → total ≤ i
small_total p counts total before i h = let a = places_small (is_lost p) i in let b = h.sum in omega arith

pub small_before : (p : List Activity) (counts : List ℕ) (total before i : ℕ) → AreCountsTo p counts total before i → before ≤ i
small_before p counts total before i h = let a = before_there p i in let b = h.rest in omega arith

pub counts_on : (p : List Activity) (counts : List ℕ) (total before i new after : ℕ) (b : Bool) (x : Activity) → AreCountsTo p counts total before i → b ≡ is_lost p i → new ≡ total + cond b 1 0 →
    x ≡ unit_at p i → after ≡ cond (rests x) (before + 1) 0 → AreCountsTo p (counts ++ new ∷ []) new after (i + 1)
counts_on p counts total before i new after b x h e n u a =
    let s = h.sum in
    let q : new ≡ places (is_lost p) (i + 1) = omega (arith, places_next (is_lost p) i, ap (λ (c : Bool). cond {A = ℕ} c 1 0) e) in
    record {
      sum = q;
      rest = a ∙ (ap (λ y. cond (rests y) (before + 1) 0) u ∙ before_next p i before h.rest);
      many = omega (arith, length-append counts (new ∷ []), h.many);
      each = counts_more p counts i new h.many h.each q;
    }

pub counts_done : (p : List Activity) (counts : List ℕ) (total before i n : ℕ) → AreCountsTo p counts total before i → n ≤ i → i ≤ n → n ≡ length p → AreLostCounts p counts
counts_done p counts total before i n h l m e = let a = h.many in record { many = omega arith; each = λ k x. h.each k (omega arith) }
