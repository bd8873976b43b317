-- What each call leaves of the numbers that are kept, and how large sums of them are.
use Rattle.std.proofs.Common.{◌≡◌, ℕ, ◌+◌, ◌-◌, ◌^◌, ◌<◌, ◌≤◌, List, [], ◌∷◌, ◌++◌, length, take, drop, slice_index_or, sym, ◌∙◌, ap, subst, arith, length-append, zero, suc, set, get_or, inl, inr}
use Rattle.std.specs.Prelude.{sum, replicate, All}
use Rattle.std.proofs.lemmas.List.{take_at, drop_at, length-take-le, length-replicate}
use Rattle.std.proofs.lemmas.List.Elements.{All-take, All-cons}
use Rattle.std.proofs.lemmas.List.Sums.{sum_by-cons, sum_by-le, sum_by-take-le}
use Rattle.duty_core.specs.declared.limits.TheConstants.{DAY_MINUTES}
use Rattle.day_sums.specs.Sums.{IsDays, first_days, today, AreSums, AreKept}
use Rattle.day_sums.specs.Laws.SumLaws.{take_within}

pub days_few : (days : ℕ) → IsDays days → days ≤ 14
days_few days h = elim h [ inl e ↦ omega arith | inr f ↦ elim f [ inl e ↦ omega arith | inr e ↦ omega arith ] ]

pub days_some : (days : ℕ) → IsDays days → 0 < days
days_some days h = elim h [ inl e ↦ omega arith | inr f ↦ elim f [ inl e ↦ omega arith | inr e ↦ omega arith ] ]

pub sums_fit : (sums : List ℕ) (n : ℕ) → AreSums sums → sum (take n sums) < 2 ^ 32
sums_fit sums n h = let a = sum_by-le (λ x. x) 1440 sums h.within in let b = sum_by-take-le (λ x. x) sums n in let c = days_few (length sums) h.days in omega arith

pub sum_fits : (sums : List ℕ) → AreSums sums → sum sums < 2 ^ 32
sum_fits sums h = let a = sum_by-le (λ x. x) 1440 sums h.within in let c = days_few (length sums) h.days in omega arith

pub kept_days : (days : ℕ) (kept : List ℕ) → AreKept days kept → IsDays days
kept_days days kept h = subst IsDays (length-take-le days kept (let a = h.long in let b = h.few in omega arith)) h.sums.days

-- one more day
pub first_more : (n : ℕ) (xs : List ℕ) (d : ℕ) → n < length xs → first_days (suc n) xs ≡ first_days n xs + slice_index_or xs n d
first_more n [] d l = absurd (omega arith)
first_more zero (x ∷ xs) d l = sum_by-cons (λ y. y) x [] ∙ (let z : x + 0 ≡ 0 + x = omega arith in z)
first_more (suc n) (x ∷ xs) d l =
    let a = sum_by-cons (λ y. y) x (take (suc n) xs) in
    let b = sum_by-cons (λ y. y) x (take n xs) in
    let c = first_more n xs d (omega arith) in
    omega arith

-- one day has more, and within its limit
pub kept_added : (days n : ℕ) (kept : List ℕ) → AreKept days kept → today (take days kept) + n ≤ DAY_MINUTES → AreKept days (set kept 0 (get_or kept 0 0 + n))
kept_added days n [] h l = absurd (let e : 0 ≡ 14 = h.long in omega arith)
kept_added zero n (x ∷ xs) h l = absurd (let p = days_some 0 (kept_days 0 (x ∷ xs) h) in omega arith)
kept_added (suc days) n (x ∷ xs) h l = record {
  long = h.long;
  sums = record {
    days = h.sums.days;
    within = All-cons (λ m. m ≤ DAY_MINUTES) (x + n) (take days xs) l (λ k d m. h.sums.within (suc k) d (omega arith));
  };
  few = h.few;
  rest = h.rest;
}

-- a new day, before all but the oldest
pub kept_rolled : (days : ℕ) (kept front rest : List ℕ) → AreKept days kept → front ≡ take (days - 1) kept → rest ≡ replicate (14 - days) 0 → AreKept days (0 ∷ (front ++ rest))
kept_rolled days kept front rest h e f =
    let some = days_some days (kept_days days kept h) in
    let few = h.few in
    let long = h.long in
    let m : length front ≡ days - 1 = ap length e ∙ length-take-le (days - 1) kept (omega arith) in
    let r : length rest ≡ 14 - days = ap length f ∙ length-replicate (14 - days) 0 in
    let s : suc (days - 1) ≡ days = omega arith in
    let t : take days (0 ∷ (front ++ rest)) ≡ 0 ∷ front =
    ap (λ (n : ℕ). take n (0 ∷ (front ++ rest))) (sym s) ∙ ap (λ (l : List ℕ). 0 ∷ l) (take_at front rest (days - 1) m) in
    let u : drop days (0 ∷ (front ++ rest)) ≡ rest = ap (λ (n : ℕ). drop n (0 ∷ (front ++ rest))) (sym s) ∙ drop_at front rest (days - 1) m in
    let w : front ≡ take (days - 1) (take days kept) = e ∙ sym (take_within (days - 1) days kept (omega arith)) in
    let v : length (0 ∷ front) ≡ days = omega arith in
    record {
      long = omega (arith, length-append front rest);
      sums = subst AreSums (sym t) (record {
        days = subst IsDays (sym v) (kept_days days kept h);
        within = All-cons (λ n. n ≤ DAY_MINUTES) 0 front (omega arith) (subst (All (λ n. n ≤ DAY_MINUTES)) (sym w) (All-take (λ n. n ≤ DAY_MINUTES) (days - 1) (take days kept) h.sums.within));
      });
      few = h.few;
      rest = u ∙ f;
    }
