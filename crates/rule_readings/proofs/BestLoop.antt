-- The best value among those of the places so far.
use Rattle.std.proofs.Common.{◌≡◌, ℕ, ◌+◌, ◌<◌, ◌≤◌, Option, Some, None, subst, arith, inl, inr}
use Rattle.std.proofs.lemmas.Bool.{cases_eq}
use Rattle.rule_readings.specs.declared.best.Order.{Order}
use Rattle.rule_readings.specs.declared.best.Order.TheVariants.{Greatest, Least}
use Rattle.rule_readings.specs.declared.best.Best.{Best}
use Rattle.rule_readings.specs.Best.{IsNoBetter, IsBestFirst, IsBestFound, Beats}

-- a value at a place before place i
pub record IsBelow (Value : ℕ → ℕ → Type 0) (i k n : ℕ) : Type 0 where
  pub before : k < i
  pub value : Value k n

-- # One value and another

no_better : (order : Order) (n : ℕ) (best : Best) → (Beats order n (Some best) → ⊥) → IsNoBetter order best.used n
no_better Greatest n best h = omega arith
no_better Least n best h = omega arith

no_better_self : (order : Order) (n : ℕ) → IsNoBetter order n n
no_better_self Greatest n = omega arith
no_better_self Least n = omega arith

no_better_still : (order : Order) (n m : ℕ) (best : Best) → Beats order n (Some best) → IsNoBetter order best.used m → IsNoBetter order n m
no_better_still Greatest n m best h g = omega arith
no_better_still Least n m best h g = omega arith

beaten : (order : Order) (n : ℕ) (best : Best) → Beats order n (Some best) → IsNoBetter order best.used n → ⊥
beaten Greatest n best h g = omega arith
beaten Least n best h g = omega arith

-- # One more place

below_cases : (Value : ℕ → ℕ → Type 0) (i k n : ℕ) (P : Type 0) → IsBelow Value (i + 1) k n → (k ≡ i → Value i n → P) → (IsBelow Value i k n → P) → P
below_cases Value i k n P h here before = elim (cases_eq k i) [
  | inl e ↦ here e (subst (λ j. Value j n) e h.value)
  | inr e ↦ (let l = h.before in before (record { before = omega arith; value = h.value }))
]

pub best_none : (order : Order) (Value : ℕ → ℕ → Type 0) → IsBestFound order (IsBelow Value 0) None
best_none order Value k n h = let l = h.before in omega arith

-- a place with no value
pub best_past : (order : Order) (Value : ℕ → ℕ → Type 0) (i : ℕ) (best : Option Best) → ((n : ℕ) → Value i n → ⊥) → IsBestFound order (IsBelow Value i) best → IsBestFound order (IsBelow Value (i + 1)) best
best_past order Value i None none h = λ k n x. below_cases Value i k n ⊥ x (λ e v. none n v) (λ y. h k n y)
best_past order Value i (Some best) none h = (let l = h.there.before in record {
  there = record { before = omega arith; value = h.there.value };
  best = λ k m x. below_cases Value i k m (IsNoBetter order best.used m) x (λ e v. absurd (none m v)) (λ y. h.best k m y);
  first = λ k x. below_cases Value i k best.used (best.at ≤ k) x (λ e v. absurd (none best.used v)) (λ y. h.first k y);
})

-- a place with a value that is not better
pub best_kept : (order : Order) (Value : ℕ → ℕ → Type 0) (i n : ℕ) (best : Option Best) → ((m : ℕ) → Value i m → n ≡ m) → (Beats order n best → ⊥) → IsBestFound order (IsBelow Value i) best → IsBestFound order (IsBelow Value (i + 1)) best
best_kept order Value i n None one kept h = absurd (kept tt)
best_kept order Value i n (Some best) one kept h = (let l = h.there.before in record {
  there = record { before = omega arith; value = h.there.value };
  best = λ k m x. below_cases Value i k m (IsNoBetter order best.used m) x (λ e v. subst (IsNoBetter order best.used) (one m v) (no_better order n best kept)) (λ y. h.best k m y);
  first = λ k x. below_cases Value i k best.used (best.at ≤ k) x (λ e v. omega arith) (λ y. h.first k y);
})

-- a place with a better value
pub best_new : (order : Order) (Value : ℕ → ℕ → Type 0) (i n : ℕ) (best : Option Best) → Value i n → ((m : ℕ) → Value i m → n ≡ m) → Beats order n best → IsBestFound order (IsBelow Value i) best →
    IsBestFirst order (IsBelow Value (i + 1)) i n
best_new order Value i n None v one better h = record {
  there = record { before = omega arith; value = v };
  best = λ k m x. below_cases Value i k m (IsNoBetter order n m) x (λ e w. subst (IsNoBetter order n) (one m w) (no_better_self order n)) (λ y. absurd (h k m y));
  first = λ k x. below_cases Value i k n (i ≤ k) x (λ e w. omega arith) (λ y. absurd (h k n y));
}
best_new order Value i n (Some best) v one better h = record {
  there = record { before = omega arith; value = v };
  best = λ k m x. below_cases Value i k m (IsNoBetter order n m) x (λ e w. subst (IsNoBetter order n) (one m w) (no_better_self order n)) (λ y. no_better_still order n m best better (h.best k m y));
  first = λ k x. below_cases Value i k n (i ≤ k) x (λ e w. omega arith) (λ y. absurd (beaten order n best better (h.best k n y)));
}

-- at the end, after which there is no value
pub best_all : (order : Order) (Value : ℕ → ℕ → Type 0) (i : ℕ) (best : Option Best) → ((k n : ℕ) → Value k n → k < i) → IsBestFound order (IsBelow Value i) best → IsBestFound order Value best
best_all order Value i None inside h = λ k n v. h k n (record { before = inside k n v; value = v })
best_all order Value i (Some best) inside h = record {
  there = h.there.value;
  best = λ k m v. h.best k m (record { before = inside k m v; value = v });
  first = λ k v. h.first k (record { before = inside k best.used v; value = v });
}
