-- Days that each hold at most their minutes.
use Rattle.std.proofs.Common.{◌≡◌, ℕ, ◌+◌, ◌≤◌, Bool, true, false, List, [], ◌∷◌, length, refl, sym, subst, arith, inl, inr}
use Rattle.std.specs.Prelude.{nat_le, All}
use Rattle.std.specs.Bool.{Decides}
use Rattle.std.proofs.lemmas.Bool.{cases_lt}
use Rattle.std.proofs.lemmas.Bool.Decides.{nat_tests, Decides-by_and}
use Rattle.std.proofs.lemmas.List.Elements.{All-cons, All-tail, All-take, All-replicate}
use Rattle.duty_core.specs.declared.limits.TheConstants.{DAY_MINUTES}
use Rattle.day_sums.specs.Sums.{added, cleared, today, are_within}
use Rattle.day_sums.specs.Counted.{turned, after_rest}

a_day_decides : (n : ℕ) → Decides (nat_le n DAY_MINUTES) (n ≤ DAY_MINUTES)
a_day_decides n = ((λ h. grind (arith, nat_tests)), (λ h. grind (arith, nat_tests)))

-- the test decides whether each day holds at most its minutes
pub within_decides : (sums : List ℕ) → Decides (are_within sums) (All (λ n. n ≤ DAY_MINUTES) sums)
within_decides sums = Decides-by_and (λ n. nat_le n DAY_MINUTES) (λ n. n ≤ DAY_MINUTES) are_within a_day_decides refl (λ _ _. refl) sums

-- a new day, a restart and one more minute leave each day at most its minutes
pub within_turned : (turn : Bool) (sums : List ℕ) → All (λ n. n ≤ DAY_MINUTES) sums → All (λ n. n ≤ DAY_MINUTES) (turned turn sums)
within_turned true sums h = All-take (λ n. n ≤ DAY_MINUTES) (length sums) (0 ∷ sums) (All-cons (λ n. n ≤ DAY_MINUTES) 0 sums (omega arith) h)
within_turned false sums h = h

pub within_cleared : (sums : List ℕ) → All (λ n. n ≤ DAY_MINUTES) (cleared sums)
within_cleared sums = All-replicate (λ n. n ≤ DAY_MINUTES) (length sums) 0 (omega arith)

pub within_added : (sums : List ℕ) → today sums + 1 ≤ DAY_MINUTES → All (λ n. n ≤ DAY_MINUTES) sums → All (λ n. n ≤ DAY_MINUTES) (added 1 sums)
within_added [] l h = h
within_added (x ∷ xs) l h = All-cons (λ n. n ≤ DAY_MINUTES) (x + 1) xs l (All-tail (λ n. n ≤ DAY_MINUTES) x xs h)

pub within_rested : (reset run : ℕ) (sums : List ℕ) → All (λ n. n ≤ DAY_MINUTES) sums → All (λ n. n ≤ DAY_MINUTES) (after_rest reset run sums)
within_rested reset run sums h = elim (cases_lt run reset) [
  | inl l ↦ (let e : after_rest reset run sums ≡ sums = grind (arith, nat_tests) in subst (All (λ n. n ≤ DAY_MINUTES)) (sym e) h)
  | inr l ↦ (let e : after_rest reset run sums ≡ cleared sums = grind (arith, nat_tests) in subst (All (λ n. n ≤ DAY_MINUTES)) (sym e) (within_cleared sums))
]
