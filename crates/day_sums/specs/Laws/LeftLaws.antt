-- Sums that leave no less of a limit: the test, and what keeps it so.
use Rattle.std.proofs.Common.{◌≡◌, ◌↔◌, ℕ, ◌-◌, ◌<◌, ◌≤◌, Bool, true, false, List, length, refl, ◌∙◌, ap, subst, arith, inl, inr, zero, suc}
use Rattle.std.specs.Prelude.{nat_le, ◌&&◌}
use Rattle.std.proofs.lemmas.Bool.{cases_lt, cases_Bool}
use Rattle.std.proofs.lemmas.Bool.Decides.{nat_tests}
use Rattle.day_sums.specs.Sums.{first_days, added, rolled, cleared, LeavesNoLess, leaves_no_less}
use Rattle.day_sums.specs.Laws.SumLaws.{first_none, first_added, first_rolled, first_cleared, rolled_cleared}
use Rattle.day_sums.specs.Counted.{turned}

-- # The test

and_left : (a b : Bool) → (a && b) ≡ true → a ≡ true
and_left true b h = refl
and_left false b h = h

and_right : (a b : Bool) → (a && b) ≡ true → b ≡ true
and_right true b h = h
and_right false b h = absurd (let z : false ≡ true = h in cc)

and_both : (a b : Bool) → a ≡ true → b ≡ true → (a && b) ≡ true
and_both a b h k = rw h k

upto : (a b : ℕ) → nat_le a b ≡ true → a ≤ b
upto a b h = grind (arith, nat_tests)

is_upto : (a b : ℕ) → a ≤ b → nat_le a b ≡ true
is_upto a b h = grind (arith, nat_tests)

none_left : (limit : ℕ) (xs ys : List ℕ) → limit - first_days 0 ys ≤ limit - first_days 0 xs
none_left limit xs ys = let a = first_none xs in let b = first_none ys in omega arith

-- no days hold no duty
pub leaves_none : (limit : ℕ) (xs ys : List ℕ) → LeavesNoLess limit 0 xs ys
leaves_none limit xs ys n l = subst (λ k. limit - first_days k ys ≤ limit - first_days k xs) (let e : 0 ≡ n = omega arith in e) (none_left limit xs ys)

test_means : (limit days : ℕ) (xs ys : List ℕ) → leaves_no_less limit days xs ys ≡ true → LeavesNoLess limit days xs ys
test_means limit zero xs ys h n l = leaves_none limit xs ys n l
test_means limit (suc days) xs ys h n l =
    let one : Bool = nat_le (limit - first_days (suc days) ys) (limit - first_days (suc days) xs) in
    elim (cases_lt n (suc days)) [
      | inl u ↦ test_means limit days xs ys (and_right one (leaves_no_less limit days xs ys) h) n (omega arith)
      | inr u ↦ subst (λ k. limit - first_days k ys ≤ limit - first_days k xs) (let e : suc days ≡ n = omega arith in e)
          (upto (limit - first_days (suc days) ys) (limit - first_days (suc days) xs) (and_left one (leaves_no_less limit days xs ys) h))
    ]

means_test : (limit days : ℕ) (xs ys : List ℕ) → LeavesNoLess limit days xs ys → leaves_no_less limit days xs ys ≡ true
means_test limit zero xs ys h = refl
means_test limit (suc days) xs ys h =
    and_both (nat_le (limit - first_days (suc days) ys) (limit - first_days (suc days) xs)) (leaves_no_less limit days xs ys)
    (is_upto (limit - first_days (suc days) ys) (limit - first_days (suc days) xs) (h (suc days) (omega arith)))
    (means_test limit days xs ys (λ n l. h n (omega arith)))

pub leaves_decides : (limit days : ℕ) (xs ys : List ℕ) → (leaves_no_less limit days xs ys ≡ true) ↔ LeavesNoLess limit days xs ys
leaves_decides limit days xs ys = (test_means limit days xs ys, means_test limit days xs ys)

-- a number of days with less left fails it
pub leaves_fails : (limit days n : ℕ) (xs ys : List ℕ) → n ≤ days → limit - first_days n xs < limit - first_days n ys → leaves_no_less limit days xs ys ≡ false
leaves_fails limit days n xs ys l u = elim (cases_Bool (leaves_no_less limit days xs ys)) [
  | inl t ↦ absurd (let z = test_means limit days xs ys t n l in omega arith)
  | inr f ↦ f
]

-- one day more to compare
pub leaves_one_more : (limit n m : ℕ) (xs ys : List ℕ) → suc n ≡ m → LeavesNoLess limit n xs ys → limit - first_days (suc n) ys ≤ limit - first_days (suc n) xs → LeavesNoLess limit m xs ys
leaves_one_more limit n m xs ys e h u k l = elim (cases_lt n k) [
  | inl v ↦ subst (λ j. limit - first_days j ys ≤ limit - first_days j xs) (let z : suc n ≡ k = omega arith in z) u
  | inr v ↦ h k v
]

-- # What keeps it so

pub leaves_same : (limit days : ℕ) (xs : List ℕ) → LeavesNoLess limit days xs xs
leaves_same limit days xs n l = omega arith

pub leaves_over : (limit days : ℕ) (xs ys zs : List ℕ) → LeavesNoLess limit days xs ys → LeavesNoLess limit days ys zs → LeavesNoLess limit days xs zs
leaves_over limit days xs ys zs h k n l = let a = h n l in let b = k n l in omega arith

-- no duty leaves the most
pub leaves_cleared : (limit days : ℕ) (xs ys : List ℕ) → xs ≡ cleared xs → LeavesNoLess limit days xs ys
leaves_cleared limit days xs ys e n l = let a : first_days n xs ≡ 0 = ap (first_days n) e ∙ first_cleared n xs in omega arith

pub leaves_rolled : (limit days : ℕ) (xs ys : List ℕ) → days ≤ length xs → days ≤ length ys → LeavesNoLess limit days xs ys → LeavesNoLess limit days (rolled xs) (rolled ys)
leaves_rolled limit days xs ys a b h zero l = none_left limit (rolled xs) (rolled ys)
leaves_rolled limit days xs ys a b h (suc n) l = let x = first_rolled n xs (omega arith) in let y = first_rolled n ys (omega arith) in let z = h n (omega arith) in omega arith

pub leaves_turned : (limit days : ℕ) (turn : Bool) (xs ys : List ℕ) → days ≤ length xs → days ≤ length ys → LeavesNoLess limit days xs ys → LeavesNoLess limit days (turned turn xs) (turned turn ys)
leaves_turned limit days true xs ys a b h = leaves_rolled limit days xs ys a b h
leaves_turned limit days false xs ys a b h = h

pub leaves_added : (limit days k : ℕ) (xs ys : List ℕ) → days ≤ length xs → days ≤ length ys → LeavesNoLess limit days xs ys → LeavesNoLess limit days (added k xs) (added k ys)
leaves_added limit days k xs ys a b h zero l = none_left limit (added k xs) (added k ys)
leaves_added limit days k xs ys a b h (suc n) l = let x = first_added (suc n) k xs (omega arith) (omega arith) in let y = first_added (suc n) k ys (omega arith) (omega arith) in let z = h (suc n) l in omega arith

-- more duty leaves less
pub leaves_more : (limit days k : ℕ) (xs : List ℕ) → days ≤ length xs → LeavesNoLess limit days xs (added k xs)
leaves_more limit days k xs a zero l = none_left limit xs (added k xs)
leaves_more limit days k xs a (suc n) l = let x = first_added (suc n) k xs (omega arith) (omega arith) in omega arith

pub turned_none : (turn : Bool) (xs : List ℕ) → xs ≡ cleared xs → turned turn xs ≡ cleared (turned turn xs)
turned_none true xs e = rolled_cleared xs e
turned_none false xs e = e
