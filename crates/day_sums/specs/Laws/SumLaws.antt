-- What adding, a new day and a restart make of the sums of the youngest days.
use Rattle.std.proofs.Common.{◌≡◌, ℕ, ◌+◌, ◌<◌, ◌≤◌, List, [], ◌∷◌, length, take, refl, sym, ◌∙◌, ap, arith, zero, suc}
use Rattle.std.specs.Prelude.{sum, replicate}
use Rattle.std.proofs.lemmas.List.Sums.{sum_by-cons}
use Rattle.day_sums.specs.Sums.{first_days, added, rolled, cleared, today}

pub first_none : (sums : List ℕ) → first_days 0 sums ≡ 0
first_none [] = refl
first_none (x ∷ xs) = refl

-- a list of no days has no duty
pub first_empty : (n : ℕ) → first_days n [] ≡ 0
first_empty zero = refl
first_empty (suc n) = refl

pub first_added : (n k : ℕ) (sums : List ℕ) → 0 < n → 0 < length sums → first_days n (added k sums) ≡ first_days n sums + k
first_added zero k sums l m = absurd (omega arith)
first_added (suc n) k [] l m = absurd (omega arith)
first_added (suc n) k (x ∷ xs) l m =
    let a : first_days (suc n) (added k (x ∷ xs)) ≡ x + k + sum (take n xs) = sum_by-cons (λ y. y) (x + k) (take n xs) in
    let b : first_days (suc n) (x ∷ xs) ≡ x + sum (take n xs) = sum_by-cons (λ y. y) x (take n xs) in
    omega arith

pub take_within : (m n : ℕ) (xs : List ℕ) → m ≤ n → take m (take n xs) ≡ take m xs
take_within zero n xs l = refl
take_within (suc m) zero xs l = absurd (omega arith)
take_within (suc m) (suc n) [] l = refl
take_within (suc m) (suc n) (x ∷ xs) l = ap (λ ys. x ∷ ys) (take_within m n xs (omega arith))

pub first_rolled : (n : ℕ) (sums : List ℕ) → suc n ≤ length sums → first_days (suc n) (rolled sums) ≡ first_days n sums
first_rolled n sums l =
    ap sum (take_within (suc n) (length sums) (0 ∷ sums) l) ∙ (sum_by-cons (λ y. y) 0 (take n sums) ∙ (let z : 0 + sum (take n sums) ≡ sum (take n sums) = omega arith in z))

zeros : (n m : ℕ) → first_days n (replicate m 0) ≡ 0
zeros zero zero = refl
zeros zero (suc m) = refl
zeros (suc n) zero = refl
zeros (suc n) (suc m) = sum_by-cons (λ y. y) 0 (take n (replicate m 0)) ∙ (let z = zeros n m in let e : 0 + first_days n (replicate m 0) ≡ 0 = omega arith in e)

pub first_cleared : (n : ℕ) (sums : List ℕ) → first_days n (cleared sums) ≡ 0
first_cleared n sums = zeros n (length sums)

pub length-cleared : (sums : List ℕ) → length (cleared sums) ≡ length sums
length-cleared [] = refl
length-cleared (x ∷ xs) = ap (λ n. suc n) (length-cleared xs)

pub length-added : (n : ℕ) (sums : List ℕ) → length (added n sums) ≡ length sums
length-added n [] = refl
length-added n (x ∷ xs) = refl

length_take : (n : ℕ) (xs : List ℕ) → n ≤ length xs → length (take n xs) ≡ n
length_take zero [] l = refl
length_take zero (x ∷ xs) l = refl
length_take (suc n) [] l = absurd (omega arith)
length_take (suc n) (x ∷ xs) l = ap (λ m. suc m) (length_take n xs (omega arith))

pub length-rolled : (sums : List ℕ) → length (rolled sums) ≡ length sums
length-rolled sums = length_take (length sums) (0 ∷ sums) (omega arith)

-- a list of sums of no duty at all stays one
rolled_zeros : (n : ℕ) → take {A = ℕ} n (0 ∷ replicate n 0) ≡ replicate n 0
rolled_zeros zero = refl
rolled_zeros (suc n) = ap (λ (xs : List ℕ). 0 ∷ xs) (rolled_zeros n)

pub rolled_cleared : (sums : List ℕ) → sums ≡ cleared sums → rolled sums ≡ cleared (rolled sums)
rolled_cleared sums e =
    ap (λ (xs : List ℕ). take (length sums) (0 ∷ xs)) e ∙ (rolled_zeros (length sums) ∙ ap (λ n. replicate n 0) (sym (length-rolled sums)))

-- what is cleared is cleared
pub cleared_twice : (sums : List ℕ) → cleared sums ≡ cleared (cleared sums)
cleared_twice sums = ap (λ n. replicate n 0) (sym (length-cleared sums))

-- the youngest day
pub today_rolled : (sums : List ℕ) → today (rolled sums) ≡ 0
today_rolled [] = refl
today_rolled (x ∷ xs) = refl

pub today_cleared : (sums : List ℕ) → today (cleared sums) ≡ 0
today_cleared [] = refl
today_cleared (x ∷ xs) = refl

pub today_added : (n : ℕ) (sums : List ℕ) → today (added n sums) ≤ today sums + n
today_added n [] = omega arith
today_added n (x ∷ xs) = omega arith
