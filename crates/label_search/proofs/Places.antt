-- Elements of lists and their places.
use Rattle.std.proofs.Common.{◌≡◌, ℕ, ◌<◌, zero, suc, List, [], ◌∷◌, length, take, get_or, refl, subst, arith, inl, inr}
use Rattle.std.specs.Prelude.{None, Some, slice_get, All}
use Rattle.std.specs.List.Sorted.{IsPermutation}
use Rattle.std.proofs.lemmas.List.Sorted.{All-permutation}
use Rattle.std.proofs.lemmas.List.Elements.{All-nil, All-cons, All-head, All-tail}
use Rattle.rule_core.specs.Reach.{IsOneOf}

pub one_of_place : {X : Type 0} (xs : List X) (i : ℕ) (x : X) → slice_get xs i ≡ Some x → IsOneOf xs x
one_of_place [] i x h = absurd (let z : None ≡ Some x = h in cc)
one_of_place (y ∷ xs) zero x h = inl (let e : Some y ≡ Some x = h in cc)
one_of_place (y ∷ xs) (suc i) x h = inr (one_of_place xs i x h)

pub get_of : {X : Type 0} (xs : List X) (i : ℕ) (x d : X) → slice_get xs i ≡ Some x → get_or xs i d ≡ x
get_of [] i x d h = absurd (let z : None ≡ Some x = h in cc)
get_of (y ∷ xs) zero x d h = (let e : Some y ≡ Some x = h in cc)
get_of (y ∷ xs) (suc i) x d h = get_of xs i x d h

pub place_within : {X : Type 0} (xs : List X) (i : ℕ) (x : X) → slice_get xs i ≡ Some x → i < length xs
place_within [] i x h = absurd (let z : None ≡ Some x = h in cc)
place_within (y ∷ xs) zero x h = omega arith
place_within (y ∷ xs) (suc i) x h = let l = place_within xs i x h in omega arith

all_ones : {X : Type 0} (P : X → Type 0) (xs : List X) → ((x : X) → IsOneOf xs x → P x) → All P xs
all_ones P [] f = All-nil P
all_ones P (x ∷ xs) f = All-cons P x xs (f x (inl refl)) (all_ones P xs (λ y o. f y (inr o)))

ones_all : {X : Type 0} (P : X → Type 0) (xs : List X) → All P xs → (x : X) → IsOneOf xs x → P x
ones_all P [] a x o = absurd o
ones_all P (y ∷ xs) a x o = elim o [ inl e ↦ subst P e (All-head P y xs a) | inr t ↦ ones_all P xs (All-tail P y xs a) x t ]

-- what holds of each element holds of each in another order
pub ones_permuted : {X : Type 0} (P : X → Type 0) (xs ys : List X) → IsPermutation xs ys → ((x : X) → IsOneOf xs x → P x) → (x : X) → IsOneOf ys x → P x
ones_permuted P xs ys p f x o = ones_all P ys (All-permutation P xs ys p (all_ones P xs f)) x o

pub one_of_permuted : {X : Type 0} (xs ys : List X) → IsPermutation xs ys → (x : X) → IsOneOf ys x → IsOneOf xs x
one_of_permuted xs ys p x o = ones_permuted (IsOneOf xs) xs ys p (λ y h. h) x o

pub one_of_taken : {X : Type 0} (xs : List X) (i : ℕ) (x : X) → IsOneOf (take i xs) x → IsOneOf xs x
one_of_taken [] zero x o = o
one_of_taken [] (suc i) x o = o
one_of_taken (y ∷ xs) zero x o = absurd o
one_of_taken (y ∷ xs) (suc i) x o = elim o [ inl e ↦ inl e | inr t ↦ inr (one_of_taken xs i x t) ]
