-- Lists that are left from a place on.
use Rattle.std.proofs.Common.{◌≡◌, ℕ, zero, suc, ◌+◌, ◌<◌, ◌≤◌, List, [], ◌∷◌, length, map, drop, get_or, refl, sym, ap, arith, add-one}

-- what is left from a place on is the element there and what is left after it
pub left_at : {A B : Type 0} (f : A → B) (xs : List A) (i : ℕ) (x : A) → i < length xs → x ≡ get_or xs i x → drop i (map f xs) ≡ f x ∷ drop (i + 1) (map f xs)
left_at f [] i x lt is = absurd (omega arith)
left_at f (y ∷ xs) zero x lt is = ap (λ z. f z ∷ map f xs) (sym is)
left_at f (y ∷ xs) (suc i) x lt is = rw add-one (let rest = left_at f xs i x (omega arith) is in rw add-one at rest)

-- nothing is left from the end on
pub left_none : {A B : Type 0} (f : A → B) (xs : List A) (i : ℕ) → length xs ≤ i → drop i (map f xs) ≡ []
left_none f [] zero le = refl
left_none f [] (suc i) le = refl
left_none f (y ∷ xs) zero le = absurd (omega arith)
left_none f (y ∷ xs) (suc i) le = left_none f xs i (omega arith)
