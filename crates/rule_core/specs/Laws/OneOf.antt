-- Membership in lists that are put together.
use Rattle.std.proofs.Common.{◌≡◌, ℕ, ◌<◌, List, [], ◌∷◌, ◌++◌, length, get_or, refl, sym, ap, subst, arith, ◌⊎◌, inl, inr, zero, suc}
use Rattle.std.specs.Prelude.{map, flat_map, Contains}
use Rattle.duty_core.specs.Laws.MarkListLaws.{contains_head, contains_after, contains_cases}
use Rattle.rule_core.specs.Reach.{IsOneOf}

pub one_of-append_left : {X : Type 0} (xs ys : List X) (x : X) → IsOneOf xs x → IsOneOf (xs ++ ys) x
one_of-append_left [] ys x h = absurd h
one_of-append_left (z ∷ xs) ys x h = elim h [ inl e ↦ inl e | inr t ↦ inr (one_of-append_left xs ys x t) ]

pub one_of-append_right : {X : Type 0} (xs ys : List X) (x : X) → IsOneOf ys x → IsOneOf (xs ++ ys) x
one_of-append_right [] ys x h = h
one_of-append_right (z ∷ xs) ys x h = inr (one_of-append_right xs ys x h)

pub one_of-append : {X : Type 0} (xs ys : List X) (x : X) → IsOneOf (xs ++ ys) x → IsOneOf xs x ⊎ IsOneOf ys x
one_of-append [] ys x h = inr h
one_of-append (z ∷ xs) ys x h = elim h [ inl e ↦ inl (inl e) | inr t ↦ elim (one_of-append xs ys x t) [ inl a ↦ inl (inr a) | inr b ↦ inr b ] ]

pub one_of-get_or : {X : Type 0} (xs : List X) (i : ℕ) (d : X) → i < length xs → IsOneOf xs (get_or xs i d)
one_of-get_or [] i d h = absurd (omega arith)
one_of-get_or (x ∷ xs) zero d h = inl refl
one_of-get_or (x ∷ xs) (suc i) d h = inr (one_of-get_or xs i d (omega arith))

pub one_of-map : {X Y : Type 0} (f : X → Y) (xs : List X) (y : Y) → IsOneOf (map f xs) y → (x : X) × IsOneOf xs x × (f x ≡ y)
one_of-map f [] y h = absurd h
one_of-map f (x ∷ xs) y h = elim h [ inl e ↦ (x, inl refl, e) | inr t ↦ (let q = one_of-map f xs y t in (q.0, inr q.1, q.2)) ]

pub one_of_map : {X Y : Type 0} (f : X → Y) (xs : List X) (x : X) → IsOneOf xs x → IsOneOf (map f xs) (f x)
one_of_map f [] x h = absurd h
one_of_map f (y ∷ xs) x h = elim h [ inl e ↦ inl (ap f e) | inr t ↦ inr (one_of_map f xs x t) ]

pub one_of-flat_map : {X Y : Type 0} (f : X → List Y) (xs : List X) (y : Y) → IsOneOf (flat_map f xs) y → (x : X) × IsOneOf xs x × IsOneOf (f x) y
one_of-flat_map f [] y h = absurd h
one_of-flat_map f (x ∷ xs) y h = elim (one_of-append (f x) (flat_map f xs) y h) [ inl a ↦ (x, inl refl, a) | inr b ↦ (let q = one_of-flat_map f xs y b in (q.0, inr q.1, q.2)) ]

pub one_of_flat_map : {X Y : Type 0} (f : X → List Y) (xs : List X) (x : X) (y : Y) → IsOneOf xs x → IsOneOf (f x) y → IsOneOf (flat_map f xs) y
one_of_flat_map f [] x y h i = absurd h
one_of_flat_map f (z ∷ xs) x y h i = elim h [
  | inl e ↦ one_of-append_left (f z) (flat_map f xs) y (subst (λ w. IsOneOf (f w) y) (sym e) i)
  | inr t ↦ one_of-append_right (f z) (flat_map f xs) y (one_of_flat_map f xs x y t i)
]

-- an element as a loop reads it
pub one_of_item : {X : Type 0} (xs : List X) (i : ℕ) (x : X) → i < length xs → x ≡ get_or xs i x → IsOneOf xs x
one_of_item xs i x l e = subst (IsOneOf xs) (sym e) (one_of-get_or xs i x l)

-- what stands in the list is an element of it
pub contains_of : {X : Type 0} (xs : List X) (x : X) → IsOneOf xs x → Contains xs x
contains_of [] x h = absurd h
contains_of (y ∷ xs) x h = elim h [ inl e ↦ subst (Contains (y ∷ xs)) e (contains_head y xs) | inr t ↦ contains_after y xs x (contains_of xs x t) ]

pub of_contains : {X : Type 0} (xs : List X) (x : X) → Contains xs x → IsOneOf xs x
of_contains [] x h = let l = h.1 in absurd (omega arith)
of_contains (y ∷ xs) x h = elim (contains_cases y xs x h) [ inl e ↦ inl e | inr t ↦ inr (of_contains xs x t) ]
