-- The places of the labels of one progress: of a layer that grows, and what they tell of a layer.
use Rattle.std.proofs.Common.{◌≡◌, ℕ, ◌+◌, ◌<◌, true, false, List, [], ◌∷◌, ◌++◌, length, get_or, sym, ◌∙◌, ap, subst, arith, inl, inr, zero, suc}
use Rattle.std.specs.Prelude.{None, Some, slice_get, nat_eq, if◌then◌else◌}
use Rattle.std.proofs.lemmas.Bool.{cases_Bool}
use Rattle.std.proofs.lemmas.Bool.Decides.{nat_tests}
use Rattle.label_state.specs.declared.kept.Kept.{Kept}
use Rattle.label_state.specs.Buckets.{places_from, place_if}
use Rattle.label_state.specs.Laws.Buckets.{ArePlaces}

-- the places where a label is added after others
pub places_push : {S : Type 0} (p i : ℕ) (layer : List (Kept S)) (k : Kept S) → places_from p i (layer ++ k ∷ []) ≡ places_from p i layer ++ place_if p (i + length layer) k.label.progress
unfolding places_from
places_push p i [] k = ap (λ n. if nat_eq k.label.progress p then n ∷ [] else []) (let e : i ≡ i + 0 = omega arith in e)
places_push {S} p i (m ∷ layer) k =
    let e : suc i + length layer ≡ i + length (m ∷ layer) = omega arith in
    let rest : places_from p (suc i) (layer ++ k ∷ []) ≡ places_from p (suc i) layer ++ place_if p (i + length (m ∷ layer)) k.label.progress =
    places_push p (suc i) layer k ∙ ap (λ n. places_from p (suc i) layer ++ place_if p n k.label.progress) e in
    elim (cases_Bool (nat_eq m.label.progress p)) [
      | inl y ↦
          ap (λ b. if b then i ∷ places_from p (suc i) (layer ++ k ∷ []) else places_from p (suc i) (layer ++ k ∷ [])) y
          ∙ (ap (λ (l : List ℕ). i ∷ l) rest
          ∙ ap (λ b. (if b then i ∷ places_from p (suc i) layer else places_from p (suc i) layer) ++ place_if p (i + length (m ∷ layer)) k.label.progress) (sym y))
      | inr y ↦
          ap (λ b. if b then i ∷ places_from p (suc i) (layer ++ k ∷ []) else places_from p (suc i) (layer ++ k ∷ [])) y
          ∙ (rest ∙ ap (λ b. (if b then i ∷ places_from p (suc i) layer else places_from p (suc i) layer) ++ place_if p (i + length (m ∷ layer)) k.label.progress) (sym y))
    ]

pub equal_test : (a b : ℕ) → a ≡ b → nat_eq a b ≡ true
equal_test a b e = grind (arith, nat_tests)

-- ---- a label of the progress before the others

there_first : {S : Type 0} (p i : ℕ) (k : Kept S) (ks : List (Kept S)) (places : List ℕ) → ArePlaces p (suc i) ks places → (m : ℕ) → m < length (i ∷ places) → (j : ℕ) × (get_or (i ∷ places) m 0 ≡ i + j) × (j < length (k ∷ ks))
there_first p i k ks places h zero l = (0, omega arith, omega arith)
there_first p i k ks places h (suc m) l = let q = h.there m (omega arith) in let e = q.1 in let u = q.2 in (suc q.0, omega arith, omega arith)

all_first : {S : Type 0} (p i : ℕ) (k : Kept S) (ks : List (Kept S)) (places : List ℕ) → ArePlaces p (suc i) ks places → (j : ℕ) (x : Kept S) → slice_get (k ∷ ks) j ≡ Some x → x.label.progress ≡ p →
    (m : ℕ) × (m < length (i ∷ places)) × (get_or (i ∷ places) m 0 ≡ i + j)
all_first p i k ks places h zero x g e = (0, omega arith, omega arith)
all_first p i k ks places h (suc j) x g e = let q = h.all j x g e in let u = q.1 in let f = q.2 in (suc q.0, omega arith, omega arith)

rising_first : {S : Type 0} (p i : ℕ) (ks : List (Kept S)) (places : List ℕ) → ArePlaces p (suc i) ks places → (m n : ℕ) → m < n → n < length (i ∷ places) → get_or (i ∷ places) m 0 < get_or (i ∷ places) n 0
rising_first p i ks places h m zero l u = absurd (omega arith)
rising_first p i ks places h zero (suc n) l u = let q = h.there n (omega arith) in let e = q.1 in omega arith
rising_first p i ks places h (suc m) (suc n) l u = h.rising m n (omega arith) (omega arith)

own_first : {S : Type 0} (p i : ℕ) (k : Kept S) (ks : List (Kept S)) (places : List ℕ) → nat_eq k.label.progress p ≡ true → ArePlaces p (suc i) ks places → (m j : ℕ) (x : Kept S) → m < length (i ∷ places) → get_or (i ∷ places) m 0 ≡ i + j → slice_get (k ∷ ks) j ≡ Some x → x.label.progress ≡ p
own_first p i k ks places e h zero zero x l f g = let same : k ≡ x = (let z : Some k ≡ Some x = g in cc) in subst (λ y. y.label.progress ≡ p) same (grind (arith, nat_tests))
own_first p i k ks places e h zero (suc j) x l f g = absurd (omega arith)
own_first p i k ks places e h (suc m) zero x l f g = absurd (let q = h.there m (omega arith) in let u = q.1 in omega arith)
own_first p i k ks places e h (suc m) (suc j) x l f g = h.own m j x (omega arith) (omega arith) g

places_first : {S : Type 0} (p i : ℕ) (k : Kept S) (ks : List (Kept S)) (places : List ℕ) → nat_eq k.label.progress p ≡ true → ArePlaces p (suc i) ks places → ArePlaces p i (k ∷ ks) (i ∷ places)
places_first p i k ks places e h = record { there = there_first p i k ks places h; all = all_first p i k ks places h; own = own_first p i k ks places e h; rising = rising_first p i ks places h }

-- ---- a label of another progress before them

all_other : {S : Type 0} (p i : ℕ) (k : Kept S) (ks : List (Kept S)) (places : List ℕ) → nat_eq k.label.progress p ≡ false → ArePlaces p (suc i) ks places → (j : ℕ) (x : Kept S) → slice_get (k ∷ ks) j ≡ Some x → x.label.progress ≡ p →
    (m : ℕ) × (m < length places) × (get_or places m 0 ≡ i + j)
all_other p i k ks places d h zero x g e =
    let same : k ≡ x = (let z : Some k ≡ Some x = g in cc) in
    absurd (let z : true ≡ false = sym (equal_test k.label.progress p (ap (λ y. y.label.progress) same ∙ e)) ∙ d in cc)
all_other p i k ks places d h (suc j) x g e = let q = h.all j x g e in let u = q.1 in let f = q.2 in (q.0, u, omega arith)

own_other : {S : Type 0} (p i : ℕ) (k : Kept S) (ks : List (Kept S)) (places : List ℕ) → ArePlaces p (suc i) ks places → (m j : ℕ) (x : Kept S) → m < length places → get_or places m 0 ≡ i + j → slice_get (k ∷ ks) j ≡ Some x → x.label.progress ≡ p
own_other p i k ks places h m zero x l f g = absurd (let q = h.there m l in let u = q.1 in omega arith)
own_other p i k ks places h m (suc j) x l f g = h.own m j x l (omega arith) g

places_other : {S : Type 0} (p i : ℕ) (k : Kept S) (ks : List (Kept S)) (places : List ℕ) → nat_eq k.label.progress p ≡ false → ArePlaces p (suc i) ks places → ArePlaces p i (k ∷ ks) places
places_other p i k ks places d h = record {
  there = λ m l. (let q = h.there m l in let e = q.1 in let u = q.2 in (suc q.0, omega arith, omega arith));
  all = all_other p i k ks places d h;
  own = own_other p i k ks places h;
  rising = h.rising;
}

-- What the places tell.
pub are_places : {S : Type 0} (p i : ℕ) (layer : List (Kept S)) → ArePlaces p i layer (places_from p i layer)
unfolding places_from
are_places p i [] = record { there = λ m l. absurd (omega arith); all = λ j k g e. absurd (let z : None ≡ Some k = g in cc); own = λ m j k l. absurd (omega arith); rising = λ m n l u. absurd (omega arith) }
are_places p i (k ∷ ks) = elim (cases_Bool (nat_eq k.label.progress p)) [
  | inl y ↦ subst (ArePlaces p i (k ∷ ks)) (ap (λ b. if b then i ∷ places_from p (suc i) ks else places_from p (suc i) ks) (sym y)) (places_first p i k ks (places_from p (suc i) ks) y (are_places p (suc i) ks))
  | inr y ↦ subst (ArePlaces p i (k ∷ ks)) (ap (λ b. if b then i ∷ places_from p (suc i) ks else places_from p (suc i) ks) (sym y)) (places_other p i k ks (places_from p (suc i) ks) y (are_places p (suc i) ks))
]
