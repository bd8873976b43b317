-- Buckets that are made, noted in, and kept beside layers.
use Rattle.std.proofs.Common.{◌≡◌, ℕ, ◌+◌, ◌<◌, ◌≤◌, Bool, true, false, List, [], ◌∷◌, ◌++◌, length, get_or, refl, sym, ◌∙◌, ap, subst, arith, append-nil, length-append, ◌⊎◌, inl, inr, zero, suc}
use Rattle.std.specs.Prelude.{Option, None, Some, slice_get, slice_set, nat_eq, if◌then◌else◌}
use Rattle.std.proofs.lemmas.Bool.Decides.{nat_tests}
use Rattle.std.proofs.lemmas.Option.{slice_get_read}
use Rattle.label_state.specs.declared.kept.Kept.{Kept}
use Rattle.label_state.specs.declared.buckets.Bucket.{Bucket}
use Rattle.label_state.specs.Layers.{last_step, last_layer, with_kept}
use Rattle.label_state.specs.Laws.LayerLaws.{length_kept, last_kept, layer_new}
use Rattle.label_state.specs.Buckets.{places_from, places_of, place_if, places_in, AreUpTo, AreBuckets}
use Rattle.label_state.specs.Laws.BucketLaws.{places_push, equal_test}

other_test : (a b : ℕ) → (a ≡ b → ⊥) → nat_eq a b ≡ false
other_test a b d = grind (arith, nat_tests)

abbrev no_places : List ℕ
no_places = []

same_branch : (b : Bool) → (if b then no_places else no_places) ≡ no_places
same_branch true = refl
same_branch false = refl

-- ---- one more bucket

read_push : (bs : List Bucket) (b : Bucket) (p : ℕ) → (slice_get (bs ++ b ∷ []) p ≡ slice_get bs p) ⊎ ((slice_get bs p ≡ None) × (slice_get (bs ++ b ∷ []) p ≡ Some b))
read_push [] b zero = inr (refl, refl)
read_push [] b (suc p) = inl refl
read_push (c ∷ bs) b zero = inl refl
read_push (c ∷ bs) b (suc p) = read_push bs b p

pub push_same : (depth : ℕ) (bs : List Bucket) (b : Bucket) (p : ℕ) → b.places.items ≡ [] → places_in depth (slice_get (bs ++ b ∷ []) p) ≡ places_in depth (slice_get bs p)
push_same depth bs b p e = elim (read_push bs b p) [
  | inl f ↦ ap (places_in depth) f
  | inr q ↦ ap (places_in depth) q.1 ∙ (ap (λ l. if nat_eq b.depth depth then l else []) e ∙ (same_branch (nat_eq b.depth depth) ∙ sym (ap (places_in depth) q.0)))
]

pub push_up : (depth : ℕ) (bs : List Bucket) (b : Bucket) → b.depth ≤ depth → AreUpTo depth bs → AreUpTo depth (bs ++ b ∷ [])
push_up depth bs b l h p c e = elim (read_push bs b p) [
  | inl f ↦ h p c (sym f ∙ e)
  | inr q ↦ subst (λ (d : Bucket). d.depth ≤ depth) (let y : Some b ≡ Some c = sym q.1 ∙ e in let z : b ≡ c = cc in z) l
]

-- ---- one bucket changed

read_set : (bs : List Bucket) (i : ℕ) (b : Bucket) (p : ℕ) → i < length bs → ((p ≡ i) × (slice_get (slice_set bs i b) p ≡ Some b)) ⊎ ((p ≡ i → ⊥) × (slice_get (slice_set bs i b) p ≡ slice_get bs p))
read_set [] i b p l = absurd (omega arith)
read_set (c ∷ bs) zero b zero l = inl (refl, refl)
read_set (c ∷ bs) zero b (suc p) l = inr (λ e. absurd (omega arith), refl)
read_set (c ∷ bs) (suc i) b zero l = inr (λ e. absurd (omega arith), refl)
read_set (c ∷ bs) (suc i) b (suc p) l = elim (read_set bs i b p (omega arith)) [ inl q ↦ inl (ap suc q.0, q.1) | inr q ↦ inr (λ e. q.0 (omega arith), q.1) ]

pub noted : (depth : ℕ) (bs : List Bucket) (i : ℕ) (old new : Bucket) (place : ℕ) → i < length bs → old ≡ get_or bs i old → places_in depth (Some new) ≡ places_in depth (Some old) ++ place ∷ [] →
    (p : ℕ) → places_in depth (slice_get (slice_set bs i new) p) ≡ places_in depth (slice_get bs p) ++ place_if p place i
noted depth bs i old new place l read h p = elim (read_set bs i new p l) [
  | inl q ↦
      let there : Some old ≡ slice_get bs p = sym (ap (slice_get bs) q.0 ∙ slice_get_read bs (length bs) i old refl l read) in
      ap (places_in depth) q.1 ∙ (h ∙ (ap (λ o. places_in depth o ++ place ∷ []) there ∙ ap (λ b. places_in depth (slice_get bs p) ++ (if b then place ∷ [] else [])) (sym (equal_test i p (sym q.0)))))
  | inr q ↦
      ap (places_in depth) q.1
      ∙ (sym (append-nil (places_in depth (slice_get bs p))) ∙ ap (λ b. places_in depth (slice_get bs p) ++ (if b then place ∷ [] else [])) (sym (other_test i p (λ e. q.0 (sym e)))))
]

pub not_noted : (depth : ℕ) (bs : List Bucket) (i : ℕ) (old new : Bucket) → i < length bs → old ≡ get_or bs i old → places_in depth (Some new) ≡ places_in depth (Some old) →
    (p : ℕ) → places_in depth (slice_get (slice_set bs i new) p) ≡ places_in depth (slice_get bs p)
not_noted depth bs i old new l read h p = elim (read_set bs i new p l) [
  | inl q ↦ ap (places_in depth) q.1 ∙ (h ∙ ap (places_in depth) (sym (ap (slice_get bs) q.0 ∙ slice_get_read bs (length bs) i old refl l read)))
  | inr q ↦ ap (places_in depth) q.1
]

pub set_up : (depth : ℕ) (bs : List Bucket) (i : ℕ) (new : Bucket) → i < length bs → new.depth ≡ depth → AreUpTo depth bs → AreUpTo depth (slice_set bs i new)
set_up depth bs i new l d h p c e = elim (read_set bs i new p l) [
  | inl q ↦ (let y : Some new ≡ Some c = sym q.1 ∙ e in let z : new ≡ c = cc in subst (λ (b : Bucket). b.depth ≤ depth) z (omega arith))
  | inr q ↦ h p c (sym q.1 ∙ e)
]

-- ---- beside layers

pub held_none : {S : Type 0} → AreBuckets {S = S} [] []
unfolding places_from
held_none = record { here = λ p. refl; old = λ p b e. absurd (let z : None ≡ Some b = e in cc) }

fresh : (depth n : ℕ) (o : Option Bucket) → n < depth → ((b : Bucket) → o ≡ Some b → b.depth ≤ n) → places_in depth o ≡ []
fresh depth n None l h = refl
fresh depth n (Some b) l h = let u = h b refl in ap (λ t. if t then b.places.items else []) (other_test b.depth depth (λ e. absurd (omega arith)))

-- in a layer with no labels no place is noted
pub held_push : {S : Type 0} (buckets : List Bucket) (layers : List (List (Kept S))) → AreBuckets buckets layers → AreBuckets buckets (layers ++ [] ∷ [])
unfolding places_from
held_push {S} buckets layers h =
    let long : length (layers ++ [] ∷ []) ≡ length layers + 1 = length-append layers ([] ∷ []) in
    let empty : last_layer (layers ++ [] ∷ []) ≡ [] = layer_new layers [] (last_step (layers ++ [] ∷ [])) (omega arith) in
    record {
      here = λ p. fresh (length (layers ++ [] ∷ [])) (length layers) (slice_get buckets p) (omega arith) (h.old p) ∙ sym (ap (places_of p) empty);
      old = λ p b e. (let u = h.old p b e in omega arith);
    }

pub held_keep : {S : Type 0} (buckets new : List Bucket) (layers : List (List (Kept S))) (k : Kept S) → 0 < length layers → AreBuckets buckets layers →
    ((p : ℕ) → places_in (length layers) (slice_get new p) ≡ places_in (length layers) (slice_get buckets p) ++ place_if p (length (last_layer layers)) k.label.progress) →
    AreUpTo (length layers) new → AreBuckets new (with_kept layers k)
held_keep buckets new layers k some h more up =
    let long : length (with_kept layers k) ≡ length layers = length_kept layers k some in
    let last = last_layer layers in
    record {
      here = λ p.
          ap (λ d. places_in d (slice_get new p)) long
          ∙ (more p
          ∙ (ap (λ l. l ++ place_if p (length last) k.label.progress) (h.here p)
          ∙ (ap (λ n. places_of p last ++ place_if p n k.label.progress) (let e : length last ≡ 0 + length last = omega arith in e)
          ∙ (sym (places_push p 0 last k) ∙ ap (places_of p) (sym (last_kept layers k some))))));
      old = λ p b e. (let u = up p b e in omega arith);
    }

pub held_same : {S : Type 0} (buckets new : List Bucket) (layers : List (List (Kept S))) → AreBuckets buckets layers →
    ((p : ℕ) → places_in (length layers) (slice_get new p) ≡ places_in (length layers) (slice_get buckets p)) → AreUpTo (length layers) new → AreBuckets new layers
held_same buckets new layers h same up = record { here = λ p. same p ∙ h.here p; old = up }
