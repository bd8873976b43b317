-- Labels put in order by the ranks of their departure and their progress.
use Rattle.std.proofs.Common.{◌≡◌, ℕ, ◌+◌, ◌-◌, ◌<◌, ◌≤◌, zero, suc, true, take, List, [], ◌∷◌, ◌++◌, length, get_or, refl, sym, ◌∙◌, ap, subst, arith, inl, inr}
use Rattle.std.specs.Prelude.{Option, None, Some, slice_get}
use Rattle.std.specs.List.Sorted.{IsPermutation, IsNonDecreasingBy}
use Rattle.std.proofs.lemmas.Bool.Decides.{nat_tests}
use Rattle.rule_core.specs.Reach.{IsOneOf}
use Rattle.rule_core.specs.Laws.OneOf.{one_of-append, one_of-get_or}
use Rattle.tour_model.specs.declared.limits.TheConstants.{STEP_LIMIT}
use Rattle.label_state.specs.declared.kept.Kept.{Kept}
use Rattle.cert_text.specs.CoverLists.Problem.{later}
use Rattle.label_search.specs.Sound.{StandsBefore, AreOrdered}
use Rattle.label_search.specs.Searching.{AreSmall, rank_of, depart_rank, progress_rank}
use Rattle.label_state.specs.Laws.LayerLaws.{place_of_one}
use Rattle.label_search.proofs.Places.{one_of_place, get_of, place_within, one_of_permuted}

-- neighbours that tie by n rise by m, and so do all that tie
ties_gap : {X : Type 0} (m n : X → ℕ) (xs : List X) → IsNonDecreasingBy n xs → ((k : ℕ) (d : X) → k + 1 < length xs → n (get_or xs k d) ≡ n (get_or xs (k + 1) d) → m (get_or xs k d) ≤ m (get_or xs (k + 1) d)) →
    (i g : ℕ) (d : X) → i + g < length xs → n (get_or xs i d) ≡ n (get_or xs (i + g) d) → m (get_or xs i d) ≤ m (get_or xs (i + g) d)
ties_gap m n xs up step i zero d lt e =
    let z : i ≡ i + 0 = omega arith in
    subst (λ t. m (get_or xs i d) ≤ m (get_or xs t d)) z (omega arith)
ties_gap m n xs up step i (suc g) d lt e =
    let z : i + g + 1 ≡ i + suc g = omega arith in
    let u = up i (i + g) d (omega arith) (omega arith) in
    let v = up (i + g) (i + suc g) d (omega arith) lt in
    let near : n (get_or xs i d) ≡ n (get_or xs (i + g) d) = omega arith in
    let far : n (get_or xs (i + g) d) ≡ n (get_or xs (i + g + 1) d) = subst (λ t. n (get_or xs (i + g) d) ≡ n (get_or xs t d)) (sym z) (let f : n (get_or xs (i + g) d) ≡ n (get_or xs (i + suc g) d) = omega arith in f) in
    let a = ties_gap m n xs up step i g d (omega arith) near in
    let b = subst (λ t. m (get_or xs (i + g) d) ≤ m (get_or xs t d)) z (step (i + g) d (omega arith) far) in
    omega arith

ordered_from : {S : Type 0} (xs : List (Kept S)) → ((i j : ℕ) (a b : Kept S) → i < j → slice_get xs i ≡ Some a → slice_get xs j ≡ Some b → StandsBefore a.label b.label) → AreOrdered xs
ordered_from [] f = tt
ordered_from (k ∷ ks) f = (
  λ m o. (let q = place_of_one ks m o in f 0 (suc q.0) k m (omega arith) refl q.1),
  ordered_from ks (λ i j a b lt p q. f (suc i) (suc j) a b (omega arith) p q),
)

later_ranked : (a b : Option ℕ) → ((d : ℕ) → a ≡ Some d → d < STEP_LIMIT) → ((d : ℕ) → b ≡ Some d → d < STEP_LIMIT) → rank_of a ≤ rank_of b → later a b ≡ true
later_ranked None b small_a small_b h = refl
later_ranked (Some x) None small_a small_b h = absurd (let l = small_a x refl in omega arith)
later_ranked (Some x) (Some y) small_a small_b h = let l = small_a x refl in let m = small_b y refl in let r : y ≤ x = omega arith in grind (arith, nat_tests)

stands_ranked : {S : Type 0} (a b : Kept S) → (a.label.progress < STEP_LIMIT) × ((d : ℕ) → a.label.depart ≡ Some d → d < STEP_LIMIT) → (b.label.progress < STEP_LIMIT) × ((d : ℕ) → b.label.depart ≡ Some d → d < STEP_LIMIT) →
    depart_rank a ≤ depart_rank b → (depart_rank a ≡ depart_rank b → progress_rank a ≤ progress_rank b) → StandsBefore a.label b.label
stands_ranked a b small_a small_b departs ties = record {
  departs = later_ranked a.label.depart b.label.depart small_a.1 small_b.1 departs;
  progress = λ e. (let r = ties (ap rank_of e) in let l = small_a.0 in let m = small_b.0 in omega arith);
}

pub put_ordered : {S : Type 0} (old new : List (Kept S)) → AreSmall old → IsPermutation old new → IsNonDecreasingBy depart_rank new →
    ((k : ℕ) (d : Kept S) → k + 1 < length new → depart_rank (get_or new k d) ≡ depart_rank (get_or new (k + 1) d) → progress_rank (get_or new k d) ≤ progress_rank (get_or new (k + 1) d)) → AreOrdered new
put_ordered old new small same up ties = ordered_from new (λ i j a b lt p q.
    let w = place_within new j b q in
    let ga = get_of new i a a p in
    let gb = get_of new j b a q in
    let gap : i + (j - i) ≡ j = omega arith in
    let rise : depart_rank a ≤ depart_rank b = subst (λ x. depart_rank x ≤ depart_rank b) ga (subst (λ x. depart_rank (get_or new i a) ≤ depart_rank x) gb (up i j a (omega arith) w)) in
    stands_ranked a b (small a (one_of_permuted old new same a (one_of_place new i a p))) (small b (one_of_permuted old new same b (one_of_place new j b q))) rise
    (λ e. subst (λ x. progress_rank x ≤ progress_rank b) ga (subst (λ x. progress_rank (get_or new i a) ≤ progress_rank x) gb
    (subst (λ t. progress_rank (get_or new i a) ≤ progress_rank (get_or new t a)) gap
    (ties_gap progress_rank depart_rank new up ties i (j - i) a (omega arith)
    (ap depart_rank ga ∙ (e ∙ (sym (ap depart_rank gb) ∙ ap (λ t. depart_rank (get_or new t a)) (sym gap)))))))))

-- a sublist in order keeps it when one that stands after all comes to its end
pub ordered_push : {S : Type 0} (ks : List (Kept S)) (k : Kept S) → AreOrdered ks → ((m : Kept S) → IsOneOf ks m → StandsBefore m.label k.label) → AreOrdered (ks ++ k ∷ [])
ordered_push [] k h f = (λ m o. absurd o, tt)
ordered_push (x ∷ ks) k h f = (
  λ m o. elim (one_of-append ks (k ∷ []) m o) [
    | inl a ↦ h.0 m a
    | inr q ↦ elim q [ inl e ↦ subst (λ y. StandsBefore x.label y.label) e (f x (inl refl)) | inr z ↦ absurd z ]
  ],
  ordered_push ks k h.1 (λ m o. f m (inr o)),
)

-- what stands at a place of an ordered list stands after all before it
pub ordered_at : {S : Type 0} (ks : List (Kept S)) (i : ℕ) (k m : Kept S) → AreOrdered ks → i < length ks → k ≡ get_or ks i k → IsOneOf (take i ks) m → StandsBefore m.label k.label
ordered_at [] i k m h lt e o = absurd (omega arith)
ordered_at (x ∷ ks) zero k m h lt e o = absurd o
ordered_at (x ∷ ks) (suc i) k m h lt e o = elim o [
  | inl f ↦ subst (λ y. StandsBefore y.label k.label) f (h.0 k (subst (IsOneOf ks) (sym e) (one_of-get_or ks i k (omega arith))))
  | inr t ↦ ordered_at ks i k m h.1 (omega arith) e t
]
