-- Labels that are kept in the turn of their parents.
use Rattle.std.proofs.Common.{◌≡◌, ℕ, ◌+◌, ◌<◌, true, List, [], ◌∷◌, ◌++◌, length, get_or, refl, sym, ◌∙◌, ap, subst, arith, ◌⊎◌, inl, inr, length-append}
use Rattle.std.specs.Prelude.{Some, slice_get}
use Rattle.std.specs.List.Sorted.{IsStrictlyIncreasing}
use Rattle.std.proofs.lemmas.Bool.{cases_lt}
use Rattle.std.proofs.lemmas.List.{map-append, get_or_append_left, get_or_push, get_or-append-add}
use Rattle.std.proofs.lemmas.List.Kept.{AllPairs-from_increasing}
use Rattle.rule_core.specs.declared.roots.Root.{Root}
use Rattle.rule_core.specs.Reach.{IsOneOf}
use Rattle.rule_core.specs.Laws.OneOf.{one_of-append, one_of-append_left, one_of-append_right, one_of-get_or, one_of-map, one_of_map}
use Rattle.cert_text.specs.CoverLists.Problem.{Problem, root_label, is_better}
use Rattle.cert_text.specs.CoverLists.Cover.{IsCovered}
use Rattle.label_state.specs.declared.kept.Kept.{Kept}
use Rattle.label_state.specs.Layers.{labels_of}
use Rattle.label_state.specs.Laws.LayerLaws.{label_kept, place_of_one}
use Rattle.label_search.specs.Sound.{IsFirstLayer, parents_of, IsCoveredBefore, IsFullBefore}
use Rattle.label_search.specs.Searching.{AreFirst, AreKeptInTurn, IsFilled}
use Rattle.label_search.proofs.Places.{get_of, place_within}

-- ---- numbers that rise along a list

rising_front : (ns ms : List ℕ) → IsStrictlyIncreasing (ns ++ ms) → IsStrictlyIncreasing ns
rising_front ns ms h k lt =
    let long = length-append ns ms in
    let up = h k (omega arith) in
    let low : get_or (ns ++ ms) k 0 ≡ get_or ns k 0 = get_or_append_left ns ms 0 k (omega arith) in
    let high : get_or (ns ++ ms) (k + 1) 0 ≡ get_or ns (k + 1) 0 = get_or_append_left ns ms 0 (k + 1) lt in
    omega arith

-- those of a first part are below those of the rest
rising_across : (ns ms : List ℕ) → IsStrictlyIncreasing (ns ++ ms) → (n m : ℕ) → IsOneOf ns n → IsOneOf ms m → n < m
rising_across ns ms h n m o q =
    let long = length-append ns ms in
    let i = place_of_one ns n o in
    let j = place_of_one ms m q in
    let inside = place_within ns i.0 n i.1 in
    let within = place_within ms j.0 m j.1 in
    let up : get_or (ns ++ ms) i.0 0 < get_or (ns ++ ms) (length ns + j.0) 0 = AllPairs-from_increasing (ns ++ ms) h i.0 (length ns + j.0) 0 (omega arith) (omega arith) in
    let low : get_or (ns ++ ms) i.0 0 ≡ n = get_or_append_left ns ms 0 i.0 inside ∙ get_of ns i.0 n 0 i.1 in
    let high : get_or (ns ++ ms) (length ns + j.0) 0 ≡ m = get_or-append-add ns ms j.0 0 ∙ get_of ms j.0 m 0 j.1 in
    omega arith

rising_push : (ns : List ℕ) (n : ℕ) → IsStrictlyIncreasing ns → ((m : ℕ) → IsOneOf ns m → m < n) → IsStrictlyIncreasing (ns ++ n ∷ [])
rising_push ns n h below k lt =
    let long = length-append ns (n ∷ []) in
    let low : get_or (ns ++ n ∷ []) k 0 ≡ get_or ns k 0 = get_or_append_left ns (n ∷ []) 0 k (omega arith) in
    elim (cases_lt (k + 1) (length ns)) [
      | inl inside ↦ (let up = h k inside in
          let high : get_or (ns ++ n ∷ []) (k + 1) 0 ≡ get_or ns (k + 1) 0 = get_or_append_left ns (n ∷ []) 0 (k + 1) inside in
          omega arith)
      | inr past ↦ (let high : get_or (ns ++ n ∷ []) (k + 1) 0 ≡ n = get_or_push ns n 0 (k + 1) (omega arith) in
          let up = below (get_or ns k 0) (one_of-get_or ns k 0 (omega arith)) in
          omega arith)
    ]

-- ---- labels and the places of their parents

pub one_of_parents : {S : Type 0} (layer : List (Kept S)) (k : Kept S) → IsOneOf layer k → IsOneOf (parents_of layer) k.parent
one_of_parents layer k o = one_of_map (λ m. m.parent) layer k o

pub parent_kept : {S : Type 0} (layer : List (Kept S)) (n : ℕ) → IsOneOf (parents_of layer) n → (k : Kept S) × IsOneOf layer k × (k.parent ≡ n)
parent_kept layer n o = one_of-map (λ m. m.parent) layer n o

parents-append : {S : Type 0} (a b : List (Kept S)) → parents_of (a ++ b) ≡ parents_of a ++ parents_of b
parents-append a b = map-append (λ k. k.parent) a b

pub parents_front : {S : Type 0} (a b : List (Kept S)) → IsStrictlyIncreasing (parents_of (a ++ b)) → IsStrictlyIncreasing (parents_of a)
parents_front a b h = rising_front (parents_of a) (parents_of b) (subst IsStrictlyIncreasing (parents-append a b) h)

pub parents_across : {S : Type 0} (a b : List (Kept S)) → IsStrictlyIncreasing (parents_of (a ++ b)) → (k m : Kept S) → IsOneOf a k → IsOneOf b m → k.parent < m.parent
parents_across a b h k m o q =
    rising_across (parents_of a) (parents_of b) (subst IsStrictlyIncreasing (parents-append a b) h) k.parent m.parent (one_of_parents a k o) (one_of_parents b m q)

pub parents_push : {S : Type 0} (layer : List (Kept S)) (k : Kept S) → IsStrictlyIncreasing (parents_of layer) → ((m : Kept S) → IsOneOf layer m → m.parent < k.parent) → IsStrictlyIncreasing (parents_of (layer ++ k ∷ []))
parents_push layer k h below =
    subst IsStrictlyIncreasing (sym (parents-append layer (k ∷ []))) (rising_push (parents_of layer) k.parent h (λ n o.
    (let q = parent_kept layer n o in subst (λ m. m < k.parent) q.2 (below q.0 q.1))))

-- ---- labels kept in turn

pub turn_first : {S : Type 0} (problem : Problem S) (step room : ℕ) → AreKeptInTurn problem step room [] []
turn_first problem step room = record { rising = λ k lt. absurd (omega arith); all = λ k o. absurd o }

-- a label more that is kept
pub turn_kept : {S : Type 0} (problem : Problem S) (step room : ℕ) (through layer : List (Kept S)) (k : Kept S) → IsStrictlyIncreasing (parents_of (through ++ k ∷ [])) →
    ((m : Kept S) → IsOneOf layer m → IsOneOf through m) → length layer < room → AreKeptInTurn problem step room through layer → AreKeptInTurn problem step room (through ++ k ∷ []) (layer ++ k ∷ [])
turn_kept problem step room through layer k up part lt h = record {
  rising = parents_push layer k h.rising (λ m o. parents_across through (k ∷ []) up m k (part m o) (inl refl));
  all = λ m o. elim (one_of-append through (k ∷ []) m o) [
    | inl a ↦ elim (h.all m a) [
      | inl here ↦ inl (one_of-append_left layer (k ∷ []) m here)
      | inr c ↦ elim c [ inl b ↦ inr (inl (b.0, one_of-append_left layer (k ∷ []) b.0 b.1, b.2, b.3)) | inr full ↦ (let e = full.0 in absurd (omega arith)) ]
    ]
    | inr q ↦ inl (one_of-append_right layer (k ∷ []) m q)
  ];
}

-- a label more than which one that is kept is better
pub turn_covered : {S : Type 0} (problem : Problem S) (step room : ℕ) (through layer : List (Kept S)) (k : Kept S) → IsStrictlyIncreasing (parents_of (through ++ k ∷ [])) →
    ((m : Kept S) → IsOneOf layer m → IsOneOf through m) → IsCovered problem step (labels_of layer) k.label → AreKeptInTurn problem step room through layer → AreKeptInTurn problem step room (through ++ k ∷ []) layer
turn_covered problem step room through layer k up part cover h = record {
  rising = h.rising;
  all = λ m o. elim (one_of-append through (k ∷ []) m o) [
    | inl a ↦ h.all m a
    | inr q ↦ elim q [
      | inl e ↦ (let c = label_kept layer cover.0 cover.1 in
          inr (inl (subst (λ j. IsCoveredBefore problem step layer j.parent j.label) e (c.0, c.1, parents_across through (k ∷ []) up c.0 k (part c.0 c.1) (inl refl), subst (λ l. is_better problem step l k.label ≡ true) (sym c.2) cover.2))))
      | inr z ↦ absurd z
    ]
  ];
}

-- labels more that find the layer full
pub turn_full : {S : Type 0} (problem : Problem S) (step room : ℕ) (through rest layer : List (Kept S)) → IsStrictlyIncreasing (parents_of (through ++ rest)) →
    ((m : Kept S) → IsOneOf layer m → IsOneOf through m) → length layer ≡ room → AreKeptInTurn problem step room through layer → AreKeptInTurn problem step room (through ++ rest) layer
turn_full problem step room through rest layer up part full h = record {
  rising = h.rising;
  all = λ m o. elim (one_of-append through rest m o) [ inl a ↦ h.all m a | inr q ↦ inr (inr (full, (λ k i. parents_across through rest up k m (part k i) q))) ];
}

-- ---- the first layer

-- the label of the root at a place
root_at : {S : Type 0} (roots : List (Root S)) (list : List (Kept S)) → AreFirst roots list → (i : ℕ) (root : Root S) → slice_get roots i ≡ Some root → (k : Kept S) × IsOneOf list k × (k.parent ≡ i) × (k.label ≡ root_label root.state)
root_at roots list a i root there =
    let q = parent_kept list i (a.all i (place_within roots i root there)) in
    let f = a.first q.0 q.1 in
    let same : Some f.root ≡ Some root = sym f.there ∙ (ap (slice_get roots) q.2 ∙ there) in
    (q.0, q.1, q.2, f.label ∙ ap (λ r. root_label r.state) (let e : f.root ≡ root = cc in e))

pub label_of_root : {S : Type 0} (roots : List (Root S)) (list : List (Kept S)) → AreFirst roots list → (root : Root S) → IsOneOf roots root → (k : Kept S) × IsOneOf list k × (k.label ≡ root_label root.state)
label_of_root roots list a root o = let i = place_of_one roots root o in let q = root_at roots list a i.0 root i.1 in (q.0, q.1, q.3)

first_all : {S : Type 0} (problem : Problem S) (roots : List (Root S)) (budget : ℕ) (list layer : List (Kept S)) → AreFirst roots list → AreKeptInTurn problem 0 budget list layer → (i : ℕ) (root : Root S) → slice_get roots i ≡ Some root →
    IsOneOf (parents_of layer) i ⊎ (IsCoveredBefore problem 0 layer i (root_label root.state) ⊎ IsFullBefore budget layer i)
first_all problem roots budget list layer a turn i root there =
    let q = root_at roots list a i root there in
    elim (turn.all q.0 q.1) [
      | inl here ↦ inl (subst (IsOneOf (parents_of layer)) q.2 (one_of_parents layer q.0 here))
      | inr c ↦ inr (elim c [
        | inl b ↦ inl (subst (λ n. IsCoveredBefore problem 0 layer n (root_label root.state)) q.2 (subst (IsCoveredBefore problem 0 layer q.0.parent) q.3 b))
        | inr full ↦ inr (subst (IsFullBefore budget layer) q.2 full)
      ])
    ]

pub first_layer : {S : Type 0} (problem : Problem S) (roots : List (Root S)) (budget room : ℕ) (list layer : List (Kept S)) → room ≡ budget → AreFirst roots list → IsFilled problem 0 room list layer → IsFirstLayer problem roots budget layer
first_layer problem roots budget room list layer e a f =
    let turn = subst (λ n. AreKeptInTurn problem 0 n list layer) e (f.in_turn a.rising) in
    let bounded = f.bounded in
    record { labels = λ k o. a.first k (f.only k o); rising = turn.rising; bounded = omega arith; all = first_all problem roots budget list layer a turn }
