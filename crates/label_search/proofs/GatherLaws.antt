-- What gathering the labels for a layer comes to.
use Rattle.std.proofs.Common.{◌≡◌, ℕ, ◌+◌, ◌-◌, ◌<◌, ◌≤◌, true, List, [], ◌∷◌, ◌++◌, length, take, get_or, refl, sym, ◌∙◌, ap, subst, arith, inl, inr, ◌⊎◌}
use Rattle.std.specs.Prelude.{Option, None, Some, slice_get}
use Rattle.std.specs.List.Sorted.{IsPermutation, IsStrictlyIncreasing}
use Rattle.std.proofs.lemmas.List.Sorted.{IsPermutation-sym}
use Rattle.std.proofs.lemmas.Bool.{cases_lt}
use Rattle.std.proofs.lemmas.List.{take_more, take_all}
use Rattle.std.proofs.lemmas.Option.{slice_get_read}
use Rattle.duty_core.specs.declared.activity.Activity.TheVariants.{Off}
use Rattle.rule_core.specs.declared.roots.Root.{Root}
use Rattle.rule_core.specs.Reach.{IsOneOf}
use Rattle.rule_core.specs.Laws.OneOf.{one_of-append, one_of-append_left, one_of-append_right}
use Rattle.tour_model.specs.declared.label.Label.{Label}
use Rattle.tour_model.specs.declared.limits.TheConstants.{STEP_LIMIT}
use Rattle.cert_text.specs.declared.cover_lists.grown.Grown.{Grown}
use Rattle.label_state.specs.declared.kept.Kept.{Kept}
use Rattle.label_state.specs.Layers.{labels_of}
use Rattle.label_state.specs.Laws.LayerLaws.{one_of_labels, label_kept}
use Rattle.cert_text.specs.CoverLists.Problem.{Problem, root_label, successors_of, later, HasBound}
use Rattle.cert_text.specs.CoverLists.Cover.{IsPrunedAt, IsPruned, IsLabelAt}
use Rattle.label_extend.specs.Growths.{AreGrownAt}
use Rattle.label_search.specs.Sound.{IsFirst, parents_of, GrewFrom, AreOrdered}
use Rattle.label_search.specs.Searching.{AreLabelsAt, AreSmall, IsGathered, Gathers, AreGathered, AreFirst}
use Rattle.label_search.proofs.Places.{one_of_permuted}
use Rattle.label_search.proofs.TurnLaws.{one_of_parents, parent_kept, parents_push}

-- ---- which labels are pruned

bound_by : {S : Type 0} (problem : Problem S) (limit : Option ℕ) (step : ℕ) (l : Label S) (o : Option ℕ) → problem.bound step l ≡ o → (IsPrunedAt limit l.depart o → ⊥) → HasBound problem step l
bound_by problem limit step l None e kept = absurd (kept tt)
bound_by problem limit step l (Some bound) e kept = record { bound = bound; is = e }

-- a label that is not pruned can still be finished
unpruned_has_bound : {S : Type 0} (problem : Problem S) (limit : Option ℕ) (step : ℕ) (l : Label S) → (IsPruned problem limit step l → ⊥) → HasBound problem step l
unpruned_has_bound problem limit step l kept = bound_by problem limit step l (problem.bound step l) refl kept

-- ---- the successors of one label

pub gathers_none : {S : Type 0} (problem : Problem S) (limit : Option ℕ) (step place : ℕ) (ls : List (Kept S)) → Gathers problem limit step place [] ls ls
gathers_none problem limit step place ls = record { only = λ k o. inl o; keeps = λ k o. o; all = λ g o. absurd o }

pub gathers_pruned : {S : Type 0} (problem : Problem S) (limit : Option ℕ) (step place : ℕ) (g : Grown S) (ls : List (Kept S)) → IsPruned problem limit step g.label → Gathers problem limit step place (g ∷ []) ls ls
gathers_pruned problem limit step place g ls off = record {
  only = λ k o. inl o;
  keeps = λ k o. o;
  all = λ m o. elim o [ inl e ↦ inl (subst (λ n. IsPruned problem limit step n.label) e off) | inr z ↦ absurd z ];
}

pub gathers_pushed : {S : Type 0} (problem : Problem S) (limit : Option ℕ) (step place : ℕ) (g : Grown S) (ls : List (Kept S)) → (IsPruned problem limit step g.label → ⊥) →
    Gathers problem limit step place (g ∷ []) ls (ls ++ (record { label = g.label; parent = place; act = g.act; mark = g.mark }) ∷ [])
gathers_pushed {S} problem limit step place g ls u =
    let k : Kept S = record { label = g.label; parent = place; act = g.act; mark = g.mark } in
    record {
      only = λ m o. elim (one_of-append ls (k ∷ []) m o) [
        | inl a ↦ inl a
        | inr q ↦ elim q [
          | inl f ↦ inr (subst (λ j. IsGathered problem limit step place (g ∷ []) j) f (record { parent = refl; grown = inl refl; unpruned = u }))
          | inr z ↦ absurd z
        ]
      ];
      keeps = λ m o. one_of-append_left ls (k ∷ []) m o;
      all = λ m o. elim o [
        | inl f ↦ inr (subst (λ n. IsOneOf (labels_of (ls ++ k ∷ [])) n.label) f (one_of_labels (ls ++ k ∷ []) k (one_of-append_right ls (k ∷ []) k (inl refl))))
        | inr z ↦ absurd z
      ];
    }

labels_keep : {S : Type 0} (a b : List (Kept S)) → ((k : Kept S) → IsOneOf a k → IsOneOf b k) → (l : Label S) → IsOneOf (labels_of a) l → IsOneOf (labels_of b) l
labels_keep a b keeps l o = let q = label_kept a l o in subst (IsOneOf (labels_of b)) q.2 (one_of_labels b q.0 (keeps q.0 q.1))

pub gathers_on : {S : Type 0} (problem : Problem S) (limit : Option ℕ) (step place : ℕ) (gs hs : List (Grown S)) (a b c : List (Kept S)) →
    Gathers problem limit step place gs a b → Gathers problem limit step place hs b c → Gathers problem limit step place (gs ++ hs) a c
gathers_on problem limit step place gs hs a b c f g = record {
  only = λ k o. elim (g.only k o) [
    | inl i ↦ elim (f.only k i) [
      | inl j ↦ inl j
      | inr j ↦ inr (record { parent = j.parent; grown = one_of-append_left gs hs (record { label = k.label; act = k.act; mark = k.mark }) j.grown; unpruned = j.unpruned })
    ]
    | inr j ↦ inr (record { parent = j.parent; grown = one_of-append_right gs hs (record { label = k.label; act = k.act; mark = k.mark }) j.grown; unpruned = j.unpruned })
  ];
  keeps = λ k o. g.keeps k (f.keeps k o);
  all = λ m o. elim (one_of-append gs hs m o) [
    | inl i ↦ elim (f.all m i) [ inl off ↦ inl off | inr l ↦ inr (labels_keep b c g.keeps m.label l) ]
    | inr i ↦ g.all m i
  ];
}

-- ---- the successors of a layer

-- the labels gathered from some of a layer's labels
pub record IsGathering {S : Type 0} (problem : Problem S) (limit : Option ℕ) (step : ℕ) (layer through list : List (Kept S)) : Type 0 where
  pub grew : (k : Kept S) → IsOneOf list k → GrewFrom problem step layer k
  pub unpruned : (k : Kept S) → IsOneOf list k → IsPruned problem limit (step + 1) k.label → ⊥
  pub all : (k : Kept S) → IsOneOf through k → (g : Grown S) → IsOneOf (successors_of problem step k.label) g → IsPruned problem limit (step + 1) g.label ⊎ IsOneOf (labels_of list) g.label

pub gathering_first : {S : Type 0} (problem : Problem S) (limit : Option ℕ) (step : ℕ) (layer : List (Kept S)) → IsGathering problem limit step layer [] []
gathering_first problem limit step layer = record { grew = λ k o. absurd o; unpruned = λ k o. absurd o; all = λ k o. absurd o }

grew_from : {S : Type 0} (problem : Problem S) (limit : Option ℕ) (step : ℕ) (layer : List (Kept S)) (i : ℕ) (x k : Kept S) → i < length layer → x ≡ get_or layer i x →
    IsGathered problem limit (step + 1) i (successors_of problem step x.label) k → GrewFrom problem step layer k
grew_from problem limit step layer i x k lt e h = record {
  parent = x;
  there = ap (slice_get layer) h.parent ∙ slice_get_read layer (length layer) i x refl lt e;
  grown = h.grown;
  has_bound = unpruned_has_bound problem limit (step + 1) k.label h.unpruned;
}

pub gathering_more : {S : Type 0} (problem : Problem S) (limit : Option ℕ) (step : ℕ) (layer list new : List (Kept S)) (i : ℕ) (x : Kept S) → i < length layer → x ≡ get_or layer i x →
    IsGathering problem limit step layer (take i layer) list → Gathers problem limit (step + 1) i (successors_of problem step x.label) list new → IsGathering problem limit step layer (take (i + 1) layer) new
gathering_more {S} problem limit step layer list new i x lt e h f =
    let more : take (i + 1) layer ≡ take i layer ++ x ∷ [] = take_more layer i x lt ∙ ap (λ y. take i layer ++ y ∷ []) (sym e) in
    record {
      grew = λ k o. elim (f.only k o) [ inl a ↦ h.grew k a | inr b ↦ grew_from problem limit step layer i x k lt e b ];
      unpruned = λ k o. elim (f.only k o) [ inl a ↦ h.unpruned k a | inr b ↦ b.unpruned ];
      all = λ k o m q.
          elim (one_of-append (take i layer) (x ∷ []) k (subst (λ ys. IsOneOf ys k) more o)) [
            | inl a ↦ elim (h.all k a m q) [ inl off ↦ inl off | inr l ↦ inr (labels_keep list new f.keeps m.label l) ]
            | inr b ↦ elim b [
              | inl eq ↦ f.all m (subst (λ y. IsOneOf (successors_of problem step y.label) m) (sym eq) q)
              | inr z ↦ absurd z
            ]
          ];
    }

pub gathered_sorted : {S : Type 0} (problem : Problem S) (limit : Option ℕ) (step : ℕ) (layer list new : List (Kept S)) (i : ℕ) → length layer ≤ i → IsGathering problem limit step layer (take i layer) list → IsPermutation list new →
    AreGathered problem limit step layer new
gathered_sorted problem limit step layer list new i le h same = record {
  grew = λ k o. h.grew k (one_of_permuted list new same k o);
  unpruned = λ k o. h.unpruned k (one_of_permuted list new same k o);
  all = λ k o m q. elim (h.all k (subst (λ ys. IsOneOf ys k) (sym (take_all i layer le)) o) m q) [
    | inl off ↦ inl off
    | inr l ↦ inr (labels_keep list new (λ j p. one_of_permuted new list (IsPermutation-sym list new same) j p) m.label l)
  ];
}

-- ---- labels of a step

pub labels_gathered : {S : Type 0} (problem : Problem S) (limit : Option ℕ) (step place : ℕ) (gs : List (Grown S)) (old new : List (Kept S)) (is_state : S → ℕ → Type 0) (goal : ℕ) →
    AreLabelsAt is_state goal step old → AreGrownAt is_state goal step gs → Gathers problem limit step place gs old new → AreLabelsAt is_state goal step new
labels_gathered problem limit step place gs old new is_state goal h grown f k o = elim (f.only k o) [
  | inl i ↦ h k i
  | inr j ↦ grown (record { label = k.label; act = k.act; mark = k.mark }) j.grown
]

pub labels_permuted : {S : Type 0} (is_state : S → ℕ → Type 0) (goal step : ℕ) (old new : List (Kept S)) → IsPermutation old new → AreLabelsAt is_state goal step old → AreLabelsAt is_state goal step new
labels_permuted is_state goal step old new same h k o = h k (one_of_permuted old new same k o)

depart_small : (step d : ℕ) (o : Option ℕ) → step < STEP_LIMIT → ((c : ℕ) × (o ≡ Some c) × (c < step)) → o ≡ Some d → d < STEP_LIMIT
depart_small step d o lt h e = let f : Some h.0 ≡ Some d = sym h.1 ∙ e in let g : h.0 ≡ d = cc in let l = h.2 in omega arith

pub labels_small : {S : Type 0} (is_state : S → ℕ → Type 0) (goal step : ℕ) (list : List (Kept S)) → goal < STEP_LIMIT → step < STEP_LIMIT → AreLabelsAt is_state goal step list → AreSmall list
labels_small is_state goal step list few lt h k o =
    let l = h k o in
    let p = l.progress in (
      omega arith,
      λ d e. elim (cases_lt 0 k.label.progress) [
        | inl some ↦ depart_small step d k.label.depart lt (l.departed some) e
        | inr none ↦ absurd (let f : None ≡ Some d = sym (l.still (omega arith)) ∙ e in cc)
      ],
    )

-- ---- the labels of the roots

-- the labels of the first n roots
pub record IsRooting {S : Type 0} (roots : List (Root S)) (n : ℕ) (list : List (Kept S)) : Type 0 where
  pub first : (k : Kept S) → IsOneOf list k → IsFirst roots k
  pub below : (k : Kept S) → IsOneOf list k → k.parent < n
  pub rising : IsStrictlyIncreasing (parents_of list)
  pub all : (i : ℕ) → i < n → IsOneOf (parents_of list) i

pub rooting_first : {S : Type 0} (roots : List (Root S)) → IsRooting roots 0 []
rooting_first roots = record { first = λ k o. absurd o; below = λ k o. absurd o; rising = λ k lt. absurd (omega arith); all = λ i lt. absurd (omega arith) }

pub rooting_more : {S : Type 0} (roots : List (Root S)) (list : List (Kept S)) (i : ℕ) (x : Root S) (s : S) (k : Kept S) → i < length roots → x ≡ get_or roots i x → s ≡ x.state →
    k ≡ record { label = root_label s; parent = i; act = Off; mark = None } → IsRooting roots i list → IsRooting roots (i + 1) (list ++ k ∷ [])
rooting_more {S} roots list i x s k lt e same is h =
    let place : k.parent ≡ i = ap (λ j. j.parent) is in
    record {
      first = λ m o. elim (one_of-append list (k ∷ []) m o) [
        | inl a ↦ h.first m a
        | inr q ↦ elim q [
          | inl f ↦ subst (λ j. IsFirst roots j) f (record {
            root = x;
            there = ap (slice_get roots) place ∙ slice_get_read roots (length roots) i x refl lt e;
            label = ap (λ j. j.label) is ∙ ap root_label same;
            act = ap (λ j. j.act) is;
            mark = ap (λ j. j.mark) is;
          })
          | inr z ↦ absurd z
        ]
      ];
      below = λ m o. elim (one_of-append list (k ∷ []) m o) [
        | inl a ↦ (let b = h.below m a in omega arith)
        | inr q ↦ elim q [ inl f ↦ subst (λ j. j.parent < i + 1) f (omega arith) | inr z ↦ absurd z ]
      ];
      rising = parents_push list k h.rising (λ m o. (let b = h.below m o in omega arith));
      all = λ n less. elim (cases_lt n i) [
        | inl a ↦ (let q = parent_kept list n (h.all n a) in subst (IsOneOf (parents_of (list ++ k ∷ []))) q.2 (one_of_parents (list ++ k ∷ []) q.0 (one_of-append_left list (k ∷ []) q.0 q.1)))
        | inr b ↦ (let same : k.parent ≡ n = omega arith in subst (IsOneOf (parents_of (list ++ k ∷ []))) same (one_of_parents (list ++ k ∷ []) k (one_of-append_right list (k ∷ []) k (inl refl))))
      ];
    }

pub rooted_whole : {S : Type 0} (roots : List (Root S)) (list : List (Kept S)) (i : ℕ) → length roots ≤ i → IsRooting roots i list → AreFirst roots list
rooted_whole roots list i le h = record { first = h.first; rising = h.rising; all = λ n lt. h.all n (omega arith) }

later_none : (a b : Option ℕ) → a ≡ None → later a b ≡ true
later_none None b e = refl
later_none (Some x) b e = absurd (let z : Some x ≡ None = e in cc)

-- labels of roots are in order
pub first_ordered : {S : Type 0} (roots : List (Root S)) (list : List (Kept S)) → ((k : Kept S) → IsOneOf list k → IsFirst roots k) → AreOrdered list
first_ordered roots [] h = tt
first_ordered roots (k ∷ ks) h = (
  λ m o. record {
    departs = later_none k.label.depart m.label.depart (ap (λ l. l.depart) (h k (inl refl)).label);
    progress = λ e. (let z : m.label.progress ≡ 0 = ap (λ l. l.progress) (h m (inr o)).label in omega arith);
  },
  first_ordered roots ks (λ m o. h m (inr o)),
)

-- and labels of the start
pub first_label : {S : Type 0} (is_state : S → ℕ → Type 0) (goal : ℕ) (s : S) → is_state s 0 → IsLabelAt is_state goal 0 (root_label s)
first_label is_state goal s h = record { state = h; progress = omega arith; still = λ e. refl; departed = λ some. absurd (omega arith) }

pub labels_push : {S : Type 0} (is_state : S → ℕ → Type 0) (goal step : ℕ) (list : List (Kept S)) (k : Kept S) → AreLabelsAt is_state goal step list → IsLabelAt is_state goal step k.label → AreLabelsAt is_state goal step (list ++ k ∷ [])
labels_push is_state goal step list k h here m o = elim (one_of-append list (k ∷ []) m o) [
  | inl a ↦ h m a
  | inr q ↦ elim q [ inl f ↦ subst (λ j. IsLabelAt is_state goal step j.label) f here | inr z ↦ absurd z ]
]
