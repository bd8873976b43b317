-- What a search knows at each step, and what follows at its end.
use Rattle.std.proofs.Common.{◌≡◌, ℕ, ◌+◌, ◌-◌, ◌<◌, ◌≤◌, List, [], ◌∷◌, ◌++◌, length, refl, sym, ◌∙◌, ap, subst, arith, inl, inr, ◌⊎◌, zero, suc, length-append, Bool, true, false}
use Rattle.std.specs.Prelude.{Option, None, Some, slice_get, ◌==◌}
use Rattle.std.proofs.lemmas.Bool.Decides.{nat_tests}
use Rattle.std.proofs.lemmas.Bool.{cases_lt}
use Rattle.std.proofs.lemmas.List.{nil_from_length}
use Rattle.rule_core.specs.declared.roots.Root.{Root}
use Rattle.rule_core.specs.Reach.{IsOneOf}
use Rattle.tour_model.specs.Layer.{layer_at}
use Rattle.cert_text.specs.declared.cover_lists.grown.Grown.{Grown}
use Rattle.cert_text.specs.CoverLists.Problem.{Problem, root_label, successors_of}
use Rattle.cert_text.specs.CoverLists.Cover.{IsCovered, NoneIsBetter, IsAtLeast, taken, IsPruned, IsLabelAt, IsCoverList}
use Rattle.cert_text.specs.CoverLists.Laws.CoverLaws.{at_least_more, pruned_more}
use Rattle.label_state.specs.declared.kept.Kept.{Kept}
use Rattle.label_state.specs.declared.kept.Place.{Place}
use Rattle.label_state.specs.Layers.{labels_of, label_layers, label_count}
use Rattle.label_state.specs.Laws.LayerLaws.{layer_old, layer_new, layer_past, count_pushed, layer_labels, label_kept}
use Rattle.label_search.specs.declared.best.Best.{Best}
use Rattle.label_search.specs.Sound.{IsFirstLayer, GrewFrom, AreOrdered, IsSound}
use Rattle.label_search.proofs.FillLaws.{filled_some}
use Rattle.label_search.proofs.TurnLaws.{label_of_root, first_layer}
use Rattle.label_search.specs.Searching.{IsRootState, AreLabelsAt, AreGathered, AreFirst, IsFilled, AddsLayer, IsBestOf}
use Rattle.label_search.specs.Laws.Searching.{IsFinishedAt}

-- ---- layers, one after the others

-- what holds of each layer, the new one among them
each_layer : {X : Type 0} (layers : List (List X)) (next : List X) (P : ℕ → List X → Type 0) → ((s : ℕ) → s < length layers → P s (layer_at layers s)) → P (length layers) next → ((s : ℕ) → P s []) →
    (s : ℕ) → P s (layer_at (layers ++ next ∷ []) s)
each_layer layers next P old new past s = elim (cases_lt s (length layers)) [
  | inl a ↦ subst (P s) (sym (layer_old layers next s a)) (old s a)
  | inr a ↦ elim (cases_lt (length layers) s) [
    | inl b ↦ subst (P s) (sym (layer_past (layers ++ next ∷ []) s (let e = length-append layers (next ∷ []) in omega arith))) (past s)
    | inr b ↦ (let e : length layers ≡ s = omega arith in subst (P s) (sym (layer_new layers next s e)) (subst (λ n. P n next) e new))
  ]
]

-- what holds of two layers, one after the other
new_pair : {X : Type 0} (layers : List (List X)) (next : List X) (P : List X → List X → Type 0) (s : ℕ) → length layers ≡ s + 1 → P (layer_at layers s) next →
    P (layer_at (layers ++ next ∷ []) s) (layer_at (layers ++ next ∷ []) (s + 1))
new_pair layers next P s e h =
    subst (λ ys. P ys (layer_at (layers ++ next ∷ []) (s + 1))) (sym (layer_old layers next s (omega arith)))
    (subst (P (layer_at layers s)) (sym (layer_new layers next (s + 1) e)) h)

old_pair : {X : Type 0} (layers : List (List X)) (next : List X) (P : List X → List X → Type 0) (s : ℕ) → s + 1 < length layers → P (layer_at layers s) (layer_at layers (s + 1)) →
    P (layer_at (layers ++ next ∷ []) s) (layer_at (layers ++ next ∷ []) (s + 1))
old_pair layers next P s lt h =
    subst (λ ys. P ys (layer_at (layers ++ next ∷ []) (s + 1))) (sym (layer_old layers next s (omega arith)))
    (subst (P (layer_at layers s)) (sym (layer_old layers next (s + 1) lt)) h)

there_more : {X : Type 0} (layers : List (List X)) (next : List X) (s i : ℕ) (x : X) → slice_get (layer_at layers s) i ≡ Some x → slice_get (layer_at (layers ++ next ∷ []) s) i ≡ Some x
there_more layers next s i x e = elim (cases_lt s (length layers)) [
  | inl a ↦ ap (λ ys. slice_get ys i) (layer_old layers next s a) ∙ e
  | inr a ↦ absurd (let f : None ≡ Some x = sym (ap (λ ys. slice_get ys i) (layer_past layers s a)) ∙ e in cc)
]

-- what a test for an empty list says
pub some_by : {X : Type 0} (ys : List X) (n : ℕ) (b : Bool) → n ≡ length ys → b ≡ (n == 0) → b ≡ false → 0 < length ys
some_by ys n b e t f = let g : (n == 0) ≡ false = sym t ∙ f in let h : 0 < n = grind (arith, nat_tests) in omega arith

pub none_by : {X : Type 0} (ys : List X) (n : ℕ) (b : Bool) → n ≡ length ys → b ≡ (n == 0) → b ≡ true → ys ≡ []
none_by ys n b e t f = let g : (n == 0) ≡ true = sym t ∙ f in let h : n ≡ 0 = grind (arith, nat_tests) in nil_from_length ys (sym e ∙ h)

-- ---- limits that fall

-- Each successor of a layer's labels is pruned, or has a better label in the next.
abbrev pub AreAnswered : {S : Type 0} → Problem S → Option ℕ → ℕ → List (Kept S) → List (Kept S) → Type 0
AreAnswered {S} problem limit step layer next =
    (k : Kept S) → IsOneOf layer k → (g : Grown S) → IsOneOf (successors_of problem step k.label) g → IsPruned problem limit (step + 1) g.label ⊎ IsCovered problem (step + 1) (labels_of next) g.label

answered_less : {S : Type 0} (problem : Problem S) (a b : Option ℕ) (step : ℕ) (layer next : List (Kept S)) → ((n : ℕ) → IsAtLeast a n → IsAtLeast b n) → AreAnswered problem a step layer next → AreAnswered problem b step layer next
answered_less problem a b step layer next less h k o g q = elim (h k o g q) [ inl t ↦ inl (pruned_more (IsAtLeast a) (IsAtLeast b) g.label.depart (problem.bound (step + 1) g.label) less t) | inr c ↦ inr c ]

-- ---- what a search knows

-- what a search knows of the layers up to this step; `first` is the limit that it began with
pub record IsSearching {S : Type 0} (problem : Problem S) (roots : List (Root S)) (is_state : S → ℕ → Type 0) (budget step : ℕ) (first : Option ℕ) (best : Best) (layers : List (List (Kept S))) : Type 0 where
  pub depth : length layers ≡ step + 1
  pub steps : step ≤ label_count layers
  pub within : label_count layers ≤ budget
  pub sound : IsSound problem roots layers
  pub rooted : IsFirstLayer problem roots budget (layer_at layers 0)
  pub labels : (s : ℕ) → AreLabelsAt is_state problem.goal s (layer_at layers s)
  pub started : (0 < step) ⊎ (label_count layers < budget) → (s : S) → IsRootState roots s → IsCovered problem 0 (labels_of (layer_at layers 0)) (root_label s)
  pub finished : (s : ℕ) (k : Kept S) → IsOneOf (layer_at layers s) k → k.label.progress ≡ problem.goal → IsAtLeast best.limit (taken s k.label)
  pub answered : (s : ℕ) → s < step → (s + 1 < step) ⊎ (label_count layers < budget) → AreAnswered problem best.limit s (layer_at layers s) (layer_at layers (s + 1))
  pub found : (place : Place) → best.place ≡ Some place → IsFinishedAt problem.goal layers place best.limit
  pub unfound : best.place ≡ None → best.limit ≡ first

-- a layer more keeps layers sound
sound_more : {S : Type 0} (problem : Problem S) (roots : List (Root S)) (layers : List (List (Kept S))) (next list : List (Kept S)) (step room : ℕ) (limit : Option ℕ) → length layers ≡ step + 1 → IsSound problem roots layers →
    AreGathered problem limit step (layer_at layers step) list → IsFilled problem (length layers) room list next →
    ((s : ℕ) (k : Kept S) → IsOneOf (layer_at layers s) k → k.label.progress ≡ problem.goal → IsAtLeast limit (taken s k.label)) → IsSound problem roots (layers ++ next ∷ [])
sound_more {S} problem roots layers next list step room limit e h g f finished = record {
  first = λ k o. h.first k (subst (λ ys. IsOneOf ys k) (layer_old layers next 0 (omega arith)) o);
  grew = λ s. elim (cases_lt (s + 1) (length layers)) [
    | inl a ↦ old_pair layers next (λ ys zs. (k : Kept S) → IsOneOf zs k → GrewFrom problem s ys k) s a (h.grew s)
    | inr a ↦ elim (cases_lt step s) [
      | inl b ↦ λ k o. absurd (subst (λ ys. IsOneOf ys k) (layer_past (layers ++ next ∷ []) (s + 1) (let d = length-append layers (next ∷ []) in omega arith)) o)
      | inr b ↦ (let q : step ≡ s = omega arith in
          new_pair layers next (λ ys zs. (k : Kept S) → IsOneOf zs k → GrewFrom problem s ys k) s (e ∙ ap (λ n. n + 1) q)
          (subst (λ n. (k : Kept S) → IsOneOf next k → GrewFrom problem n (layer_at layers n) k) q (λ k o. g.grew k (f.only k o))))
    ]
  ];
  better = each_layer layers next (λ s ys. NoneIsBetter problem s (labels_of ys)) (λ s lt. h.better s) f.better (λ s. tt);
  unpruned = λ s after x k lt ox done ok t.
      elim (cases_lt s (length layers)) [
        | inl a ↦ (let here = subst (λ ys. IsOneOf ys x) (layer_old layers next s a) ox in
            each_layer layers next (λ n ys. s < n → IsOneOf ys k → IsPruned problem (Some (taken s x.label)) n k.label → ⊥)
            (λ n l less o off. h.unpruned s n x k less here done o off)
            (λ less o off. subst (λ n. IsPruned problem limit n k.label → ⊥) (sym e) (g.unpruned k (f.only k o))
            (pruned_more (IsAtLeast (Some (taken s x.label))) (IsAtLeast limit) k.label.depart (problem.bound (length layers) k.label) (λ n long. at_least_more limit (taken s x.label) n long (finished s x here done)) off))
            (λ n less o off. absurd o) after lt ok t)
        | inr a ↦ (let less = lt in absurd (subst (λ ys. IsOneOf ys k) (layer_past (layers ++ next ∷ []) after (let d = length-append layers (next ∷ []) in omega arith)) ok))
      ];
  ordered = λ s. each_layer layers next (λ n ys. 0 < n → AreOrdered ys) (λ n l less. subst (λ m. AreOrdered (layer_at layers m)) (let q : (n - 1) + 1 ≡ n = omega arith in q) (h.ordered (n - 1))) (λ less. f.ordered) (λ n less. tt) (s + 1) (omega arith);
}

found_more : {S : Type 0} (goal : ℕ) (layers : List (List (Kept S))) (next : List (Kept S)) (place : Place) (limit : Option ℕ) → IsFinishedAt goal layers place limit → IsFinishedAt goal (layers ++ next ∷ []) place limit
found_more goal layers next place limit h = record { kept = h.kept; there = there_more layers next place.layer place.index h.kept h.there; finished = h.finished; takes = h.takes }

-- one more layer
pub searching_more : {S : Type 0} (problem : Problem S) (roots : List (Root S)) (is_state : S → ℕ → Type 0) (budget step : ℕ) (first : Option ℕ) (best found : Best) (layers new : List (List (Kept S))) (list : List (Kept S)) →
    IsSearching problem roots is_state budget step first best layers → label_count layers < budget → AreGathered problem best.limit step (layer_at layers step) list → AreLabelsAt is_state problem.goal (step + 1) list →
    0 < length list → AddsLayer problem budget list layers new → IsBestOf problem.goal (step + 1) (layer_at new (step + 1)) best found →
    IsSearching problem roots is_state budget (step + 1) first found new
searching_more {S} problem roots is_state budget step first best found layers new list h lt g labels some adds b =
    let next = adds.layer in
    let f = adds.filled in
    let depth = h.depth in let steps = h.steps in
    let bounded = f.bounded in
    let at : length layers ≡ step + 1 = h.depth in
    let count : label_count (layers ++ next ∷ []) ≡ label_count layers + length next = count_pushed layers next in
    let more = filled_some problem (length layers) (budget - label_count layers) list next f (omega arith) some in
    let best_new : IsBestOf problem.goal (step + 1) next best found = subst (λ ys. IsBestOf problem.goal (step + 1) ys best found) (ap (λ ls. layer_at ls (step + 1)) adds.thereafter ∙ layer_new layers next (step + 1) at) b in
    subst (IsSearching problem roots is_state budget (step + 1) first found) (sym adds.thereafter)
    (record {
      depth = (let e = length-append layers (next ∷ []) in omega arith);
      steps = omega arith;
      within = omega arith;
      sound = sound_more problem roots layers next list step (budget - label_count layers) best.limit at h.sound g f h.finished;
      rooted = subst (IsFirstLayer problem roots budget) (sym (layer_old layers next 0 (omega arith))) h.rooted;
      labels = each_layer layers next (λ s ys. AreLabelsAt is_state problem.goal s ys) (λ s l. h.labels s) (λ k o. subst (λ n. IsLabelAt is_state problem.goal n k.label) (sym at) (labels k (f.only k o))) (λ s k o. absurd o);
      started = λ w s r. subst (λ ys. IsCovered problem 0 (labels_of ys) (root_label s)) (sym (layer_old layers next 0 (omega arith))) (h.started (inr lt) s r);
      finished = each_layer layers next (λ s ys. (k : Kept S) → IsOneOf ys k → k.label.progress ≡ problem.goal → IsAtLeast found.limit (taken s k.label))
          (λ s l k o e. best_new.keeps (taken s k.label) (h.finished s k o e))
          (subst (λ m. (k : Kept S) → IsOneOf next k → k.label.progress ≡ problem.goal → IsAtLeast found.limit (taken m k.label)) (sym at) best_new.each)
          (λ s k o. absurd o);
      answered = λ s less w. elim (cases_lt s step) [
        | inl a ↦ old_pair layers next (AreAnswered problem found.limit s) s (omega arith)
            (answered_less problem best.limit found.limit s (layer_at layers s) (layer_at layers (s + 1)) best_new.keeps (h.answered s a (inr lt)))
        | inr a ↦ (let q : step ≡ s = omega arith in
            new_pair layers next (AreAnswered problem found.limit s) s (at ∙ ap (λ n. n + 1) q)
            (subst (λ n. AreAnswered problem found.limit n (layer_at layers n) next) q
            (answered_less problem best.limit found.limit step (layer_at layers step) next best_new.keeps (λ k o m p.
            elim (g.all k o m p) [
              | inl off ↦ inl off
              | inr l ↦ elim w [
                | inl before ↦ absurd (omega arith)
                | inr small ↦ (let c = label_kept list m.label l in
                    inr (subst (λ j. IsCovered problem (step + 1) (labels_of next) j) c.2 (subst (λ n. IsCovered problem n (labels_of next) c.0.label) at (f.covers (let z : label_count (layers ++ next ∷ []) < budget = small in omega arith) c.0 c.1))))
              ]
            ]))))
      ];
      found = λ place e. elim best_new.made [
        | inl same ↦ found_more problem.goal layers next place found.limit (subst (λ o. IsFinishedAt problem.goal layers place o.limit) (sym same) (h.found place (sym (ap (λ o. o.place) same) ∙ e)))
        | inr q ↦ (let p : q.0 ≡ place = (let z : Some q.0 ≡ Some place = sym q.2 ∙ e in cc) in
            subst (λ j. IsFinishedAt problem.goal (layers ++ next ∷ []) j found.limit) p (record {
              kept = q.1;
              there = ap (λ ys. slice_get ys q.0.index) (layer_new layers next q.0.layer (at ∙ sym q.3)) ∙ q.4;
              finished = q.5;
              takes = q.6 ∙ ap (λ n. Some (taken n q.1.label)) (sym q.3);
            }))
      ];
      unfound = λ e. elim best_new.made [
        | inl same ↦ ap (λ o. o.limit) same ∙ h.unfound (sym (ap (λ o. o.place) same) ∙ e)
        | inr q ↦ absurd (let z : Some q.0 ≡ None = sym q.2 ∙ e in cc)
      ];
    })

-- ---- the beginning

-- the first layer alone
only_layer : {X : Type 0} (first : List X) (P : ℕ → List X → Type 0) → P 0 first → ((s : ℕ) → P s []) → (s : ℕ) → P s (layer_at ([] ++ first ∷ []) s)
only_layer first P here past zero = here
only_layer first P here past (suc s) = past (suc s)

only_next : {X : Type 0} (first : List X) (s : ℕ) → layer_at ([] ++ first ∷ []) (s + 1) ≡ []
only_next first s = layer_past ([] ++ first ∷ []) (s + 1) (omega arith)

pub searching_first : {S : Type 0} (problem : Problem S) (roots : List (Root S)) (is_state : S → ℕ → Type 0) (budget : ℕ) (best : Best) (list : List (Kept S)) (layers : List (List (Kept S))) → 1 ≤ problem.goal → best.place ≡ None →
    AreFirst roots list → AreLabelsAt is_state problem.goal 0 list → AddsLayer problem budget list [] layers → IsSearching problem roots is_state budget 0 best.limit best layers
searching_first {S} problem roots is_state budget best list layers goal none a labels adds =
    let first = adds.layer in
    let f = adds.filled in
    let bounded = f.bounded in
    let count : label_count ([] ++ first ∷ []) ≡ 0 + length first = count_pushed [] first in
    subst (IsSearching problem roots is_state budget 0 best.limit best) (sym adds.thereafter)
    (record {
      depth = omega arith;
      steps = omega arith;
      within = omega arith;
      sound = record {
        first = λ k o. a.first k (f.only k o);
        grew = λ s k o. absurd (subst (λ ys. IsOneOf ys k) (only_next first s) o);
        better = only_layer first (λ s ys. NoneIsBetter problem s (labels_of ys)) f.better (λ s. tt);
        unpruned = λ s after x k lt ox done ok t. absurd (subst (λ ys. IsOneOf ys k) (layer_past ([] ++ first ∷ []) after (omega arith)) ok);
        ordered = λ s. subst AreOrdered (sym (only_next first s)) tt;
      };
      rooted = first_layer problem roots budget (budget - label_count {X = Kept S} []) list first (omega arith) a f;
      labels = only_layer first (λ s ys. AreLabelsAt is_state problem.goal s ys) (λ k o. labels k (f.only k o)) (λ s k o. absurd o);
      started = λ w s r. elim w [
        | inl z ↦ absurd (omega arith)
        | inr small ↦ (let q = label_of_root roots list a r.0 r.1 in
            subst (λ u. IsCovered problem 0 (labels_of first) (root_label u)) r.2 (subst (IsCovered problem 0 (labels_of first)) q.2 (f.covers (let z : label_count ([] ++ first ∷ []) < budget = small in omega arith) q.0 q.1)))
      ];
      finished = only_layer first (λ s ys. (k : Kept S) → IsOneOf ys k → k.label.progress ≡ problem.goal → IsAtLeast best.limit (taken s k.label))
          (λ k o e. absurd (let z : k.label.progress ≡ 0 = ap (λ l. l.progress) (a.first k (f.only k o)).label in omega arith)) (λ s k o. absurd o);
      answered = λ s l w. absurd (omega arith);
      found = λ p e. absurd (let z : Some p ≡ None = sym e ∙ none in cc);
      unfound = λ e. refl;
    })

-- ---- the end

-- where no label is left to grow, the layers are a cover list for the limit
pub searched_covers : {S : Type 0} (problem : Problem S) (roots : List (Root S)) (is_state : S → ℕ → Type 0) (budget step : ℕ) (first : Option ℕ) (best : Best) (layers : List (List (Kept S))) (list : List (Kept S)) →
    IsSearching problem roots is_state budget step first best layers → label_count layers < budget → AreGathered problem best.limit step (layer_at layers step) list → list ≡ [] →
    IsCoverList problem is_state (IsRootState roots) best.limit (label_layers layers)
searched_covers {S} problem roots is_state budget step first best layers list h lt g none = record {
  started = λ s r. subst (λ ls. IsCovered problem 0 ls (root_label s)) (sym (layer_labels layers 0)) (h.started (inr lt) s r);
  labels = λ s l o. (let q = label_kept (layer_at layers s) l (subst (λ ls. IsOneOf ls l) (layer_labels layers s) o) in subst (IsLabelAt is_state problem.goal s) q.2 (h.labels s q.0 q.1));
  finished = λ s l o e. (let q = label_kept (layer_at layers s) l (subst (λ ls. IsOneOf ls l) (layer_labels layers s) o) in
      subst (λ m. IsAtLeast best.limit (taken s m)) q.2 (h.finished s q.0 q.1 (ap (λ m. m.progress) q.2 ∙ e)));
  better = λ s. subst (NoneIsBetter problem s) (sym (layer_labels layers s)) (h.sound.better s);
  answered = λ s l o unfinished m p.
      let depth = h.depth in
      let q = label_kept (layer_at layers s) l (subst (λ ls. IsOneOf ls l) (layer_labels layers s) o) in
      let p2 = subst (λ j. IsOneOf (successors_of problem s j) m) (sym q.2) p in
      subst (λ ls. IsPruned problem best.limit (s + 1) m.label ⊎ IsCovered problem (s + 1) ls m.label) (sym (layer_labels layers (s + 1)))
      (elim (cases_lt s step) [
        | inl a ↦ h.answered s a (inr lt) q.0 q.1 m p2
        | inr a ↦ elim (cases_lt step s) [
          | inl b ↦ absurd (subst (λ ys. IsOneOf ys q.0) (layer_past layers s (omega arith)) q.1)
          | inr b ↦ (let e : step ≡ s = omega arith in
              elim (subst (λ n. (k : Kept S) → IsOneOf (layer_at layers n) k → (j : Grown S) → IsOneOf (successors_of problem n k.label) j → IsPruned problem best.limit (n + 1) j.label ⊎ IsOneOf (labels_of list) j.label) e g.all q.0 q.1 m p2) [
                | inl off ↦ inl off
                | inr l2 ↦ absurd (subst (λ ys. IsOneOf (labels_of ys) m.label) none l2)
              ])
        ]
      ]);
}
