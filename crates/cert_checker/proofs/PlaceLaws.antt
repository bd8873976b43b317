-- Labels and their places, by progress.
use Rattle.std.proofs.Common.{◌≡◌, ℕ, ◌+◌, ◌-◌, ◌*◌, ◌/◌, ◌%◌, ◌<◌, ◌≤◌, min, Bool, true, false, List, [], ◌∷◌, ◌++◌, length, take, get_or, refl, sym, ◌∙◌, ap, subst, arith, inl, inr, Decides}
use Rattle.std.specs.Prelude.{zero, suc, Option, None, Some, slice_set}
use Rattle.std.specs.Global.{Vec}
use Rattle.std.specs.Option.{option_to_list}
use Rattle.std.proofs.Math.Nat.{mod-lt, div-add-mod, add-mul-mod_self_left}
use Rattle.std.proofs.lemmas.Bool.{cases_lt, cases_eq}
use Rattle.std.proofs.lemmas.List.{take_more, take_all, length-map, length-set, map-set, get_or-map, get_or_past, get_or-set_same, get_or-set_other, get_or_default, get_or-take, length-take-le, flat_map_more}
use Rattle.rule_core.specs.Reach.{IsOneOf}
use Rattle.rule_core.specs.Laws.OneOf.{one_of-append, one_of-append_left, one_of-append_right, one_of-flat_map, one_of_flat_map, one_of-get_or}
use Rattle.tour_model.specs.declared.label.Label.{Label}
use Rattle.cert_text.specs.CoverLists.Problem.{Problem, is_better}
use Rattle.cert_text.specs.CoverLists.Cover.{IsCovered, NoneCovers}
use Rattle.cert_text.specs.CoverLists.Laws.BetterLaws.{better_means}
use Rattle.cert_checker.specs.Parsed.{there, AreStatesIn}
use Rattle.cert_checker.specs.Places.{plain, label_at, labels_at, with_place, ArePlaced, ArePlacedUpTo, HasPlaces, HaveDoneLess, IsProgressEnd}
use Rattle.cert_checker.proofs.ParsedLaws.{in_option, option_in, none_covered}

-- ---- the lists of places

plain_at : (vs : List (Vec ℕ)) (i : ℕ) (d : Vec ℕ) → i < length vs → get_or (plain vs) i [] ≡ (get_or vs i d).items
plain_at vs i d lt = get_or-map (λ v. v.items) vs i d [] lt

-- the vector at the place that a progress names, with one place more
pub placed_in : (vs : List (Vec ℕ)) (p n : ℕ) (d w : Vec ℕ) (place : ℕ) → n ≡ length vs → 0 < length vs → d ≡ get_or vs (p % n) d → w.items ≡ d.items ++ place ∷ [] → plain (slice_set vs (p % n) w) ≡ with_place (plain vs) p place
placed_in vs p n d w place e some read is =
    let lists = plain vs in
    let l : length lists ≡ length vs = length-map vs (λ v. v.items) in
    let at : p % n ≡ p % length lists = ap (λ m. p % m) (e ∙ sym l) in
    let lt : p % n < length vs = subst (λ m. p % m < length vs) (sym e) (mod-lt p some) in
    let here : w.items ≡ get_or lists (p % length lists) [] ++ place ∷ [] = is ∙ ap (λ ys. ys ++ place ∷ []) (ap (λ v. v.items) read ∙ (sym (plain_at vs (p % n) d lt) ∙ ap (λ i. get_or lists i []) at)) in
    map-set (λ v. v.items) vs (p % n) w ∙ (ap (λ i. slice_set lists i w.items) at ∙ ap (slice_set lists (p % length lists)) here)

-- ---- each label in its list

-- What is known of the lists when the labels up to a place are put into them.
pub record ArePlacedTo {S : Type 0} (os : List (Option (Label S))) (n : ℕ) (lists : List (List ℕ)) : Type 0 where
  pub same : length lists ≡ length os
  pub placed : ArePlacedUpTo os n lists

pub placed_first : {S : Type 0} (os : List (Option (Label S))) (lists : List (List ℕ)) → length lists ≡ length os → ArePlacedTo os 0 lists
placed_first os lists e = record { same = e; placed = λ i l lt. absurd (omega arith) }

-- no label at this place
pub placed_none : {S : Type 0} (os : List (Option (Label S))) (n : ℕ) (o : Option (Label S)) (lists : List (List ℕ)) → n < length os → o ≡ get_or os n o → o ≡ None → ArePlacedTo os n lists → ArePlacedTo os (n + 1) lists
placed_none os n o lists lt e none h = record {
  same = h.same;
  placed = λ i l less at. elim (cases_lt i n) [
    | inl before ↦ h.placed i l before at
    | inr thereafter ↦ (
        let here : n ≡ i = omega arith in
        let absent : get_or os n None ≡ None = sym (get_or_default os n o None lt) ∙ (sym e ∙ none) in
        let f : None ≡ Some l = sym absent ∙ subst (λ k. get_or os k None ≡ Some l) (sym here) at in
        absurd cc
        )
  ];
}

-- one place more in a list
in_list : (lists : List (List ℕ)) (p place k i : ℕ) → p % length lists < length lists → IsOneOf (get_or lists k []) i → IsOneOf (get_or (with_place lists p place) k []) i
in_list lists p place k i lt o =
    let b = p % length lists in
    elim (cases_eq b k) [
      | inl e ↦ subst (λ j. IsOneOf (get_or (with_place lists p place) j []) i) e
          (subst (λ ys. IsOneOf ys i) (sym (get_or-set_same lists b (get_or lists b [] ++ place ∷ []) [] lt)) (one_of-append_left (get_or lists b []) (place ∷ []) i (subst (λ j. IsOneOf (get_or lists j []) i) (sym e) o)))
      | inr d ↦ subst (λ ys. IsOneOf ys i) (sym (get_or-set_other lists b k (get_or lists b [] ++ place ∷ []) [] (λ f. d (sym f)))) o
    ]

at_list : (lists : List (List ℕ)) (p place : ℕ) → p % length lists < length lists → IsOneOf (get_or (with_place lists p place) (p % length lists) []) place
at_list lists p place lt =
    let b = p % length lists in
    subst (λ ys. IsOneOf ys place) (sym (get_or-set_same lists b (get_or lists b [] ++ place ∷ []) [] lt)) (one_of-append_right (get_or lists b []) (place ∷ []) place (inl refl))

same_length : (lists : List (List ℕ)) (p place : ℕ) → length (with_place lists p place) ≡ length lists
same_length lists p place = length-set lists (p % length lists) (get_or lists (p % length lists) [] ++ place ∷ [])

-- the label at this place
pub placed_some : {S : Type 0} (os : List (Option (Label S))) (n : ℕ) (o : Option (Label S)) (m : Label S) (lists more : List (List ℕ)) → n < length os → o ≡ get_or os n o → o ≡ Some m → more ≡ with_place lists m.progress n → ArePlacedTo os n lists → ArePlacedTo os (n + 1) more
placed_some {S} os n o m lists more lt e some is h = subst (ArePlacedTo os (n + 1)) (sym is) (
    let same = h.same in
    let inside : 0 < length lists = omega arith in
    let whole : length (with_place lists m.progress n) ≡ length lists = same_length lists m.progress n in
    record {
      same = whole ∙ h.same;
      placed = λ i l less at. subst (λ k. IsOneOf (get_or (with_place lists m.progress n) (l.progress % k) []) i) (sym whole) (elim (cases_lt i n) [
        | inl before ↦ in_list lists m.progress n (l.progress % length lists) i (mod-lt m.progress inside) (h.placed i l before at)
        | inr thereafter ↦ (
            let here : n ≡ i = omega arith in
            let is_m : get_or os n None ≡ Some m = sym (get_or_default os n o None lt) ∙ (sym e ∙ some) in
            let f : Some m ≡ Some l = sym is_m ∙ subst (λ k. get_or os k None ≡ Some l) (sym here) at in
            let g : m ≡ l = cc in
            subst (λ k. IsOneOf (get_or (with_place lists m.progress n) (l.progress % length lists) []) k) here
            (subst (λ q. IsOneOf (get_or (with_place lists m.progress n) (q.progress % length lists) []) n) g (at_list lists m.progress n (mod-lt m.progress inside)))
            )
      ]);
    })

pub placed_all : {S : Type 0} (os : List (Option (Label S))) (n : ℕ) (lists : List (List ℕ)) → length os ≤ n → ArePlacedTo os n lists → ArePlaced os lists
placed_all os n lists le h = record { same = h.same; placed = λ i l lt at. h.placed i l (omega arith) at }

-- the list of a progress has the places of its labels
pub has_places : {S : Type 0} (os : List (Option (Label S))) (vs : List (Vec ℕ)) (p n : ℕ) (d : Vec ℕ) → ArePlaced os (plain vs) → 0 < length os → n ≡ length vs → d ≡ get_or vs (p % n) d → HasPlaces os p d.items
has_places os vs p n d h some e read i l lt at same_class =
    let lists = plain vs in
    let same : l.progress % length lists ≡ p % length lists = subst (λ k. l.progress % k ≡ p % k) (sym h.same) same_class in
    let k : length lists ≡ length vs = length-map vs (λ v. v.items) in
    let all = h.same in
    let inside : 0 < length vs = omega arith in
    let in_lists : p % n < length vs = subst (λ m. p % m < length vs) (sym e) (mod-lt p inside) in
    let at_n : p % length lists ≡ p % n = ap (λ m. p % m) (k ∙ sym e) in
    let list : get_or lists (p % length lists) [] ≡ d.items = ap (λ j. get_or lists j []) at_n ∙ (plain_at vs (p % n) d in_lists ∙ ap (λ v. v.items) (sym read)) in
    subst (λ ys. IsOneOf ys i) list (subst (λ j. IsOneOf (get_or lists j []) i) same (h.placed i l lt at))

-- ---- looking among places

-- the label that is there, by its place
pub there_at : {X : Type 0} (os : List (Option X)) (x : X) → IsOneOf (there os) x → (i : ℕ) × (i < length os) × (get_or os i None ≡ Some x)
there_at [] x h = absurd h
there_at (o ∷ os) x h = elim (one_of-append (option_to_list o) (there os) x h) [
  | inl a ↦ (zero, (omega arith), in_option o x a)
  | inr b ↦ (let q = there_at os x b in let lt = q.1 in (suc q.0, (omega arith), q.2))
]

-- a label at a place is there
pub at_there : {X : Type 0} (os : List (Option X)) (i : ℕ) (x : X) → IsOneOf (label_at os i) x → IsOneOf (there os) x
at_there os i x h = elim (cases_lt i (length os)) [
  | inl lt ↦ one_of_flat_map option_to_list os (get_or os i None) x (one_of-get_or os i None lt) h
  | inr le ↦ absurd (let e : get_or os i None ≡ Some x = in_option (get_or os i None) x h in let f : None ≡ Some x = sym (get_or_past os i None le) ∙ e in cc)
]

pub state_at_place : {S : Type 0} (is_state : S → Type 0) (os : List (Option (Label S))) (i : ℕ) (o : Option (Label S)) (l : Label S) → AreStatesIn is_state os → o ≡ get_or os i o → i < length os → o ≡ Some l → is_state l.state
state_at_place is_state os i o l h e lt is = h l (at_there os i l (option_in (get_or os i None) l (sym (get_or_default os i o None lt) ∙ (sym e ∙ is))))

-- whether the one label at a place is better
pub past_end : {S : Type 0} (problem : Problem S) (step : ℕ) (os : List (Option (Label S))) (i : ℕ) (l : Label S) → length os ≤ i → IsCovered problem step (label_at os i) l → ⊥
past_end problem step os i l le c = let e : get_or os i None ≡ Some c.0 = in_option (get_or os i None) c.0 c.1 in let f : None ≡ Some c.0 = sym (get_or_past os i None le) ∙ e in absurd cc

pub absent_at : {S : Type 0} (problem : Problem S) (step : ℕ) (os : List (Option (Label S))) (i : ℕ) (o : Option (Label S)) (l : Label S) → i < length os → o ≡ get_or os i o → o ≡ None → IsCovered problem step (label_at os i) l → ⊥
absent_at problem step os i o l lt e none c =
    let is : get_or os i None ≡ Some c.0 = in_option (get_or os i None) c.0 c.1 in
    let f : None ≡ Some c.0 = sym none ∙ (e ∙ (get_or_default os i o None lt ∙ is)) in
    absurd cc

pub present_at : {S : Type 0} (problem : Problem S) (step : ℕ) (os : List (Option (Label S))) (i : ℕ) (o : Option (Label S)) (m l : Label S) (b : Bool) → i < length os → o ≡ get_or os i o → o ≡ Some m → b ≡ is_better problem step m l → Decides b (IsCovered problem step (label_at os i) l)
present_at problem step os i o m l b lt e some is =
    let at : get_or os i None ≡ Some m = sym (get_or_default os i o None lt) ∙ (sym e ∙ some) in (
      (λ t. (m, option_in (get_or os i None) m at, sym is ∙ t)),
      (λ c. (let f : Some m ≡ Some c.0 = sym at ∙ in_option (get_or os i None) c.0 c.1 in let g : m ≡ c.0 = cc in is ∙ (ap (λ x. is_better problem step x l) g ∙ c.2))),
    )

unmet : (b : Bool) → (b ≡ true → ⊥) → b ≡ false
unmet true h = absurd (h refl)
unmet false h = refl

-- one place more
pub places_more : {S : Type 0} (problem : Problem S) (step : ℕ) (os : List (Option (Label S))) (places : List ℕ) (n i : ℕ) (l : Label S) → n < length places → i ≡ get_or places n i → NoneCovers problem step (labels_at os (take n places)) l → (IsCovered problem step (label_at os i) l → ⊥) →
    NoneCovers problem step (labels_at os (take (n + 1) places)) l
places_more problem step os places n i l lt e h b m o =
    let more : take (n + 1) places ≡ take n places ++ i ∷ [] = take_more places n i lt ∙ ap (λ z. take n places ++ z ∷ []) (sym e) in
    let split : labels_at os (take (n + 1) places) ≡ labels_at os (take n places) ++ label_at os i = ap (labels_at os) more ∙ sym (flat_map_more (label_at os) [] (take n places) i) in
    elim (one_of-append (labels_at os (take n places)) (label_at os i) m (subst (λ ys. IsOneOf ys m) split o)) [ inl x ↦ h m x | inr y ↦ unmet (is_better problem step m l) (λ t. b (m, y, t)) ]

pub place_covers : {S : Type 0} (problem : Problem S) (step : ℕ) (os : List (Option (Label S))) (places : List ℕ) (i : ℕ) (l : Label S) → IsOneOf places i → IsCovered problem step (label_at os i) l → IsCovered problem step (labels_at os places) l
place_covers problem step os places i l o c = (c.0, one_of_flat_map (label_at os) places i c.0 o c.1, c.2)

pub no_places : {S : Type 0} (problem : Problem S) (step : ℕ) (os : List (Option (Label S))) (places : List ℕ) (n : ℕ) (l : Label S) → length places ≤ n → NoneCovers problem step (labels_at os (take n places)) l → IsCovered problem step (labels_at os places) l → ⊥
no_places problem step os places n l le h c = none_covered problem step (labels_at os places) l (subst (λ ps. NoneCovers problem step (labels_at os ps) l) (take_all n places le) h) c

-- ---- the end of the progresses

-- no label at this place
pub less_none : {S : Type 0} (os : List (Option (Label S))) (n : ℕ) (o : Option (Label S)) (end : ℕ) → n < length os → o ≡ get_or os n o → o ≡ None → HaveDoneLess os n end → HaveDoneLess os (n + 1) end
less_none os n o end lt e none h i l less at = elim (cases_lt i n) [
  | inl before ↦ h i l before at
  | inr thereafter ↦ (
      let here : n ≡ i = omega arith in
      let absent : get_or os n None ≡ None = sym (get_or_default os n o None lt) ∙ (sym e ∙ none) in
      let f : None ≡ Some l = sym absent ∙ subst (λ k. get_or os k None ≡ Some l) (sym here) at in
      absurd cc
      )
]

-- the label at this place
pub less_some : {S : Type 0} (os : List (Option (Label S))) (n : ℕ) (o : Option (Label S)) (m : Label S) (end more : ℕ) → n < length os → o ≡ get_or os n o → o ≡ Some m → end ≤ more → m.progress < more → HaveDoneLess os n end → HaveDoneLess os (n + 1) more
less_some os n o m end more lt e some grows within h i l less at = elim (cases_lt i n) [
  | inl before ↦ (let u = h i l before at in omega arith)
  | inr thereafter ↦ (
      let here : n ≡ i = omega arith in
      let is_m : get_or os n None ≡ Some m = sym (get_or_default os n o None lt) ∙ (sym e ∙ some) in
      let f : Some m ≡ Some l = sym is_m ∙ subst (λ k. get_or os k None ≡ Some l) (sym here) at in
      let g : m ≡ l = cc in
      subst (λ q. q.progress < more) g within
      )
]

-- ---- one list after the other

-- a better label has done as much, or more
done_as_much : {S : Type 0} (problem : Problem S) (step : ℕ) (a b : Label S) → is_better problem step a b ≡ true → b.progress ≤ a.progress
done_as_much problem step a b e = elim (better_means problem step a b e).progress [ inl same ↦ omega arith | inr w ↦ (let more = w.more in omega arith) ]

-- No label of the first so many is better, of those whose progress names the list of one from p on and below n.
abbrev pub NonePlaced : {S : Type 0} → Problem S → ℕ → List (Option (Label S)) → ℕ → Label S → ℕ → ℕ → Type 0
NonePlaced {S} problem step os count l p n =
    (q : ℕ) → p ≤ q → q < n → (i : ℕ) (m : Label S) → i < length os → get_or os i None ≡ Some m → m.progress % length os ≡ q % length os → IsCovered problem step (label_at (take count os) i) l → ⊥

pub none_placed_first : {S : Type 0} (problem : Problem S) (step : ℕ) (os : List (Option (Label S))) (count : ℕ) (l : Label S) (p : ℕ) → NonePlaced problem step os count l p p
none_placed_first problem step os count l p q le lt = absurd (omega arith)

pub none_placed_more : {S : Type 0} (problem : Problem S) (step : ℕ) (os : List (Option (Label S))) (count : ℕ) (l : Label S) (p n : ℕ) (places : List ℕ) → HasPlaces os n places → (IsCovered problem step (labels_at (take count os) places) l → ⊥) →
    NonePlaced problem step os count l p n → NonePlaced problem step os count l p (n + 1)
none_placed_more problem step os count l p n places has none h q le lt i m within at same c = elim (cases_lt q n) [
  | inl less ↦ h q le less i m within at same c
  | inr more ↦ (
      let here : q ≡ n = omega arith in
      none (place_covers problem step (take count os) places i l (has i m within at (same ∙ ap (λ k. k % length os) here)) c)
      )
]

pub covered_there : {S : Type 0} (problem : Problem S) (step : ℕ) (os : List (Option (Label S))) (places : List ℕ) (l : Label S) → IsCovered problem step (labels_at os places) l → IsCovered problem step (there os) l
covered_there problem step os places l c = let q = one_of-flat_map (label_at os) places c.0 c.1 in (c.0, at_there os q.0 c.0 q.2, c.2)

-- from a number on, the list of one that is greater is that of one of the next few
same_list : (a n k : ℕ) → (a + k % n) % n ≡ (a + k) % n
same_list a n k =
    let whole : a + k ≡ a + k % n + n * (k / n) = (let e = div-add-mod k n in omega arith) in
    sym (ap (λ x. x % n) whole ∙ add-mul-mod_self_left (a + k % n) n (k / n))

-- where the lists up to the end of the progresses, or all of them, are looked through, no label is better
pub none_there : {S : Type 0} (problem : Problem S) (step : ℕ) (os : List (Option (Label S))) (count : ℕ) (l : Label S) (end stop : ℕ) → count ≤ length os → IsProgressEnd os end → min end (l.progress + length os) ≤ stop →
    NonePlaced problem step os count l l.progress stop → IsCovered problem step (there (take count os)) l → ⊥
none_there problem step os count l end stop le below far h c =
    let q = there_at (take count os) c.0 c.1 in
    let few : length (take count os) ≡ count = length-take-le count os le in
    let lt = q.1 in
    let inside : q.0 < length os = omega arith in
    let here : get_or os q.0 None ≡ Some c.0 = sym (get_or-take count os q.0 None (omega arith)) ∙ q.2 in
    let within = below q.0 c.0 inside here in
    let up = done_as_much problem step c.0 l c.2 in
    let cover : IsCovered problem step (label_at (take count os) q.0) l = (c.0, option_in (get_or (take count os) q.0 None) c.0 q.2, c.2) in
    elim (cases_lt c.0.progress (l.progress + length os)) [
      | inl near ↦ h c.0.progress up (omega arith) q.0 c.0 inside here refl cover
      | inr past ↦ (
          let n = length os in
          let k = c.0.progress - l.progress in
          let some : k % n < n = mod-lt k (omega arith) in
          let whole : l.progress + k ≡ c.0.progress = omega arith in
          let same : c.0.progress % n ≡ (l.progress + k % n) % n = sym (same_list l.progress n k ∙ ap (λ x. x % n) whole) in
          h (l.progress + k % n) (omega arith) (omega arith) q.0 c.0 inside here same cover
          )
    ]

pub covered_none : {S : Type 0} (problem : Problem S) (step : ℕ) (os : List (Option (Label S))) (n : ℕ) (l : Label S) → n ≡ 0 → IsCovered problem step (there (take n os)) l → ⊥
covered_none problem step os n l e c = subst (λ k. IsOneOf (there (take k os)) c.0) e c.1
