-- Looking through a layer for a better label, at the places of one progress after the other.
use Rattle.std.proofs.Common.{◌≡◌, ◌==◌, ◌&&◌, ◌||◌, ℕ, ◌+◌, ◌<◌, ◌≤◌, Bool, true, false, List, [], ◌∷◌, length, take, get_or, refl, sym, ◌∙◌, ap, subst, arith, inl, inr}
use Rattle.std.specs.Prelude.{Option, None, Some, option_map, slice_get, nat_lt}
use Rattle.std.proofs.lemmas.Bool.{cases_lt, cases_Bool}
use Rattle.std.proofs.lemmas.Bool.Decides.{nat_tests}
use Rattle.std.proofs.lemmas.List.{take_all, take-take, take-map, length-take-le}
use Rattle.std.proofs.lemmas.Option.{get_or_from_slice_get, slice_get_read, slice_get_within, slice_get-get_or, slice_get-map}
use Rattle.rule_core.specs.Reach.{IsOneOf}
use Rattle.rule_core.specs.Laws.OneOf.{one_of_map, one_of_item, one_of-append}
use Rattle.tour_model.specs.declared.tour.Tour.{Tour}
use Rattle.tour_model.specs.declared.label.Label.{Label}
use Rattle.tour_model.specs.Word.{may_idle}
use Rattle.rule_core.specs.Machine.{Machine}
use Rattle.label_state.specs.declared.kept.Kept.{Kept}
use Rattle.label_state.specs.Layers.{labels_of, last_layer, with_kept}
use Rattle.label_state.specs.Laws.LayerLaws.{label_kept, place_of_one, place_taken, last_kept}
use Rattle.label_state.specs.Buckets.{places_of}
use Rattle.label_state.specs.Laws.Buckets.{ArePlaces}
use Rattle.label_state.specs.Laws.BucketLaws.{are_places}
use Rattle.cert_text.specs.CoverLists.Problem.{Problem, later, can_wait_for, is_better}
use Rattle.cert_text.specs.CoverLists.Planning.{problem_of}
use Rattle.cert_text.specs.CoverLists.Cover.{NoneCovers}
use Rattle.label_dominance.specs.Offers.{AreStatesAt, may_keep_up, MayKeepUp, AreRising, NoneAt, IsCoverAt, AreAheadBelow, IsPlaceSought, IsCoverSought}

-- ---- keeping up

-- what may not keep up is not better
shut : (l e w h c : Bool) → (e || w) ≡ false → ((l && (e || (w && h))) && c) ≡ false
shut l true w h c x = absurd (let z : true ≡ false = x in cc)
shut l false true h c x = absurd (let z : true ≡ false = x in cc)
shut true false false h c x = refl
shut false false false h c x = refl

pub not_up : {S : Type 0} (tour : Tour) (m : Machine S) (step : ℕ) (a b : Label S) → may_keep_up tour a.progress b.progress ≡ false → is_better (problem_of tour m) step a b ≡ false
not_up tour m step a b h = shut (later a.depart b.depart) (a.progress == b.progress) (nat_lt b.progress a.progress && may_idle tour a.progress) (m.ahead a.state) ((problem_of tour m).covers a.state b.state step) h

-- what may is better by the other tests
open_test : (e w h : Bool) → (e || w) ≡ true → (e || h) ≡ (e || (w && h))
open_test true w h x = refl
open_test false true h x = refl
open_test false false h x = absurd (let z : false ≡ true = x in cc)

pub up_so : {S : Type 0} (tour : Tour) (m : Machine S) (a b : Label S) → may_keep_up tour a.progress b.progress ≡ true → (a.progress == b.progress || m.ahead a.state) ≡ (a.progress == b.progress || can_wait_for (problem_of tour m) a b)
up_so tour m a b h = open_test (a.progress == b.progress) (nat_lt b.progress a.progress && may_idle tour a.progress) (m.ahead a.state) h

-- ---- the places of one progress

-- the places of the labels of one progress
at_places : {S : Type 0} (p : ℕ) (layer : List (Kept S)) (places : List ℕ) → places ≡ places_of p layer → ArePlaces p 0 layer places
at_places p layer places e = subst (ArePlaces p 0 layer) (sym e) (are_places p 0 layer)

pub places_rise : {S : Type 0} (p : ℕ) (layer : List (Kept S)) (places : List ℕ) → places ≡ places_of p layer → AreRising places
places_rise p layer places e = (at_places p layer places e).rising

-- the state of a label at a place
pub state_there : {S : Type 0} (is_state : S → ℕ → Type 0) (step : ℕ) (layer : List (Kept S)) (i : ℕ) (x : Kept S) → AreStatesAt is_state step (labels_of layer) → slice_get layer i ≡ Some x → is_state x.label.state step
state_there is_state step layer i x states there = states x.label (one_of_map (λ k. k.label) layer x (one_of_item layer i x (slice_get_within layer i x there) (sym (get_or_from_slice_get layer i x x there))))

-- The front of a layer of this length.
abbrev pub IsFront : {S : Type 0} → List (Kept S) → ℕ → List (Kept S) → Type 0
IsFront layer n front = front ≡ take n layer

-- a label of a front stands in the layer
front_label : {S : Type 0} (layer front : List (Kept S)) (n j : ℕ) (k : Kept S) → IsFront layer n front → slice_get front j ≡ Some k → (j < n) × (slice_get layer j ≡ Some k)
front_label layer front n j k f h = place_taken n layer j k (ap (λ ks. slice_get ks j) (sym f) ∙ h)

-- its state is one of the step, then
pub front_states : {S : Type 0} (is_state : S → ℕ → Type 0) (step n : ℕ) (layer front : List (Kept S)) → IsFront layer n front → AreStatesAt is_state step (labels_of layer) → AreStatesAt is_state step (labels_of front)
front_states is_state step n layer front f states x o =
    let q = label_kept front x o in
    let i = place_of_one front q.0 q.1 in
    subst (λ y. is_state y.state step) q.2 (state_there is_state step layer i.0 q.0 states (front_label layer front n i.0 q.0 f i.1).1)

pub keep_up_at : {S : Type 0} (tour : Tour) (p n : ℕ) (layer front : List (Kept S)) (places : List ℕ) (l : Label S) → IsFront layer n front → places ≡ places_of p layer → may_keep_up tour p l.progress ≡ true → MayKeepUp tour front places l
keep_up_at tour p n layer front places l f e up m k lt h =
    let q = front_label layer front n (get_or places m 0) k f h in
    subst (λ r. may_keep_up tour r l.progress ≡ true) (sym ((at_places p layer places e).own m (get_or places m 0) k lt (omega arith) q.1)) up

-- ---- one progress looked through

-- a label as a loop reads it
pub read_there : {S : Type 0} (layer : List (Kept S)) (i : ℕ) (x : Kept S) → true ≡ nat_lt i (length layer) → x ≡ get_or layer i x → slice_get layer i ≡ Some x
read_there layer i x t read = slice_get_read layer (length layer) i x refl (grind (arith, nat_tests, t)) read

-- a place that is below another stands before it
stands_before : (places : List ℕ) → AreRising places → (i m : ℕ) → m < length places → get_or places m 0 < get_or places i 0 → m < i
stands_before places rising i m u v = elim (cases_lt m i) [
  | inl w ↦ w
  | inr w ↦ elim (cases_lt i m) [
    | inl z ↦ (let r = rising i m z u in absurd (omega arith))
    | inr z ↦ (let e : m ≡ i = omega arith in let f : get_or places m 0 ≡ get_or places i 0 = ap (λ n. get_or places n 0) e in absurd (omega arith))
  ]
]

-- The labels at the places so far are not better.
abbrev pub NoneSoFar : {S : Type 0} → Problem S → ℕ → List (Kept S) → List ℕ → Label S → ℕ → Type 0
NoneSoFar {S} problem step layer places l n = (m : ℕ) → m < n → (k : Kept S) → slice_get layer (get_or places m 0) ≡ Some k → is_better problem step k.label l ≡ false

pub none_more : {S : Type 0} (problem : Problem S) (step : ℕ) (layer : List (Kept S)) (places : List ℕ) (l : Label S) (i : ℕ) (x : Kept S) → slice_get layer (get_or places i 0) ≡ Some x →
    NoneSoFar problem step layer places l i → is_better problem step x.label l ≡ false → NoneSoFar problem step layer places l (i + 1)
none_more problem step layer places l i x there none b m u k e = elim (cases_lt m i) [
  | inl v ↦ none m v k e
  | inr v ↦
      let same : m ≡ i = omega arith in
      let both : Some x ≡ Some k = sym there ∙ (ap (λ n. slice_get layer (get_or places n 0)) (sym same) ∙ e) in
      subst (λ y. is_better problem step y.label l ≡ false) (let z : x ≡ k = cc in z) b
]

pub found_at : {S : Type 0} (problem : Problem S) (step : ℕ) (layer : List (Kept S)) (places : List ℕ) (l : Label S) (i : ℕ) (x : Kept S) → AreRising places → slice_get layer (get_or places i 0) ≡ Some x →
    NoneSoFar problem step layer places l i → is_better problem step x.label l ≡ true → IsPlaceSought problem step layer places l (Some (get_or places i 0))
found_at problem step layer places l i x rising there none b = (
  record { cover = x; there = there; better = b },
  λ m lt less k e. none m (stands_before places rising i m lt less) k e,
)

-- where a place is past the end, so is each one after it
pub none_past : {S : Type 0} (problem : Problem S) (step : ℕ) (layer : List (Kept S)) (places : List ℕ) (l : Label S) (i : ℕ) → AreRising places → slice_get layer (get_or places i 0) ≡ None →
    NoneSoFar problem step layer places l i → IsPlaceSought problem step layer places l None
none_past problem step layer places l i rising past none m lt _ k e = elim (cases_lt m i) [
  | inl v ↦ none m v k e
  | inr v ↦ elim (cases_lt i m) [
    | inl w ↦ (
        let r = rising i m w lt in
        let within = slice_get_within layer (get_or places m 0) k e in
        let there = slice_get-get_or layer (get_or places i 0) k (omega arith) in
        absurd (let z : Some (get_or layer (get_or places i 0) k) ≡ None = sym there ∙ past in cc)
        )
    | inr w ↦ (
        let same : m ≡ i = omega arith in
        absurd (let z : Some k ≡ None = sym e ∙ (ap (λ n. slice_get layer (get_or places n 0)) same ∙ past) in cc)
        )
  ]
]

pub none_sought : {S : Type 0} (problem : Problem S) (step : ℕ) (layer : List (Kept S)) (places : List ℕ) (l : Label S) (n : ℕ) → length places ≤ n → NoneSoFar problem step layer places l n → IsPlaceSought problem step layer places l None
none_sought problem step layer places l n le none m lt _ k e = none m (omega arith) k e

-- ---- each progress looked through

-- where the labels that were looked at end: at the first that is better, or with the layer
abbrev pub end_of : {S : Type 0} → List (Kept S) → Option ℕ → ℕ
end_of layer None = length layer
end_of layer (Some i) = i

-- There is a better label at the place, if there is a place.
abbrev pub IsFound : {S : Type 0} → Problem S → ℕ → List (Kept S) → Label S → Option ℕ → Type 0
IsFound problem step layer l None = Unit {0}
IsFound problem step layer l (Some i) = IsCoverAt problem step layer l i

-- What is known when the labels that have done less than p are looked through: `front` ends before the first that is better.
pub record Looked {S : Type 0} (problem : Problem S) (step : ℕ) (layer : List (Kept S)) (l : Label S) (p : ℕ) (front : List (Kept S)) (first : Option ℕ) : Type 0 where
  pub front_is : IsFront layer (end_of layer first) front
  pub found : IsFound problem step layer l first
  pub none : (j : ℕ) (k : Kept S) → slice_get front j ≡ Some k → k.label.progress < p → is_better problem step k.label l ≡ false

equal_of : (a b : ℕ) → (a == b) ≡ true → a ≡ b
equal_of a b e = grind (arith, nat_tests)

-- nothing better of this progress
looked_more : {S : Type 0} (problem : Problem S) (step : ℕ) (layer : List (Kept S)) (l : Label S) (p : ℕ) (front : List (Kept S)) (first : Option ℕ) →
    ((j : ℕ) (k : Kept S) → slice_get front j ≡ Some k → k.label.progress ≡ p → is_better problem step k.label l ≡ false) →
    Looked problem step layer l p front first → Looked problem step layer l (p + 1) front first
looked_more problem step layer l p front first here h = record {
  front_is = h.front_is;
  found = h.found;
  none = λ j k e lt. elim (cases_lt k.label.progress p) [ inl less ↦ h.none j k e less | inr le ↦ here j k e (omega arith) ];
}

-- for no label has done so much, or it may not keep up
pub looked_past : {S : Type 0} (tour : Tour) (m : Machine S) (step : ℕ) (layer : List (Kept S)) (l : Label S) (p : ℕ) (front : List (Kept S)) (first : Option ℕ) → may_keep_up tour p l.progress ≡ false →
    Looked (problem_of tour m) step layer l p front first → Looked (problem_of tour m) step layer l (p + 1) front first
looked_past tour m step layer l p front first up h =
    looked_more (problem_of tour m) step layer l p front first (λ j k e same. not_up tour m step k.label l (subst (λ r. may_keep_up tour r l.progress ≡ false) (sym same) up)) h

pub looked_empty : {S : Type 0} (problem : Problem S) (step : ℕ) (layer : List (Kept S)) (l : Label S) (p : ℕ) (front : List (Kept S)) (first : Option ℕ) (places : List ℕ) → places ≡ places_of p layer → (length places == 0) ≡ true →
    Looked problem step layer l p front first → Looked problem step layer l (p + 1) front first
looked_empty problem step layer l p front first places is none h =
    looked_more problem step layer l p front first
    (λ j k e same. (
    let q = front_label layer front (end_of layer first) j k h.front_is e in
    let at = (at_places p layer places is).all j k q.1 same in
    let lt = at.1 in
    let empty : length places ≡ 0 = equal_of (length places) 0 none in
    absurd (omega arith)
    )) h

-- none at the places that pass the test is better, so none of the labels that pass it
none_among : {S : Type 0} (problem : Problem S) (step : ℕ) (layer : List (Kept S)) (l : Label S) (p n : ℕ) (front : List (Kept S)) (places : List ℕ) (P : ℕ → Type 0) → places ≡ places_of p layer → IsFront layer n front → NoneAt problem step front places l P →
    (j : ℕ) (k : Kept S) → P j → slice_get front j ≡ Some k → k.label.progress ≡ p → is_better problem step k.label l ≡ false
none_among problem step layer l p n front places P is f none j k pass e same =
    let q = front_label layer front n j k f e in
    let at = (at_places p layer places is).all j k q.1 same in
    let here : get_or places at.0 0 ≡ j = (let g = at.2 in omega arith) in
    none at.0 at.1 (subst P (sym here) pass) k (ap (slice_get front) here ∙ e)

pub looked_through : {S : Type 0} (problem : Problem S) (step : ℕ) (layer : List (Kept S)) (l : Label S) (p : ℕ) (front : List (Kept S)) (first : Option ℕ) (places : List ℕ) → places ≡ places_of p layer →
    IsPlaceSought problem step front places l None → Looked problem step layer l p front first → Looked problem step layer l (p + 1) front first
looked_through problem step layer l p front first places is none h =
    looked_more problem step layer l p front first (λ j k e same. none_among problem step layer l p (end_of layer first) front places (λ place. Unit {0}) is h.front_is none j k tt e same) h

pub looked_found : {S : Type 0} (problem : Problem S) (step : ℕ) (layer : List (Kept S)) (l : Label S) (p : ℕ) (front : List (Kept S)) (first : Option ℕ) (places : List ℕ) (i : ℕ) → places ≡ places_of p layer →
    IsPlaceSought problem step front places l (Some i) → Looked problem step layer l p front first → Looked problem step layer l (p + 1) (take i front) (Some i)
looked_found problem step layer l p front first places i is found h =
    let n = end_of layer first in
    let c = found.0 in
    let q = front_label layer front n i c.cover h.front_is c.there in
    let lt = q.0 in
    record {
      front_is = ap (take i) h.front_is ∙ take-take i n layer (omega arith);
      found = record { cover = c.cover; there = q.1; better = c.better };
      none = λ j k e less. (
          let r = place_taken i front j k e in
          elim (cases_lt k.label.progress p) [
            | inl before ↦ h.none j k r.1 before
            | inr le ↦ none_among problem step layer l p n front places (λ place. place < i) is h.front_is found.1 j k r.0 r.1 (omega arith)
          ]);
    }

-- the first that is better stands in the list, so it has a front of that length
pub front_long : {S : Type 0} (front : List (Kept S)) (i : ℕ) (k : Kept S) → slice_get front i ≡ Some k → i ≡ length (take i front)
front_long front i k e = let lt = slice_get_within front i k e in sym (length-take-le i front (omega arith))

-- ---- the whole layer looked through

-- a label of a layer has a place among those of its progress
no_place : {S : Type 0} (layer : List (Kept S)) (j : ℕ) (k : Kept S) → slice_get layer j ≡ Some k → places_of k.label.progress layer ≡ [] → ⊥
no_place layer j k there empty =
    let at = (are_places k.label.progress 0 layer).all j k there refl in
    let none = ap length empty in
    let lt = at.1 in
    omega arith

-- so what is above the progress of all is above that of those that are ahead
pub all_below : {S : Type 0} (ahead : S → Bool) (top : ℕ) (layer : List (Kept S)) → ((q : ℕ) → top ≤ q → places_of q layer ≡ []) → AreAheadBelow ahead top layer
all_below ahead top layer past k o y = elim (cases_lt k.label.progress top) [ inl less ↦ less | inr le ↦ absurd (let i = place_of_one layer k o in no_place layer i.0 k i.1 (past k.label.progress le)) ]

-- and it stays so where a label is added
pub below_kept : {S : Type 0} (ahead : S → Bool) (end new : ℕ) (layers : List (List (Kept S))) (k : Kept S) → 0 < length layers → AreAheadBelow ahead end (last_layer layers) → end ≤ new → (ahead k.label.state ≡ true → k.label.progress < new) →
    AreAheadBelow ahead new (last_layer (with_kept layers k))
below_kept ahead end new layers k some below le own x o y = elim (one_of-append (last_layer layers) (k ∷ []) x (subst (λ ys. IsOneOf ys x) (last_kept layers k some) o)) [
  | inl a ↦ let lt = below x a y in omega arith
  | inr q ↦ elim q [ inl f ↦ subst (λ z. z.label.progress < new) f (own (subst (λ z. ahead z.label.state ≡ true) (sym f) y)) | inr z ↦ absurd z ]
]

-- what has done more and is not ahead is not better
shut_behind : (l e w h c : Bool) → e ≡ false → h ≡ false → ((l && (e || (w && h))) && c) ≡ false
shut_behind l true w h c x y = absurd (let z : true ≡ false = x in cc)
shut_behind l false w true c x y = absurd (let z : true ≡ false = y in cc)
shut_behind true false true false c x y = refl
shut_behind true false false false c x y = refl
shut_behind false false w false c x y = refl

unequal_of : (a b : ℕ) → b < a → (a == b) ≡ false
unequal_of a b lt = grind (arith, nat_tests)

not_behind : {S : Type 0} (tour : Tour) (m : Machine S) (step : ℕ) (a b : Label S) → b.progress < a.progress → m.ahead a.state ≡ false → is_better (problem_of tour m) step a b ≡ false
not_behind tour m step a b lt h =
    shut_behind (later a.depart b.depart) (a.progress == b.progress) (nat_lt b.progress a.progress && may_idle tour a.progress) (m.ahead a.state) ((problem_of tour m).covers a.state b.state step) (unequal_of a.progress b.progress lt) h

-- The labels of the layer that have done p steps or more are not better.
abbrev pub NoneBeyond : {S : Type 0} → Problem S → ℕ → List (Kept S) → Label S → ℕ → Type 0
NoneBeyond {S} problem step layer l p = (j : ℕ) (k : Kept S) → slice_get layer j ≡ Some k → p ≤ k.label.progress → is_better problem step k.label l ≡ false

-- for no label has done so much, or they have done more and none is ahead
pub none_beyond : {S : Type 0} (tour : Tour) (m : Machine S) (step : ℕ) (layer : List (Kept S)) (l : Label S) (top end p : ℕ) → ((q : ℕ) → top ≤ q → places_of q layer ≡ []) → AreAheadBelow m.ahead end layer →
    (p < top → (end ≤ p) × (l.progress < p)) → NoneBeyond (problem_of tour m) step layer l p
none_beyond tour m step layer l top end p past below ends j k there le = elim (cases_lt k.label.progress top) [
  | inr far ↦ absurd (no_place layer j k there (past k.label.progress far))
  | inl less ↦
      let so = ends (omega arith) in
      let u = so.0 in
      let v = so.1 in
      let o = one_of_item layer j k (slice_get_within layer j k there) (sym (get_or_from_slice_get layer j k k there)) in
      elim (cases_Bool (m.ahead k.label.state)) [
        | inl y ↦ absurd (let lt = below k o y in omega arith)
        | inr y ↦ not_behind tour m step k.label l (omega arith) y
      ]
]

none_left : {S : Type 0} (problem : Problem S) (step : ℕ) (layer : List (Kept S)) (l : Label S) (p : ℕ) (front : List (Kept S)) (first : Option ℕ) → NoneBeyond problem step layer l p → Looked problem step layer l p front first →
    NoneCovers problem step (labels_of front) l
none_left problem step layer l p front first beyond h x o =
    let q = label_kept front x o in
    let i = place_of_one front q.0 q.1 in
    subst (λ y. is_better problem step y l ≡ false) q.2 (elim (cases_lt q.0.label.progress p) [
      | inl less ↦ h.none i.0 q.0 i.1 less
      | inr le ↦ (let there = front_label layer front (end_of layer first) i.0 q.0 h.front_is i.1 in beyond i.0 q.0 there.1 le)
    ])

-- the label at a place
label_there : {S : Type 0} (layer : List (Kept S)) (i : ℕ) (k : Kept S) → slice_get layer i ≡ Some k → slice_get (labels_of layer) i ≡ Some k.label
label_there layer i k e = slice_get-map (λ m. m.label) layer i ∙ ap (option_map (λ m. m.label)) e

pub cover_sought : {S : Type 0} (problem : Problem S) (step : ℕ) (layer : List (Kept S)) (l : Label S) (p : ℕ) (front : List (Kept S)) (first : Option ℕ) → NoneBeyond problem step layer l p → Looked problem step layer l p front first →
    IsCoverSought problem step (labels_of layer) l first
cover_sought problem step layer l p front None beyond h =
    subst (λ ks. NoneCovers problem step (labels_of ks) l) (h.front_is ∙ take_all (length layer) layer (omega arith)) (none_left problem step layer l p front None beyond h)
cover_sought problem step layer l p front (Some i) beyond h =
    let c = h.found in
    record {
      cover = c.cover.label;
      there = label_there layer i c.cover c.there;
      better = c.better;
      first = subst (λ ls. NoneCovers problem step ls l) (ap labels_of h.front_is ∙ sym (take-map (λ k. k.label) i layer)) (none_left problem step layer l p front (Some i) beyond h);
    }
