-- What filling a layer comes to.
use Rattle.std.proofs.Common.{◌≡◌, ℕ, ◌+◌, ◌-◌, ◌<◌, ◌≤◌, true, false, List, [], ◌∷◌, ◌++◌, length, take, refl, sym, ◌∙◌, ap, subst, arith, inl, inr, length-append}
use Rattle.std.specs.Prelude.{Option, None, Some, ◌==◌}
use Rattle.std.proofs.lemmas.Bool.Decides.{nat_tests}
use Rattle.rule_core.specs.Reach.{IsOneOf}
use Rattle.rule_core.specs.Laws.OneOf.{one_of-append, one_of-append_left, one_of-append_right}
use Rattle.tour_model.specs.declared.label.Label.{Label}
use Rattle.label_state.specs.declared.kept.Kept.{Kept}
use Rattle.label_state.specs.Layers.{labels_of, label_count, last_step, last_layer, with_kept}
use Rattle.label_state.specs.Laws.LayerLaws.{one_of_labels, layer_new, count_pushed}
use Rattle.cert_text.specs.CoverLists.Problem.{Problem, later, is_better}
use Rattle.cert_text.specs.CoverLists.Cover.{IsCovered, NoneCovers, NoneIsBetter}
use Rattle.label_dominance.specs.Offers.{IsFirstCover, IsOffered}
use Rattle.label_dominance.specs.declared.dominance.Offered.{Offered}
use Rattle.label_dominance.specs.declared.dominance.Offered.TheVariants as offered
use Rattle.label_search.specs.Sound.{StandsBefore}
use Rattle.label_search.specs.Searching.{IsFilled, AddsLayer}
use Rattle.label_search.proofs.Places.{one_of_place}
use Rattle.label_search.proofs.OrderLaws.{ordered_push}
use Rattle.label_search.proofs.TurnLaws.{parents_front, turn_first, turn_kept, turn_covered, turn_full}

-- ---- the last of layers to which one was added

pub step_added : {X : Type 0} (base : List (List X)) (layer : List X) → last_step (base ++ layer ∷ []) ≡ length base
step_added base layer = let e = length-append base (layer ∷ []) in omega arith

pub layer_added : {X : Type 0} (base : List (List X)) (layer : List X) → last_layer (base ++ layer ∷ []) ≡ layer
layer_added base layer = layer_new base layer (last_step (base ++ layer ∷ [])) (sym (step_added base layer))

take_base : {X : Type 0} (base rest : List X) → take (length base) (base ++ rest) ≡ base
take_base [] rest = refl
take_base (x ∷ base) rest = ap (λ ys. x ∷ ys) (take_base base rest)

pub kept_added : {X : Type 0} (base : List (List X)) (layer : List X) (k : X) → with_kept (base ++ layer ∷ []) k ≡ base ++ (layer ++ k ∷ []) ∷ []
kept_added base layer k =
    ap (λ n. take n (base ++ layer ∷ []) ++ (last_layer (base ++ layer ∷ []) ++ k ∷ []) ∷ []) (step_added base layer)
    ∙ (ap (λ ys. ys ++ (last_layer (base ++ layer ∷ []) ++ k ∷ []) ∷ []) (take_base base (layer ∷ []))
    ∙ ap (λ ys. base ++ (ys ++ k ∷ []) ∷ []) (layer_added base layer))

-- ---- one label more

labels-push : {S : Type 0} (layer : List (Kept S)) (k : Kept S) → labels_of (layer ++ k ∷ []) ≡ labels_of layer ++ k.label ∷ []
labels-push [] k = refl
labels-push (x ∷ layer) k = ap (λ ys. x.label ∷ ys) (labels-push layer k)

none_better_push : {S : Type 0} (problem : Problem S) (step : ℕ) (ls : List (Label S)) (l : Label S) → NoneIsBetter problem step ls → NoneCovers problem step ls l → NoneIsBetter problem step (ls ++ l ∷ [])
none_better_push problem step [] l h n = (λ m o. absurd o, tt)
none_better_push problem step (x ∷ ls) l h n = (
  λ m o. elim (one_of-append ls (l ∷ []) m o) [
    | inl a ↦ h.0 m a
    | inr q ↦ elim q [ inl f ↦ subst (λ j. is_better problem step x j ≡ false) f (n x (inl refl)) | inr z ↦ absurd z ]
  ],
  none_better_push problem step ls l h.1 (λ m o. n m (inr o)),
)

pub filled_first : {S : Type 0} (problem : Problem S) (step room : ℕ) → IsFilled problem step room [] []
filled_first problem step room = record { only = λ k o. o; better = tt; ordered = tt; bounded = omega arith; covers = λ lt k o. absurd o; in_turn = λ up. turn_first problem step room }

covered_more : {S : Type 0} (problem : Problem S) (step : ℕ) (ls : List (Label S)) (m l : Label S) → IsCovered problem step ls l → IsCovered problem step (ls ++ m ∷ []) l
covered_more problem step ls m l c = (c.0, one_of-append_left ls (m ∷ []) c.0 c.1, c.2)

pub filled_kept : {S : Type 0} (problem : Problem S) (step room : ℕ) (through layer : List (Kept S)) (k : Kept S) → IsFilled problem step room through layer → NoneCovers problem step (labels_of layer) k.label →
    ((m : Kept S) → IsOneOf through m → StandsBefore m.label k.label) → is_better problem step k.label k.label ≡ true → length layer < room → IsFilled problem step room (through ++ k ∷ []) (layer ++ k ∷ [])
filled_kept problem step room through layer k h none before itself lt =
    let e = labels-push layer k in
    record {
      only = λ m o. elim (one_of-append layer (k ∷ []) m o) [ inl a ↦ one_of-append_left through (k ∷ []) m (h.only m a) | inr q ↦ one_of-append_right through (k ∷ []) m q ];
      better = subst (NoneIsBetter problem step) (sym e) (none_better_push problem step (labels_of layer) k.label h.better none);
      ordered = ordered_push layer k h.ordered (λ m o. before m (h.only m o));
      bounded = let f = length-append layer (k ∷ []) in omega arith;
      covers = λ less m o. elim (one_of-append through (k ∷ []) m o) [
        | inl a ↦ subst (λ ls. IsCovered problem step ls m.label) (sym e) (covered_more problem step (labels_of layer) k.label m.label (h.covers lt m a))
        | inr q ↦ elim q [
          | inl f ↦ subst (λ j. IsCovered problem step (labels_of (layer ++ k ∷ [])) j.label) f (k.label, one_of_labels (layer ++ k ∷ []) k (one_of-append_right layer (k ∷ []) k (inl refl)), itself)
          | inr z ↦ absurd z
        ]
      ];
      in_turn = λ up. turn_kept problem step room through layer k up h.only lt (h.in_turn (parents_front through (k ∷ []) up));
    }

pub filled_covered : {S : Type 0} (problem : Problem S) (step room : ℕ) (through layer : List (Kept S)) (k : Kept S) (i : ℕ) → IsFilled problem step room through layer → IsFirstCover problem step (labels_of layer) k.label i →
    IsFilled problem step room (through ++ k ∷ []) layer
filled_covered problem step room through layer k i h c = record {
  only = λ m o. one_of-append_left through (k ∷ []) m (h.only m o);
  better = h.better;
  ordered = h.ordered;
  bounded = h.bounded;
  covers = λ less m o. elim (one_of-append through (k ∷ []) m o) [
    | inl a ↦ h.covers less m a
    | inr q ↦ elim q [
      | inl f ↦ subst (λ j. IsCovered problem step (labels_of layer) j.label) f (c.cover, one_of_place (labels_of layer) i c.cover c.there, c.better)
      | inr z ↦ absurd z
    ]
  ];
  in_turn = λ up. turn_covered problem step room through layer k up h.only (c.cover, one_of_place (labels_of layer) i c.cover c.there, c.better) (h.in_turn (parents_front through (k ∷ []) up));
}

-- ---- the layer as it is added

pub adds_first : {S : Type 0} (problem : Problem S) (budget : ℕ) (old : List (List (Kept S))) → AddsLayer problem budget [] old (old ++ [] ∷ [])
adds_first problem budget old = record { layer = []; thereafter = refl; filled = filled_first problem (length old) (budget - label_count old) }

-- what was answered to one more offer
pub adds_more : {S : Type 0} (problem : Problem S) (budget : ℕ) (through : List (Kept S)) (k : Kept S) (old layers new : List (List (Kept S))) (o : Offered) → AddsLayer problem budget through old layers → IsOffered problem layers k new o →
    ((m : Kept S) → IsOneOf through m → StandsBefore m.label k.label) → is_better problem (length old) k.label k.label ≡ true → label_count old ≤ budget → label_count layers < budget → AddsLayer problem budget (through ++ k ∷ []) old new
adds_more {S} problem budget through k old layers new offered.Kept a h before itself le room =
    let x = a.layer in
    let none : NoneCovers problem (length old) (labels_of x) k.label =
    subst (λ n. NoneCovers problem n (labels_of x) k.label) (step_added old x) (subst (λ ys. NoneCovers problem (last_step (old ++ x ∷ [])) (labels_of ys) k.label) (layer_added old x)
    (subst (λ ls. NoneCovers problem (last_step ls) (labels_of (last_layer ls)) k.label) a.thereafter h.0)) in
    let count : label_count layers ≡ label_count old + length x = ap label_count a.thereafter ∙ count_pushed old x in
    record {
      layer = x ++ k ∷ [];
      thereafter = h.1 ∙ (ap (λ ls. with_kept ls k) a.thereafter ∙ kept_added old x k);
      filled = filled_kept problem (length old) (budget - label_count old) through x k a.filled none before itself (omega arith);
    }
adds_more {S} problem budget through k old layers new (offered.Covered i) a h before itself le room =
    let x = a.layer in
    let first : IsFirstCover problem (length old) (labels_of x) k.label i =
    subst (λ n. IsFirstCover problem n (labels_of x) k.label i) (step_added old x) (subst (λ ys. IsFirstCover problem (last_step (old ++ x ∷ [])) (labels_of ys) k.label i) (layer_added old x)
    (subst (λ ls. IsFirstCover problem (last_step ls) (labels_of (last_layer ls)) k.label i) a.thereafter h.0)) in
    record { layer = x; thereafter = h.1 ∙ a.thereafter; filled = filled_covered problem (length old) (budget - label_count old) through x k i a.filled first }

-- a full layer takes no more
pub adds_full : {S : Type 0} (problem : Problem S) (budget : ℕ) (through rest : List (Kept S)) (old layers : List (List (Kept S))) → AddsLayer problem budget through old layers → label_count old ≤ budget →
    budget ≤ label_count layers → AddsLayer problem budget (through ++ rest) old layers
adds_full problem budget through rest old layers a le full =
    let count : label_count layers ≡ label_count old + length a.layer = ap label_count a.thereafter ∙ count_pushed old a.layer in
    record {
      layer = a.layer;
      thereafter = a.thereafter;
      filled = record {
        only = λ k o. one_of-append_left through rest k (a.filled.only k o);
        better = a.filled.better;
        ordered = a.filled.ordered;
        bounded = a.filled.bounded;
        covers = λ lt k o. absurd (omega arith);
        in_turn = λ up. turn_full problem (length old) (budget - label_count old) through rest a.layer up a.filled.only (let most = a.filled.bounded in omega arith) (a.filled.in_turn (parents_front through rest up));
      };
    }

-- ---- a label is better than itself

later_itself : (d : Option ℕ) → later d d ≡ true
later_itself None = refl
later_itself (Some x) = grind (arith, nat_tests)

pub better_itself_at : {S : Type 0} (problem : Problem S) (step : ℕ) (l : Label S) → problem.covers l.state l.state step ≡ true → is_better problem step l l ≡ true
better_itself_at problem step l h =
    let e : (l.progress == l.progress) ≡ true = grind (arith, nat_tests) in
    rw (later_itself l.depart, e, h) refl

-- ---- a layer that is added holds something where something was offered

pub filled_some : {S : Type 0} (problem : Problem S) (step room : ℕ) (list layer : List (Kept S)) → IsFilled problem step room list layer → 0 < room → 0 < length list → 0 < length layer
filled_some problem step room [] layer f lt some = absurd (omega arith)
filled_some problem step room (k ∷ list) [] f lt some = absurd (f.covers lt k (inl refl)).1
filled_some problem step room (k ∷ list) (x ∷ layer) f lt some = omega arith

pub adds_some : {S : Type 0} (problem : Problem S) (budget : ℕ) (list : List (Kept S)) (old new : List (List (Kept S))) → AddsLayer problem budget list old new → label_count old < budget → 0 < length list → label_count old < label_count new
adds_some problem budget list old new a lt some =
    let more = filled_some problem (length old) (budget - label_count old) list a.layer a.filled (omega arith) some in
    let count : label_count new ≡ label_count old + length a.layer = ap label_count a.thereafter ∙ count_pushed old a.layer in
    omega arith
