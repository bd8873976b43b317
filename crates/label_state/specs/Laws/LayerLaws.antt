-- Layers that grow.
use Rattle.std.proofs.Common.{◌≡◌, ℕ, ◌+◌, ◌-◌, ◌<◌, ◌≤◌, List, [], ◌∷◌, ◌++◌, length, take, sym, ◌∙◌, ap, subst, arith, zero, suc, length-append, set, inl, inr}
use Rattle.std.specs.Prelude.{None, Some, slice_get}
use Rattle.std.proofs.lemmas.Bool.{cases_lt}
use Rattle.std.proofs.lemmas.List.{length-map, set_split, length-set, get_or-map, drop_all, get_or_past, get_or_push, get_or_append_left, get_or-set_same, get_or-set_other}
use Rattle.std.proofs.lemmas.List.Sums.{sum_by-set, sum_by-append, sum_by-cons}
use Rattle.rule_core.specs.Reach.{IsOneOf}
use Rattle.rule_core.specs.Laws.OneOf.{one_of-map, one_of_map}
use Rattle.tour_model.specs.declared.label.Label.{Label}
use Rattle.tour_model.specs.Layer.{layer_at}
use Rattle.label_state.specs.declared.kept.Kept.{Kept}
use Rattle.label_state.specs.Layers.{label_count, last_step, last_layer, with_kept, labels_of, label_layers}

-- ---- one more label in the last layer

pub with_kept_is : {X : Type 0} (layers : List (List X)) (k : X) → 0 < length layers → set layers (last_step layers) (last_layer layers ++ k ∷ []) ≡ with_kept layers k
with_kept_is layers k some =
    let i = last_step layers in
    set_split layers i (last_layer layers ++ k ∷ []) (omega arith) ∙ ap (λ rest. take i layers ++ (last_layer layers ++ k ∷ []) ∷ rest) (drop_all (suc i) layers (omega arith))

pub count_kept : {X : Type 0} (layers : List (List X)) (k : X) → 0 < length layers → label_count (with_kept layers k) ≡ label_count layers + 1
count_kept layers k some =
    let i = last_step layers in
    let s = sum_by-set length layers i (last_layer layers ++ k ∷ []) [] (omega arith) in
    let same : label_count (with_kept layers k) ≡ label_count (set layers i (last_layer layers ++ k ∷ [])) = ap label_count (sym (with_kept_is layers k some)) in
    let e = length-append (last_layer layers) (k ∷ []) in
    omega arith

pub length_kept : {X : Type 0} (layers : List (List X)) (k : X) → 0 < length layers → length (with_kept layers k) ≡ length layers
length_kept layers k some =
    let i = last_step layers in
    ap length (sym (with_kept_is layers k some)) ∙ length-set layers i (last_layer layers ++ k ∷ [])

pub last_kept : {X : Type 0} (layers : List (List X)) (k : X) → 0 < length layers → last_layer (with_kept layers k) ≡ last_layer layers ++ k ∷ []
last_kept layers k some =
    let i = last_step layers in
    let at : last_step (with_kept layers k) ≡ i = ap (λ n. n - 1) (length_kept layers k some) in
    ap (layer_at (with_kept layers k)) at ∙ (ap (λ ls. layer_at ls i) (sym (with_kept_is layers k some)) ∙ get_or-set_same layers i (last_layer layers ++ k ∷ []) [] (omega arith))

-- the layers before the last stay
pub layer_kept : {X : Type 0} (layers : List (List X)) (k : X) (step : ℕ) → step < last_step layers → layer_at (with_kept layers k) step ≡ layer_at layers step
layer_kept layers k step lt =
    let i = last_step layers in
    ap (λ ls. layer_at ls step) (sym (with_kept_is layers k (omega arith))) ∙ get_or-set_other layers i step (last_layer layers ++ k ∷ []) [] (λ e. (let f : step ≡ i = e in let g : step < step = subst (λ n. step < n) (sym f) lt in absurd (omega arith)))

-- ---- one more layer after the others

pub layer_old : {X : Type 0} (layers : List (List X)) (next : List X) (step : ℕ) → step < length layers → layer_at (layers ++ next ∷ []) step ≡ layer_at layers step
layer_old layers next step lt = get_or_append_left layers (next ∷ []) [] step lt

pub layer_new : {X : Type 0} (layers : List (List X)) (next : List X) (step : ℕ) → length layers ≡ step → layer_at (layers ++ next ∷ []) step ≡ next
layer_new layers next step e = get_or_push layers next [] step e

pub layer_past : {X : Type 0} (layers : List (List X)) (step : ℕ) → length layers ≤ step → layer_at layers step ≡ []
layer_past layers step le = get_or_past layers step [] le

pub count_pushed : {X : Type 0} (layers : List (List X)) (next : List X) → label_count (layers ++ next ∷ []) ≡ label_count layers + length next
count_pushed layers next = omega (arith, sum_by-append length layers (next ∷ []))

-- ---- the labels of kept labels

pub layer_labels : {S : Type 0} (layers : List (List (Kept S))) (step : ℕ) → layer_at (label_layers layers) step ≡ labels_of (layer_at layers step)
layer_labels layers step = elim (cases_lt step (length layers)) [
  | inl lt ↦ get_or-map labels_of layers step [] [] lt
  | inr le ↦ get_or_past (label_layers layers) step [] (let e = length-map layers labels_of in omega arith) ∙ ap labels_of (sym (layer_past layers step le))
]

pub one_of_labels : {S : Type 0} (layer : List (Kept S)) (k : Kept S) → IsOneOf layer k → IsOneOf (labels_of layer) k.label
one_of_labels layer k o = one_of_map (λ m. m.label) layer k o

pub label_kept : {S : Type 0} (layer : List (Kept S)) (l : Label S) → IsOneOf (labels_of layer) l → (k : Kept S) × IsOneOf layer k × (k.label ≡ l)
label_kept layer l o = one_of-map (λ m. m.label) layer l o

-- no layer has more labels than all of them
pub layer_within : {X : Type 0} (layers : List (List X)) (step : ℕ) → length (layer_at layers step) ≤ label_count layers
layer_within [] step = omega arith
layer_within (ys ∷ layers) zero = let e = sum_by-cons length ys layers in let r : length ys ≤ label_count (ys ∷ layers) = omega arith in r
layer_within (ys ∷ layers) (suc step) = let e = sum_by-cons length ys layers in let h = layer_within layers step in let r : length (layer_at layers step) ≤ label_count (ys ∷ layers) = omega arith in r

-- ---- elements and their places

pub place_of_one : {X : Type 0} (xs : List X) (x : X) → IsOneOf xs x → (i : ℕ) × (slice_get xs i ≡ Some x)
place_of_one [] x h = absurd h
place_of_one (y ∷ xs) x h = elim h [ inl e ↦ (0, ap Some e) | inr t ↦ (let q = place_of_one xs x t in (suc q.0, q.1)) ]

-- those of a front are those below its length
pub place_taken : {X : Type 0} (j : ℕ) (xs : List X) (i : ℕ) (x : X) → slice_get (take j xs) i ≡ Some x → (i < j) × (slice_get xs i ≡ Some x)
place_taken zero [] i x h = absurd (let z : None ≡ Some x = h in cc)
place_taken zero (y ∷ xs) i x h = absurd (let z : None ≡ Some x = h in cc)
place_taken (suc j) [] i x h = absurd (let z : None ≡ Some x = h in cc)
place_taken (suc j) (y ∷ xs) zero x h = (omega arith, h)
place_taken (suc j) (y ∷ xs) (suc i) x h = let q = place_taken j xs i x h in let l = q.0 in (omega arith, q.1)
