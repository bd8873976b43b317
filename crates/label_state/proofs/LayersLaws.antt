-- A label added to the last layer, in memory.
use Rattle.std.proofs.Common.{◌≡◌, ℕ, ◌+◌, ◌-◌, ◌<◌, List, [], ◌∷◌, ◌++◌, length, take, get_or, refl, sym, ◌∙◌, ap, subst, arith, length-append, zero, suc}
use Rattle.std.specs.Prelude.{slice_get, slice_set, Result, Ok, Err, OnErr}
use Rattle.std.proofs.Math.Seq.{take-append_seam}
use Rattle.std.specs.Global.{Vec}
use Rattle.std.proofs.lemmas.List.{length-map, map-append, map-set, set-get_or, get_or-map, get_or-set_same}
use Rattle.tour_model.specs.Layer.{layer_at}
use Rattle.label_state.specs.declared.kept.Kept.{Kept}
use Rattle.label_state.specs.declared.buckets.Bucket.{Bucket}
use Rattle.label_state.specs.Buckets.{place_if, places_in, AreUpTo}
use Rattle.label_state.proofs.BucketSteps.{held_push, held_keep, held_same}
use Rattle.label_state.specs.declared.layers.TheConstants.{LAYER_LIMIT}
use Rattle.label_state.specs.Layers.{label_count, last_step, last_layer, with_kept}
use Rattle.label_state.specs.Plain.{plain, AreCounted, AreHeld}
use Rattle.label_state.specs.Laws.LayerLaws.{with_kept_is, count_kept, length_kept, count_pushed}

plain_set : {X : Type 0} (vs : List (Vec X)) (i : ℕ) (w : Vec X) → plain (slice_set vs i w) ≡ slice_set (plain vs) i w.items
plain_set vs i w = map-set (λ v. v.items) vs i w

plain_at : {X : Type 0} (vs : List (Vec X)) (i : ℕ) (d : Vec X) → i < length vs → layer_at (plain vs) i ≡ (get_or vs i d).items
plain_at vs i d lt = get_or-map (λ v. v.items) vs i d [] lt

-- the vector at the last place, with one more label
pub kept_last : {X : Type 0} (vs : List (Vec X)) (n : ℕ) (d w : Vec X) (k : X) → n ≡ length vs → 0 < length vs → d ≡ get_or vs (n - 1) d → w.items ≡ d.items ++ k ∷ [] →
    plain (slice_set vs (n - 1) w) ≡ with_kept (plain vs) k
kept_last vs n d w k e some read is =
    let layers = plain vs in
    let l : length layers ≡ length vs = length-map vs (λ v. v.items) in
    let at : n - 1 ≡ last_step layers = ap (λ m. m - 1) (e ∙ sym l) in
    let here : w.items ≡ last_layer layers ++ k ∷ [] = is ∙ ap (λ ys. ys ++ k ∷ []) (ap (λ v. v.items) read ∙ sym (plain_at vs (n - 1) d (omega arith)) ∙ ap (layer_at layers) at) in
    plain_set vs (n - 1) w ∙ (ap (λ i. slice_set layers i w.items) at ∙ (ap (slice_set layers (last_step layers)) here
    ∙ with_kept_is layers k (omega arith)))

-- with nothing added
pub same_last : {X : Type 0} (vs : List (Vec X)) (i : ℕ) (d w : Vec X) → i < length vs → d ≡ get_or vs i d → w.items ≡ d.items → plain (slice_set vs i w) ≡ plain vs
same_last vs i d w lt read is =
    plain_set vs i w ∙ (ap (slice_set (plain vs) i) (is ∙ (ap (λ v. v.items) read ∙ sym (plain_at vs i d lt))) ∙ set-get_or (plain vs) i [])

-- the layers stay counted
pub counted_last : {X : Type 0} (layers : List (List X)) (k : X) (n : ℕ) → AreCounted layers n → 0 < length layers → label_count layers < LAYER_LIMIT → AreCounted (with_kept layers k) (n + 1)
counted_last layers k n h some lt =
    let c = count_kept layers k some in
    let l = length_kept layers k some in
    let counted = h.counted in
    let few = h.few_layers in
    record { counted = omega arith; few_labels = omega arith; few_layers = omega arith }

-- with one more label that is taken out again
set_twice : {X : Type 0} (xs : List X) (i : ℕ) (x y : X) → slice_set (slice_set xs i x) i y ≡ slice_set xs i y
set_twice [] i x y = refl
set_twice (z ∷ xs) zero x y = refl
set_twice (z ∷ xs) (suc i) x y = ap (λ l. z ∷ l) (set_twice xs i x y)

pub undone_last : {X : Type 0} (vs : List (Vec X)) (i : ℕ) (d w r u : Vec X) (k : X) (n : ℕ) → i < length vs → d ≡ get_or vs i d → w.items ≡ d.items ++ k ∷ [] → n ≡ length d.items → r ≡ get_or (slice_set vs i w) i r → u.items ≡ take n r.items →
    plain (slice_set (slice_set vs i w) i u) ≡ plain vs
undone_last vs i d w r u k n lt read is long back cut =
    let same : r.items ≡ d.items ++ k ∷ [] = ap (λ v. v.items) (back ∙ get_or-set_same vs i w r lt) ∙ is in
    ap plain (set_twice vs i w u)
    ∙ same_last vs i d u lt read (cut ∙ (ap (take n) same ∙ (ap (λ m. take m (d.items ++ k ∷ [])) long ∙ take-append_seam d.items (k ∷ []))))

-- the last layer, and its length
last_is : {X : Type 0} (vs : List (Vec X)) (n : ℕ) (d : Vec X) → n ≡ length vs → 0 < length vs → d ≡ get_or vs (n - 1) d → d.items ≡ last_layer (plain vs)
last_is vs n d e some read =
    let l : length (plain vs) ≡ length vs = length-map vs (λ v. v.items) in
    let at : n - 1 ≡ last_step (plain vs) = ap (λ m. m - 1) (e ∙ sym l) in
    ap (λ v. v.items) read ∙ (sym (plain_at vs (n - 1) d (omega arith)) ∙ ap (layer_at (plain vs)) at)

-- the layers stay held, with one more label
pub held_last : {S : Type 0} (vs : List (Vec (Kept S))) (n place kept : ℕ) (d w : Vec (Kept S)) (k : Kept S) (old new : List Bucket) → n ≡ length vs → 0 < length vs → d ≡ get_or vs (n - 1) d → w.items ≡ d.items ++ k ∷ [] → place ≡ length d.items →
    label_count (plain vs) < LAYER_LIMIT → AreHeld (plain vs) kept old → ((p : ℕ) → places_in n (slice_get new p) ≡ places_in n (slice_get old p) ++ place_if p place k.label.progress) → AreUpTo n new →
    AreHeld (plain (slice_set vs (n - 1) w)) (kept + 1) new
held_last vs n place kept d w k old new e some read is long room h more up =
    let l : n ≡ length (plain vs) = e ∙ sym (length-map vs (λ v. v.items)) in
    let last : place ≡ length (last_layer (plain vs)) = long ∙ ap length (last_is vs n d e some read) in
    let there : 0 < length (plain vs) = omega arith in
    subst (λ ls. AreHeld ls (kept + 1) new) (sym (kept_last vs n d w k e some read is)) (record {
      counted = counted_last (plain vs) k kept h.counted there room;
      placed = held_keep old new (plain vs) k there h.placed
          (subst (λ m. (p : ℕ) → places_in m (slice_get new p) ≡ places_in m (slice_get old p) ++ place_if p (length (last_layer (plain vs))) k.label.progress) l
          (subst (λ m. (p : ℕ) → places_in n (slice_get new p) ≡ places_in n (slice_get old p) ++ place_if p m k.label.progress) last more))
          (subst (λ m. AreUpTo m new) l up);
    })

-- and with nothing added
pub held_so : {S : Type 0} (vs : List (Vec (Kept S))) (n kept : ℕ) (old new : List Bucket) → n ≡ length vs → AreHeld (plain vs) kept old → ((p : ℕ) → places_in n (slice_get new p) ≡ places_in n (slice_get old p)) → AreUpTo n new → AreHeld (plain vs) kept new
held_so vs n kept old new e h same up =
    let l : n ≡ length (plain vs) = e ∙ sym (length-map vs (λ v. v.items)) in
    record {
      counted = h.counted;
      placed = held_same old new (plain vs) h.placed (subst (λ m. (p : ℕ) → places_in m (slice_get new p) ≡ places_in m (slice_get old p)) l same) (subst (λ m. AreUpTo m new) l up);
    }

-- one layer more, with no labels
pub pushed_held : {S : Type 0} (vs : List (Vec (Kept S))) (v : Vec (Kept S)) (kept : ℕ) (buckets : List Bucket) → v.items ≡ [] → length (plain vs) < LAYER_LIMIT → AreHeld (plain vs) kept buckets → AreHeld (plain (vs ++ v ∷ [])) kept buckets
pushed_held {S} vs v kept buckets e few h =
    let layers = plain vs in
    let is : layers ++ [] ∷ [] ≡ plain (vs ++ v ∷ []) = sym (map-append (λ w. w.items) vs (v ∷ []) ∙ ap (λ (l : List (Kept S)). layers ++ l ∷ []) e) in
    let c = count_pushed layers [] in
    let l = length-append layers ([] ∷ []) in
    let counted = h.counted.counted in
    let labels = h.counted.few_labels in
    subst (λ ls. AreHeld ls kept buckets) is (record { counted = record { counted = omega arith; few_labels = labels; few_layers = omega arith }; placed = held_push buckets layers h.placed })

-- what holds, holds where there is an error
pub on_err_of : {T E P : Type 0} (r : Result T E) → P → OnErr r P
on_err_of (Ok x) p = tt
on_err_of (Err e) p = p
