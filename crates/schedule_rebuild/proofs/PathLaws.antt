-- The path to a label, from its end.
use Rattle.std.proofs.Common.{add-one, ◌≡◌, ℕ, ◌+◌, ◌<◌, ◌≤◌, List, [], ◌∷◌, ◌++◌, length, take, get_or, refl, sym, ◌∙◌, ap, subst, arith, append_assoc, append-nil, inl, inr, zero, suc}
use Rattle.std.specs.Prelude.{Option, None, Some, slice_get, reverse}
use Rattle.std.specs.Option.{option_to_list}
use Rattle.std.proofs.lemmas.List.{get_or_past, reverse-append, take_more}
use Rattle.std.proofs.lemmas.Option.{slice_get_read}
use Rattle.std.proofs.lemmas.Bool.{cases_lt}
use Rattle.duty_core.specs.declared.activity.Activity.{Activity}
use Rattle.duty_core.specs.declared.mark.Mark.{Mark}
use Rattle.rule_core.specs.declared.roots.Root.{Root}
use Rattle.rule_core.specs.Reach.{IsOneOf}
use Rattle.rule_core.specs.Laws.OneOf.{one_of_item}
use Rattle.tour_model.specs.Layer.{layer_at}
use Rattle.label_state.specs.declared.kept.Kept.{Kept}
use Rattle.label_state.specs.Path.{kept_at, parent_of, acts_of, marks_of, root_of, path_of, way_marks, root_marks, path_marks, HaveParents}

-- a layer with a label is one of the layers
pub within_layers : {X : Type 0} (layers : List (List X)) (step i : ℕ) → i < length (layer_at layers step) → step < length layers
within_layers layers step i lt = elim (cases_lt step (length layers)) [
  | inl l ↦ l
  | inr l ↦ absurd (let e : length (layer_at layers step) ≡ 0 = ap length (get_or_past layers step [] l) in omega arith)
]

-- What is known on the way back: the path, the marks and the root of the place are those of the label at hand, with what was gathered after.
pub record IsGoingBack {S : Type 0} (layers : List (List (Kept S))) (step index at place : ℕ) (acts : List Activity) (marks : List Mark) : Type 0 where
  pub there : place < length (layer_at layers at)
  pub path : path_of layers step index ≡ path_of layers at place ++ reverse acts
  pub marked : way_marks layers step index ≡ way_marks layers at place ++ reverse marks
  pub root : root_of layers step index ≡ root_of layers at place

reverse_mark : (m : Option Mark) → reverse (option_to_list m) ≡ option_to_list m
reverse_mark None = refl
reverse_mark (Some m) = refl

back_suc : {S : Type 0} (layers : List (List (Kept S))) (step index before place : ℕ) (k : Kept S) (acts : List Activity) (marks : List Mark) → kept_at layers (suc before) place ≡ Some k →
    k.parent < length (layer_at layers before) → IsGoingBack layers step index (suc before) place acts marks →
    IsGoingBack layers step index before k.parent (acts ++ k.act ∷ []) (marks ++ option_to_list k.mark)
back_suc layers step index before place k acts marks e lt h =
    let path : path_of layers (suc before) place ≡ path_of layers before k.parent ++ k.act ∷ [] = ap (λ o. path_of layers before (parent_of o) ++ acts_of o) e in
    let way : way_marks layers (suc before) place ≡ way_marks layers before k.parent ++ option_to_list k.mark = ap (λ o. way_marks layers before (parent_of o) ++ marks_of o) e in
    record {
      there = lt;
      path = h.path ∙ (ap (λ ys. ys ++ reverse acts) path ∙ (append_assoc (path_of layers before k.parent) (k.act ∷ []) (reverse acts) ∙ ap (λ ys. path_of layers before k.parent ++ ys) (sym (reverse-append acts (k.act ∷ [])))));
      marked = h.marked ∙ (ap (λ ys. ys ++ reverse marks) way ∙ (append_assoc (way_marks layers before k.parent) (option_to_list k.mark) (reverse marks)
          ∙ ap (λ ys. way_marks layers before k.parent ++ ys) (ap (λ ys. ys ++ reverse marks) (sym (reverse_mark k.mark)) ∙ sym (reverse-append marks (option_to_list k.mark)))));
      root = h.root ∙ ap (λ o. root_of layers before (parent_of o)) e;
    }

-- one step back along the parents
pub back_more : {S : Type 0} (roots : ℕ) (layers : List (List (Kept S))) (step index before at place : ℕ) (k : Kept S) (acts : List Activity) (marks : List Mark) → HaveParents roots layers → at ≡ before + 1 →
    k ≡ get_or (layer_at layers at) place k → IsGoingBack layers step index at place acts marks →
    IsGoingBack layers step index before k.parent (acts ++ k.act ∷ []) (marks ++ option_to_list k.mark)
back_more roots layers step index before at place k acts marks parents e is h =
    let s : at ≡ suc before = e ∙ add-one before in
    let there : slice_get (layer_at layers at) place ≡ Some k = slice_get_read (layer_at layers at) (length (layer_at layers at)) place k refl h.there is in
    let up : k.parent < length (layer_at layers before) = parents.later before k (subst (λ n. IsOneOf (layer_at layers n) k) e (one_of_item (layer_at layers at) place k h.there is)) in
    back_suc layers step index before place k acts marks (subst (λ n. kept_at layers n place ≡ Some k) s there) up
    (subst (λ n. IsGoingBack layers step index n place acts marks) s h)

pub back_first : {S : Type 0} (layers : List (List (Kept S))) (step index : ℕ) → index < length (layer_at layers step) → IsGoingBack layers step index step index [] []
back_first layers step index lt = record { there = lt; path = sym (append-nil (path_of layers step index)); marked = sym (append-nil (way_marks layers step index)); root = refl }

-- What is known at the first layer.
pub record IsBack {S : Type 0} (layers : List (List (Kept S))) (step index : ℕ) (k : Kept S) (acts : List Activity) (marks : List Mark) : Type 0 where
  pub path : reverse acts ≡ path_of layers step index
  pub marked : reverse marks ≡ way_marks layers step index
  pub root : root_of layers step index ≡ k.parent

pub back_whole : {S : Type 0} (layers : List (List (Kept S))) (step index at place : ℕ) (k : Kept S) (acts : List Activity) (marks : List Mark) → at ≤ 0 → k ≡ get_or (layer_at layers 0) place k →
    IsGoingBack layers step index at place acts marks → IsBack layers step index k acts marks
back_whole layers step index zero place k acts marks le is h =
    let there : slice_get (layer_at layers 0) place ≡ Some k = slice_get_read (layer_at layers 0) (length (layer_at layers 0)) place k refl h.there is in
    record { path = sym h.path; marked = sym h.marked; root = h.root ∙ ap parent_of there }
back_whole layers step index (suc at) place k acts marks le is h = absurd (omega arith)

-- the marks of the path from the root's and those along the way
pub marks_whole : {S : Type 0} (layers : List (List (Kept S))) (roots : List (Root S)) (step index : ℕ) (k : Kept S) (root : Root S) → root_of layers step index ≡ k.parent → k.parent < length roots → root ≡ get_or roots k.parent root →
    root.marks ++ way_marks layers step index ≡ path_marks layers roots step index
marks_whole layers roots step index k root e lt is =
    let there : slice_get roots (root_of layers step index) ≡ Some root = ap (slice_get roots) e ∙ slice_get_read roots (length roots) k.parent root refl lt is in
    ap (λ o. root_marks o ++ way_marks layers step index) (sym there)

-- marks joined one by one
pub joined_more : (first second all : List Mark) (i : ℕ) (x : Mark) → i < length second → x ≡ get_or second i x → all ≡ first ++ take i second → all ++ x ∷ [] ≡ first ++ take (i + 1) second
joined_more first second all i x lt e h =
    ap (λ ys. ys ++ x ∷ []) h ∙ (append_assoc first (take i second) (x ∷ []) ∙ ap (λ ys. first ++ ys) (sym (take_more second i x lt ∙ ap (λ y. take i second ++ y ∷ []) (sym e))))

-- the root is there
pub root_there : {S : Type 0} (roots : ℕ) (layers : List (List (Kept S))) (step index at place : ℕ) (k : Kept S) (acts : List Activity) (marks : List Mark) → HaveParents roots layers → at ≤ 0 → k ≡ get_or (layer_at layers 0) place k →
    IsGoingBack layers step index at place acts marks → k.parent < roots
root_there roots layers step index zero place k acts marks parents le is h = parents.first k (one_of_item (layer_at layers 0) place k h.there is)
root_there roots layers step index (suc at) place k acts marks parents le is h = absurd (omega arith)
