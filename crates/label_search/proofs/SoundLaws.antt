-- What stands after a label of sound layers: its path.
use Rattle.std.proofs.Common.{◌≡◌, ℕ, ◌+◌, ◌*◌, ◌≤◌, zero, suc, Bool, true, false, List, [], ◌∷◌, ◌++◌, length, refl, sym, ◌∙◌, ap, subst, arith, add-one, add-zero, length-append, append-nil, inl, inr}
use Rattle.std.specs.Prelude.{None, Some, slice_get}
use Rattle.std.specs.Option.{option_to_list}
use Rattle.duty_core.specs.declared.activity.Activity.{Activity}
use Rattle.duty_core.specs.declared.activity.Activity.TheVariants.{Drive, Serve, Wait, Off, Berth}
use Rattle.duty_core.specs.declared.mark.Mark.{Mark}
use Rattle.rule_core.specs.declared.roots.Root.{Root}
use Rattle.rule_core.specs.Reach.{IsOneOf, Reaches}
use Rattle.rule_core.specs.Laws.ReachLaws.{reaches-append, reached_state}
use Rattle.tour_model.specs.declared.label.Label.{Label}
use Rattle.tour_model.specs.Layer.{layer_at}
use Rattle.tour_model.specs.Way.{done, done_after}
use Rattle.tour_model.specs.Schedule.{depart_from}
use Rattle.cert_text.specs.declared.cover_lists.grown.Grown.{Grown}
use Rattle.cert_text.specs.CoverLists.Problem.{Problem, root_label, departed, successors_of, is_better, HasBound}
use Rattle.cert_text.specs.CoverLists.Cover.{NoneIsBetter}
use Rattle.cert_text.specs.CoverLists.Continuation.{IsAllowedFrom}
use Rattle.cert_text.specs.CoverLists.Laws.ProblemLaws.{IsProblem}
use Rattle.cert_text.specs.CoverLists.Laws.BetterLaws.{grown_from, better_itself}
use Rattle.label_state.specs.declared.kept.Kept.{Kept}
use Rattle.label_state.specs.Layers.{labels_of, label_layers, label_count}
use Rattle.label_state.specs.Laws.LayerLaws.{layer_labels, label_kept, place_of_one}
use Rattle.label_state.specs.Path.{parent_of, acts_of, marks_of, kept_at, root_of, path_of, way_marks}
use Rattle.label_search.specs.Sound.{IsSound, IsReachable, AreDistinct, HasLabels}
use Rattle.label_search.specs.Ways.{IsWay}
use Rattle.label_search.proofs.Places.{one_of_place}
use Rattle.std.proofs.lemmas.List.Sums.{sum_by-cons}

-- one more step of a way
allowed_more : {S : Type 0} (problem : Problem S) (allowed : Activity → Bool) (k p : ℕ) (xs : List Activity) (x : Activity) → IsAllowedFrom problem allowed k p xs →
    problem.may (k + length xs) (done_after p xs) x ≡ true → allowed x ≡ true → IsAllowedFrom problem allowed k p (xs ++ x ∷ [])
allowed_more problem allowed k p [] x goes may ok = (subst (λ n. problem.may n p x ≡ true) (let e : k + 0 ≡ k = omega arith in e) may, ok, tt)
allowed_more problem allowed k p (y ∷ xs) x goes may ok =
    (goes.0, goes.1, allowed_more problem allowed (k + 1) (done p y) xs x goes.2 (subst (λ n. problem.may n (done_after (done p y) xs) x ≡ true) (let e : k + length (y ∷ xs) ≡ k + 1 + length xs = omega arith in e) may) ok)

done_more : (p : ℕ) (xs : List Activity) (x : Activity) → done_after p (xs ++ x ∷ []) ≡ done (done_after p xs) x
done_more p [] x = refl
done_more p (y ∷ xs) x = done_more (done p y) xs x

some_departed : (n : ℕ) (x : Activity) (k : ℕ) → Some n ≡ departed (Some n) x k
some_departed n Drive k = refl
some_departed n Serve k = refl
some_departed n Wait k = refl
some_departed n Off k = refl
some_departed n Berth k = refl

depart-snoc : (n : ℕ) (xs : List Activity) (x : Activity) → depart_from n (xs ++ x ∷ []) ≡ departed (depart_from n xs) x (n + length xs)
depart-snoc n [] x = ap (λ m. departed None x m) (sym (add-zero n))
depart-snoc n (Drive ∷ xs) x = some_departed n x (n + length (Drive ∷ xs))
depart-snoc n (Serve ∷ xs) x = some_departed n x (n + length (Serve ∷ xs))
depart-snoc n (Wait ∷ xs) x = depart-snoc (n + 1) xs x ∙ ap (λ m. departed (depart_from (n + 1) xs) x m) (let e : n + 1 + length xs ≡ n + suc (length xs) = omega arith in e)
depart-snoc n (Off ∷ xs) x = depart-snoc (n + 1) xs x ∙ ap (λ m. departed (depart_from (n + 1) xs) x m) (let e : n + 1 + length xs ≡ n + suc (length xs) = omega arith in e)
depart-snoc n (Berth ∷ xs) x = depart-snoc (n + 1) xs x ∙ ap (λ m. departed (depart_from (n + 1) xs) x m) (let e : n + 1 + length xs ≡ n + suc (length xs) = omega arith in e)

tried_allowed : {S : Type 0} (problem : Problem S) (is_state : S → ℕ → Type 0) (allowed : Activity → Bool) → IsProblem problem is_state allowed → (s : S) (k : ℕ) (x : Activity) → is_state s k → IsOneOf (Drive ∷ Serve ∷ problem.tries s) x → allowed x ≡ true
tried_allowed problem is_state allowed laws s k x there o = elim o [
  | inl e ↦ subst (λ y. allowed y ≡ true) e (laws.works_allowed Drive refl)
  | inr t ↦ elim t [ inl e ↦ subst (λ y. allowed y ≡ true) e (laws.works_allowed Serve refl) | inr i ↦ (laws.tries_idle s k x there i).1 ]
]

pub way_state : {S : Type 0} (problem : Problem S) (is_state : S → ℕ → Type 0) (allowed : Activity → Bool) (starts : S → Type 0) → IsProblem problem is_state allowed → ((s : S) → starts s → is_state s 0) →
    (root : S) (step : ℕ) (xs : List Activity) (marks : List Mark) (l : Label S) → IsWay problem allowed starts root step xs marks l → is_state l.state step
way_state problem is_state allowed starts laws roots root step xs marks l w =
    subst (is_state l.state) (let e : 0 + 1 * length xs ≡ step = (let f = w.long in omega arith) in e)
    (reached_state 1 is_state problem.nexts laws.next_is xs root 0 marks l.state (roots root w.start) w.path)

pub way_more : {S : Type 0} (problem : Problem S) (is_state : S → ℕ → Type 0) (allowed : Activity → Bool) (starts : S → Type 0) → IsProblem problem is_state allowed → ((s : S) → starts s → is_state s 0) →
    (root : S) (step : ℕ) (xs : List Activity) (marks : List Mark) (l : Label S) (g : Grown S) → IsWay problem allowed starts root step xs marks l → IsOneOf (successors_of problem step l) g → HasBound problem (suc step) g.label →
    IsWay problem allowed starts root (suc step) (xs ++ g.act ∷ []) (marks ++ option_to_list g.mark) g.label
way_more problem is_state allowed starts laws roots root step xs marks l g w o bound =
    let q = grown_from problem step l g o in
    let there = way_state problem is_state allowed starts laws roots root step xs marks l w in
    let ok = tried_allowed problem is_state allowed laws l.state step q.by there q.tried in
    let at : 0 + length xs ≡ step = (let e = w.long in omega arith) in
    let unit : step ≡ 0 + 1 * length xs = (let e = w.long in omega arith) in
    let act : q.by ≡ g.act = ap (λ r. r.act) q.is in
    let mark : q.next.mark ≡ g.mark = ap (λ r. r.mark) q.is in
    subst (λ m. IsWay problem allowed starts root (suc step) (xs ++ g.act ∷ []) (marks ++ option_to_list m) g.label) mark
    (subst (λ x. IsWay problem allowed starts root (suc step) (xs ++ x ∷ []) (marks ++ option_to_list q.next.mark) g.label) act
    (record {
      start = w.start;
      long = (let e = w.long in omega (arith, length-append xs (q.by ∷ [])));
      goes = allowed_more problem allowed 0 0 xs q.by w.goes (subst (λ n. problem.may n (done_after 0 xs) q.by ≡ true) (sym at) (subst (λ p. problem.may step p q.by ≡ true) w.progress q.may)) ok;
      path = subst (Reaches 1 problem.nexts root 0 (xs ++ q.by ∷ []) (marks ++ option_to_list q.next.mark)) (ap (λ r. r.label.state) q.is)
          (reaches-append 1 problem.nexts xs (q.by ∷ []) root 0 marks l.state (option_to_list q.next.mark) q.next.state w.path
          (q.next, subst (λ n. IsOneOf (problem.nexts l.state n q.by) q.next) unit q.follows, [], sym (append-nil (option_to_list q.next.mark)), (refl, refl)));
      progress = sym (ap (λ r. r.label.progress) q.is) ∙ (ap (λ p. done p q.by) w.progress ∙ sym (done_more 0 xs q.by));
      depart = sym (ap (λ r. r.label.depart) q.is) ∙ (ap (λ d. departed d q.by step) w.depart ∙ (ap (λ n. departed (depart_from 0 xs) q.by n) (sym at) ∙ sym (depart-snoc 0 xs q.by)));
      reachable = (l, w.reachable, g, o, refl, bound);
    }))

pub root_way : {S : Type 0} (problem : Problem S) (allowed : Activity → Bool) (starts : S → Type 0) (s : S) (l : Label S) → starts s → root_label s ≡ l → IsWay problem allowed starts s 0 [] [] l
root_way problem allowed starts s l start e = record {
  start = start;
  long = refl;
  goes = tt;
  path = (ap (λ m. m.state) e, refl);
  progress = sym (ap (λ m. m.progress) e);
  depart = sym (ap (λ m. m.depart) e);
  reachable = (s, start, e);
}

-- After a label of sound layers stands a root, by its place, and a way from it.
pub record IsGrownFromRoot {S : Type 0} (problem : Problem S) (allowed : Activity → Bool) (starts : S → Type 0) (roots : List (Root S)) (place step : ℕ) (xs : List Activity) (marks : List Mark) (l : Label S) : Type 0 where
  pub root : Root S
  pub there : slice_get roots place ≡ Some root
  pub way : IsWay problem allowed starts root.state step xs marks l

pub sound_way : {S : Type 0} (problem : Problem S) (is_state : S → ℕ → Type 0) (allowed : Activity → Bool) (starts : S → Type 0) (roots : List (Root S)) (layers : List (List (Kept S))) →
    IsProblem problem is_state allowed → ((s : S) → starts s → is_state s 0) → ((r : Root S) → IsOneOf roots r → starts r.state) → IsSound problem roots layers →
    (step index : ℕ) (k : Kept S) → kept_at layers step index ≡ Some k →
    IsGrownFromRoot problem allowed starts roots (root_of layers step index) step (path_of layers step index) (way_marks layers step index) k.label
sound_way problem is_state allowed starts roots layers laws states begins sound zero index k there =
    let f = sound.first k (one_of_place (layer_at layers 0) index k there) in
    record {
      root = f.root;
      there = ap (λ o. slice_get roots (parent_of o)) there ∙ f.there;
      way = root_way problem allowed starts f.root.state k.label (begins f.root (one_of_place roots k.parent f.root f.there)) (sym f.label);
    }
sound_way problem is_state allowed starts roots layers laws states begins sound (suc step) index k there =
    let one : step + 1 ≡ suc step = add-one step in
    let f = sound.grew step k (subst (λ n. IsOneOf (layer_at layers n) k) (sym one) (one_of_place (layer_at layers (suc step)) index k there)) in
    let w = sound_way problem is_state allowed starts roots layers laws states begins sound step k.parent f.parent f.there in
    let p : path_of layers step k.parent ++ k.act ∷ [] ≡ path_of layers (suc step) index = sym (ap (λ o. path_of layers step (parent_of o) ++ acts_of o) there) in
    let m : way_marks layers step k.parent ++ option_to_list k.mark ≡ way_marks layers (suc step) index = sym (ap (λ o. way_marks layers step (parent_of o) ++ marks_of o) there) in
    record {
      root = w.root;
      there = ap (λ o. slice_get roots (root_of layers step (parent_of o))) there ∙ w.there;
      way = subst (λ ms. IsWay problem allowed starts w.root.state (suc step) (path_of layers (suc step) index) ms k.label) m
          (subst (λ xs. IsWay problem allowed starts w.root.state (suc step) xs (way_marks layers step k.parent ++ option_to_list k.mark) k.label) p
          (way_more problem is_state allowed starts laws states w.root.state step (path_of layers step k.parent) (way_marks layers step k.parent) f.parent.label (record { label = k.label; act = k.act; mark = k.mark }) w.way f.grown
          (subst (λ n. HasBound problem n k.label) one f.has_bound)));
    }

-- ---- the labels of sound layers are distinct reachable labels

sound_state : {S : Type 0} (problem : Problem S) (is_state : S → ℕ → Type 0) (allowed : Activity → Bool) (starts : S → Type 0) (roots : List (Root S)) (layers : List (List (Kept S))) →
    IsProblem problem is_state allowed → ((s : S) → starts s → is_state s 0) → ((r : Root S) → IsOneOf roots r → starts r.state) → IsSound problem roots layers →
    (step : ℕ) (k : Kept S) → IsOneOf (layer_at layers step) k → is_state k.label.state step
sound_state problem is_state allowed starts roots layers laws states begins sound step k h =
    let i = place_of_one (layer_at layers step) k h in
    let b = sound_way problem is_state allowed starts roots layers laws states begins sound step i.0 k i.1 in
    way_state problem is_state allowed starts laws states b.root.state step (path_of layers step i.0) (way_marks layers step i.0) k.label b.way

length-labels : {S : Type 0} (ks : List (Kept S)) → length (labels_of ks) ≡ length ks
length-labels [] = refl
length-labels (k ∷ ks) = ap suc (length-labels ks)

pub count-labels : {S : Type 0} (layers : List (List (Kept S))) → label_count (label_layers layers) ≡ label_count layers
count-labels [] = refl
count-labels (ks ∷ layers) =
    sum_by-cons length (labels_of ks) (label_layers layers) ∙ (ap (λ n. n + label_count (label_layers layers)) (length-labels ks) ∙ (ap (λ n. length ks + n) (count-labels layers) ∙ sym (sum_by-cons length ks layers)))

-- labels none of which has an earlier better one are distinct
distinct_of : {S : Type 0} (problem : Problem S) (is_state : S → ℕ → Type 0) (allowed : Activity → Bool) → IsProblem problem is_state allowed →
    (step : ℕ) (ls : List (Label S)) → ((l : Label S) → IsOneOf ls l → is_state l.state step) → NoneIsBetter problem step ls → AreDistinct ls
distinct_of problem is_state allowed laws step [] states none = tt
distinct_of problem is_state allowed laws step (l ∷ ls) states none = (
  (λ i. let e : is_better problem step l l ≡ false = none.0 l i in
      let f : is_better problem step l l ≡ true = better_itself problem is_state allowed laws step l (states l (inl refl)) in
      let z : true ≡ false = sym f ∙ e in cc),
  distinct_of problem is_state allowed laws step ls (λ m i. states m (inr i)) none.1,
)

pub sound_labels : {S : Type 0} (problem : Problem S) (is_state : S → ℕ → Type 0) (allowed : Activity → Bool) (starts : S → Type 0) (roots : List (Root S)) (layers : List (List (Kept S))) (n : ℕ) →
    IsProblem problem is_state allowed → ((s : S) → starts s → is_state s 0) → ((r : Root S) → IsOneOf roots r → starts r.state) → IsSound problem roots layers → n ≤ label_count layers → HasLabels problem starts n
sound_labels problem is_state allowed starts roots layers n laws states begins sound many = record {
  layers = label_layers layers;
  reachable = λ step l h.
      let q = label_kept (layer_at layers step) l (subst (λ ls. IsOneOf ls l) (layer_labels layers step) h) in
      let i = place_of_one (layer_at layers step) q.0 q.1 in
      subst (IsReachable problem starts step) q.2 (sound_way problem is_state allowed starts roots layers laws states begins sound step i.0 q.0 i.1).way.reachable;
  distinct = λ step. subst AreDistinct (sym (layer_labels layers step))
      (distinct_of problem is_state allowed laws step (labels_of (layer_at layers step))
      (λ l h. let q = label_kept (layer_at layers step) l h in subst (λ m. is_state m.state step) q.2 (sound_state problem is_state allowed starts roots layers laws states begins sound step q.0 q.1))
      (sound.better step));
  count = subst (λ m. n ≤ m) (sym (count-labels layers)) many;
}
