-- Passing labels and valid certificates.
use Rattle.std.proofs.Common.{◌≡◌, ℕ, ◌+◌, ◌<◌, ◌≤◌, false, List, [], ◌∷◌, ◌++◌, length, take, get_or, refl, sym, ◌∙◌, ap, subst, arith, inl, inr, zero, suc}
use Rattle.std.specs.Prelude.{Option, None, Some, map, ◌⊎◌}
use Rattle.std.specs.Option.{option_to_list}
use Rattle.std.proofs.lemmas.Bool.{cases_lt}
use Rattle.std.proofs.lemmas.List.{get_or_past, length-map}
use Rattle.duty_core.specs.declared.activity.Activity.{Activity}
use Rattle.rule_core.specs.Machine.{Machine}
use Rattle.rule_core.specs.Reach.{IsOneOf}
use Rattle.rule_core.specs.Laws.OneOf.{one_of-append}
use Rattle.tour_model.specs.declared.label.Label.{Label}
use Rattle.tour_model.specs.declared.tour.Tour.{Tour}
use Rattle.tour_model.specs.Layer.{layer_at}
use Rattle.tour_model.specs.Word.{word_length}
use Rattle.cert_text.specs.declared.cert.Cert.{Cert}
use Rattle.cert_text.specs.declared.cert.CertLabel.{CertLabel}
use Rattle.cert_text.specs.CoverLists.Problem.{Problem, is_better, root_label}
use Rattle.cert_text.specs.CoverLists.Planning.{problem_by, minute_of, state_at}
use Rattle.cert_text.specs.CoverLists.Cover.{IsCovered, NoneCovers, NoneIsBetter, IsLabelAt, IsPruned}
use Rattle.cert_text.specs.Cert.{AreLabelsOf, AreLayersOf, IsValidCertBy}
use Rattle.cert_checker.specs.Parsed.{label_of, labels_of, there}
use Rattle.cert_checker.specs.Conditions.{Passes, PassUpTo, IsAnsweredFor, IsLongEnough, layer_of, LayersPass}
use Rattle.cert_checker.specs.Verdicts.{RootsHold, ClaimHolds}
use Rattle.cert_checker.proofs.ParsedLaws.{label_read, label_back, in_option}

-- ---- the labels that are there, by their places

pub there_index : {X : Type 0} (os : List (Option X)) (x : X) → IsOneOf (there os) x → (i : ℕ) × (i < length os) × (get_or os i None ≡ Some x)
there_index [] x h = absurd h
there_index (o ∷ os) x h = elim (one_of-append (option_to_list o) (there os) x h) [
  | inl a ↦ (zero, omega arith, in_option o x a)
  | inr b ↦ (let q = there_index os x b in let lt = q.1 in (suc q.0, (let r : suc q.0 < length (o ∷ os) = omega arith in r), q.2))
]

there_get : {X : Type 0} (os : List (Option X)) (i : ℕ) (x : X) → get_or os i None ≡ Some x → IsOneOf (there os) x
there_get [] i x e = absurd (let f : None ≡ Some x = e in cc)
there_get (None ∷ os) zero x e = absurd (let f : None ≡ Some x = e in cc)
there_get (Some y ∷ os) zero x e = inl (let f : Some y ≡ Some x = e in cc)
there_get (None ∷ os) (suc i) x e = there_get os i x e
there_get (Some y ∷ os) (suc i) x e = inr (there_get os i x e)

-- no label has an earlier one that is better, place by place
fresh_none : {S : Type 0} (problem : Problem S) (step : ℕ) (os : List (Option (Label S))) → ((i : ℕ) (l : Label S) → get_or os i None ≡ Some l → NoneCovers problem step (there (take i os)) l) → NoneIsBetter problem step (there os)
fresh_none problem step [] h = tt
fresh_none problem step (None ∷ os) h = fresh_none problem step os (λ i l e. h (suc i) l e)
fresh_none problem step (Some x ∷ os) h = (
  (λ m o. (let q = there_index os m o in h (suc q.0) m q.2 x (inl refl))),
  fresh_none problem step os (λ i l e m o. h (suc i) l e m (inr o)),
)

none_fresh : {S : Type 0} (problem : Problem S) (step : ℕ) (os : List (Option (Label S))) (i : ℕ) (l : Label S) → NoneIsBetter problem step (there os) → get_or os i None ≡ Some l → NoneCovers problem step (there (take i os)) l
none_fresh problem step [] i l h e = absurd (let f : None ≡ Some l = e in cc)
none_fresh problem step (o ∷ os) zero l h e = λ m p. absurd p
none_fresh problem step (None ∷ os) (suc i) l h e = λ m p. none_fresh problem step os i l h e m p
none_fresh problem step (Some x ∷ os) (suc i) l h e = λ m p. elim p [
  | inl eq ↦ subst (λ y. is_better problem step y l ≡ false) eq (h.0 l (there_get os i l e))
  | inr q ↦ none_fresh problem step os i l h.1 e m q
]

-- ---- the layers as lists of labels

read_from : {S : Type 0} → (List ℕ → ℕ → Option S) → Tour → ℕ → ℕ → List (List CertLabel) → List (List (Label S))
read_from state_of tour goal step [] = []
read_from state_of tour goal step (cs ∷ css) = there (labels_of state_of goal (minute_of tour step) cs) ∷ read_from state_of tour goal (step + 1) css

read_at : {S : Type 0} (state_of : List ℕ → ℕ → Option S) (tour : Tour) (goal from k at : ℕ) (css : List (List CertLabel)) → from + k ≡ at → layer_at (read_from state_of tour goal from css) k ≡ there (labels_of state_of goal (minute_of tour at) (layer_at css k))
unfolding read_from
read_at state_of tour goal from k at [] e = refl
read_at state_of tour goal from zero at (cs ∷ css) e = ap (λ n. there (labels_of state_of goal (minute_of tour n) cs)) (let f : from ≡ at = omega arith in f)
read_at state_of tour goal from (suc k) at (cs ∷ css) e = read_at state_of tour goal (from + 1) k at css (omega arith)

some_labels : {S : Type 0} (state_of : List ℕ → ℕ → Option S) (goal at : ℕ) (cs : List CertLabel) → ((i : ℕ) → i < length cs → (l : Label S) × (get_or (labels_of state_of goal at cs) i None ≡ Some l)) →
    AreLabelsOf state_of at cs (there (labels_of state_of goal at cs))
some_labels state_of goal at [] h = refl
some_labels state_of goal at (c ∷ cs) h =
    let q = h zero (omega arith) in
    let r = label_read goal c (state_of c.numbers at) q.0 q.1 in (
      q.0,
      there (labels_of state_of goal at cs),
      ap (λ o. option_to_list o ++ there (labels_of state_of goal at cs)) q.1,
      record { depart = r.depart; progress = r.progress; state = r.state },
      some_labels state_of goal at cs (λ i lt. h (suc i) (omega arith)),
    )

some_layers : {S : Type 0} (state_of : List ℕ → ℕ → Option S) (tour : Tour) (goal from : ℕ) (css : List (List CertLabel)) →
    ((k : ℕ) → k < length css → AreLabelsOf state_of (minute_of tour (from + k)) (layer_at css k) (there (labels_of state_of goal (minute_of tour (from + k)) (layer_at css k)))) →
    AreLayersOf state_of tour from css (read_from state_of tour goal from css)
unfolding read_from
some_layers state_of tour goal from [] h = refl
some_layers state_of tour goal from (cs ∷ css) h = (
  there (labels_of state_of goal (minute_of tour from) cs),
  read_from state_of tour goal (from + 1) css,
  refl,
  subst (λ n. AreLabelsOf state_of (minute_of tour n) cs (there (labels_of state_of goal (minute_of tour n) cs))) (let e : from + 0 ≡ from = omega arith in e) (h zero (omega arith)),
  some_layers state_of tour goal (from + 1) css (λ k lt. subst (λ n. AreLabelsOf state_of (minute_of tour n) (layer_at css k) (there (labels_of state_of goal (minute_of tour n) (layer_at css k))))
      (let e : from + suc k ≡ from + 1 + k = omega arith in e) (h (suc k) (omega arith))),
)

-- ---- from labels that pass

passed : {S : Type 0} (problem : Problem S) (is_state : S → ℕ → Type 0) (target : Option ℕ) (step : ℕ) (earlier next : List (Label S)) (o : Option (Label S)) → Passes problem is_state target step earlier next o → (l : Label S) × (o ≡ Some l)
passed problem is_state target step earlier next None p = absurd p
passed problem is_state target step earlier next (Some l) p = (l, refl)

-- What a label that is there keeps where all labels pass.
record Kept {S : Type 0} (problem : Problem S) (is_state : S → ℕ → Type 0) (target : Option ℕ) (step : ℕ) (earlier next : List (Label S)) (l : Label S) : Type 0 where
  stands : IsLabelAt is_state problem.goal step l
  long : IsLongEnough problem target step l
  fresh : NoneCovers problem step earlier l
  answered : IsAnsweredFor problem target step next l

kept_at : {S : Type 0} (problem : Problem S) (is_state : S → ℕ → Type 0) (target : Option ℕ) (step : ℕ) (os : List (Option (Label S))) (next : List (Label S)) (i : ℕ) (l : Label S) →
    PassUpTo problem is_state target step os next (length os) → i < length os → get_or os i None ≡ Some l → Kept problem is_state target step (there (take i os)) next l
kept_at problem is_state target step os next i l h lt e =
    let p = subst (λ o. Passes problem is_state target step (there (take i os)) next o) e (h i lt) in
    record { stands = p.0; long = p.1; fresh = p.2; answered = p.3 }

within_get : {X : Type 0} (os : List (Option X)) (i : ℕ) (x : X) → get_or os i None ≡ Some x → i < length os
within_get os i x e = elim (cases_lt i (length os)) [ inl lt ↦ lt | inr le ↦ absurd (let f : None ≡ Some x = sym (get_or_past os i None le) ∙ e in cc) ]

-- the labels of any layer pass: past the last there are none
layer_passes : {S : Type 0} (problem : Problem S) (is_state : S → ℕ → Type 0) (state_of : List ℕ → ℕ → Option S) (tour : Tour) (target : Option ℕ) (css : List (List CertLabel)) → LayersPass problem is_state state_of tour target css (length css) →
    (step : ℕ) → PassUpTo problem is_state target step (layer_of state_of tour problem.goal css step) (there (layer_of state_of tour problem.goal css (step + 1))) (length (layer_of state_of tour problem.goal css step))
layer_passes problem is_state state_of tour target css h step i lt =
    let n : length (layer_of state_of tour problem.goal css step) ≡ length (layer_at css step) = length-map (layer_at css step) (label_of state_of problem.goal (minute_of tour step)) in
    elim (cases_lt step (length css)) [
      | inl inside ↦ h step inside i (omega arith)
      | inr past ↦ absurd (let e : length (layer_at css step) ≡ 0 = ap length (get_or_past css step [] past) in omega arith)
    ]

pub valid_from : {S : Type 0} (tour : Tour) (log : List Activity) (m : Machine S) (bound : ℕ → ℕ → S → Option ℕ) (cert : Cert) →
    ClaimHolds tour log cert → RootsHold tour log m cert → LayersPass (problem_by tour m bound) (state_at tour m) m.state_of tour cert.target cert.layers (length cert.layers) → IsValidCertBy tour log m bound cert
unfolding read_from
valid_from {S} tour log m bound cert claim roots h =
    let css = cert.layers in
    let os = λ (step : ℕ). layer_of m.state_of tour (word_length tour) css step in
    let layers = read_from m.state_of tour (word_length tour) 0 css in
    let at : (step : ℕ) → layer_at layers step ≡ there (os step) = λ step. read_at m.state_of tour (word_length tour) 0 step step css (omega arith) in
    let pass = layer_passes (problem_by tour m bound) (state_at tour m) m.state_of tour cert.target css h in
    let kept : (step i : ℕ) (l : Label S) → get_or (os step) i None ≡ Some l → Kept (problem_by tour m bound) (state_at tour m) cert.target step (there (take i (os step))) (there (os (step + 1))) l =
    λ step i l e. kept_at (problem_by tour m bound) (state_at tour m) cert.target step (os step) (there (os (step + 1))) i l (pass step) (within_get (os step) i l e) e in
    record {
      claim = claim;
      layers = layers;
      listed = some_layers m.state_of tour (word_length tour) 0 css (λ k lt. some_labels m.state_of (word_length tour) (minute_of tour (0 + k)) (layer_at css k) (λ i less.
          (let e : 0 + k ≡ k = omega arith in
          let p = h k lt i less in
          let q = passed (problem_by tour m bound) (state_at tour m) cert.target k (there (take i (os k))) (there (os (k + 1))) (get_or (os k) i None) p in
          (q.0, subst (λ n. get_or (labels_of m.state_of (word_length tour) (minute_of tour n) (layer_at css k)) i None ≡ Some q.0) (sym e) q.1))));
      covers = record {
        started = λ s o. subst (λ ls. IsCovered (problem_by tour m bound) 0 ls (root_label s)) (sym (at 0)) (roots s o);
        labels = λ step l o. (let q = there_index (os step) l (subst (λ ls. IsOneOf ls l) (at step) o) in (kept step q.0 l q.2).stands);
        finished = λ step l o e. (let q = there_index (os step) l (subst (λ ls. IsOneOf ls l) (at step) o) in (kept step q.0 l q.2).long e);
        better = λ step. subst (λ ls. NoneIsBetter (problem_by tour m bound) step ls) (sym (at step)) (fresh_none (problem_by tour m bound) step (os step) (λ i l e. (kept step i l e).fresh));
        answered = λ step l o less g i. (let q = there_index (os step) l (subst (λ ls. IsOneOf ls l) (at step) o) in
            subst (λ ls. IsPruned (problem_by tour m bound) cert.target (step + 1) g.label ⊎ IsCovered (problem_by tour m bound) (step + 1) ls g.label) (sym (at (step + 1))) ((kept step q.0 l q.2).answered less g i));
      };
    }

-- ---- from a valid certificate

labels_back : {S : Type 0} (state_of : List ℕ → ℕ → Option S) (goal at : ℕ) (cs : List CertLabel) (ls : List (Label S)) → AreLabelsOf state_of at cs ls → ((l : Label S) → IsOneOf ls l → l.progress ≤ goal) → labels_of state_of goal at cs ≡ map (λ l. Some l) ls
labels_back state_of goal at [] ls h w = ap (map (λ l. Some l)) (sym h)
labels_back state_of goal at (c ∷ cs) ls h w =
    let within : (l : Label _) → IsOneOf (h.0 ∷ h.1) l → l.progress ≤ goal = λ l o. w l (subst (λ ys. IsOneOf ys l) (sym h.2) o) in
    ap (λ o. o ∷ labels_of state_of goal at cs) (label_back state_of goal at c h.0 h.3.depart h.3.progress h.3.state (within h.0 (inl refl)))
    ∙ (ap (λ os. Some h.0 ∷ os) (labels_back state_of goal at cs h.1 h.4 (λ l o. within l (inr o))) ∙ ap (map (λ l. Some l)) (sym h.2))

layers_back : {S : Type 0} (state_of : List ℕ → ℕ → Option S) (tour : Tour) (from k at : ℕ) (css : List (List CertLabel)) (layers : List (List (Label S))) → from + k ≡ at → AreLayersOf state_of tour from css layers →
    AreLabelsOf state_of (minute_of tour at) (layer_at css k) (layer_at layers k)
layers_back state_of tour from k at [] layers e h = ap (λ ls. layer_at ls k) h
layers_back state_of tour from zero at (cs ∷ css) layers e h =
    subst (λ ls. AreLabelsOf state_of (minute_of tour at) cs (layer_at ls zero)) (sym h.2) (subst (λ n. AreLabelsOf state_of (minute_of tour n) cs h.0) (let f : from ≡ at = omega arith in f) h.3)
layers_back state_of tour from (suc k) at (cs ∷ css) layers e h =
    subst (λ ls. AreLabelsOf state_of (minute_of tour at) (layer_at css k) (layer_at ls (suc k))) (sym h.2) (layers_back state_of tour (from + 1) k at css h.1 (omega arith) h.4)

there_some : {X : Type 0} (xs : List X) → there (map (λ x. Some x) xs) ≡ xs
there_some [] = refl
there_some (x ∷ xs) = ap (λ ys. x ∷ ys) (there_some xs)

get_some : {X : Type 0} (xs : List X) (i : ℕ) → i < length xs → (x : X) × (get_or (map (λ x. Some x) xs) i None ≡ Some x)
get_some [] i lt = absurd (omega arith)
get_some (x ∷ xs) zero lt = (x, refl)
get_some (x ∷ xs) (suc i) lt = get_some xs i (omega arith)

-- What a valid certificate's layers tell of one layer.
record IsListed {S : Type 0} (state_of : List ℕ → ℕ → Option S) (tour : Tour) (goal : ℕ) (css : List (List CertLabel)) (layers : List (List (Label S))) (step : ℕ) : Type 0 where
  are : layer_of state_of tour goal css step ≡ map (λ l. Some l) (layer_at layers step)
  there_are : there (layer_of state_of tour goal css step) ≡ layer_at layers step

listed_at : {S : Type 0} (tour : Tour) (log : List Activity) (m : Machine S) (bound : ℕ → ℕ → S → Option ℕ) (cert : Cert) (v : IsValidCertBy tour log m bound cert) (step : ℕ) →
    IsListed m.state_of tour (word_length tour) cert.layers v.layers step
listed_at tour log m bound cert v step =
    let are = labels_back m.state_of (word_length tour) (minute_of tour step) (layer_at cert.layers step) (layer_at v.layers step) (layers_back m.state_of tour 0 step step cert.layers v.layers (omega arith) v.listed) (λ l o. (v.covers.labels step l o).progress) in
    record { are = are; there_are = ap there are ∙ there_some (layer_at v.layers step) }

pub valid_roots : {S : Type 0} (tour : Tour) (log : List Activity) (m : Machine S) (bound : ℕ → ℕ → S → Option ℕ) (cert : Cert) → IsValidCertBy tour log m bound cert →
    RootsHold tour log m cert
valid_roots tour log m bound cert v s o =
    subst (λ ls. IsCovered (problem_by tour m bound) 0 ls (root_label s)) (sym (listed_at tour log m bound cert v 0).there_are) (v.covers.started s o)

-- each label of a valid certificate passes
pub valid_passes : {S : Type 0} (tour : Tour) (log : List Activity) (m : Machine S) (bound : ℕ → ℕ → S → Option ℕ) (cert : Cert) → IsValidCertBy tour log m bound cert →
    (step i : ℕ) → i < length (layer_of m.state_of tour (word_length tour) cert.layers step) →
    Passes (problem_by tour m bound) (state_at tour m) cert.target step (there (take i (layer_of m.state_of tour (word_length tour) cert.layers step))) (there (layer_of m.state_of tour (word_length tour) cert.layers (step + 1))) (get_or (layer_of m.state_of tour (word_length tour) cert.layers step) i None)
valid_passes tour log m bound cert v step i lt =
    let os = layer_of m.state_of tour (word_length tour) cert.layers step in
    let ls = layer_at v.layers step in
    let here = listed_at tour log m bound cert v step in
    let ahead = listed_at tour log m bound cert v (step + 1) in
    let n : length os ≡ length ls = ap length here.are ∙ length-map ls (λ l. Some l) in
    let q = get_some ls i (omega arith) in
    let e : get_or os i None ≡ Some q.0 = ap (λ ys. get_or ys i None) here.are ∙ q.1 in
    let o : IsOneOf ls q.0 = subst (λ ys. IsOneOf ys q.0) here.there_are (there_get os i q.0 e) in
    subst (λ p. Passes (problem_by tour m bound) (state_at tour m) cert.target step (there (take i os)) (there (layer_of m.state_of tour (word_length tour) cert.layers (step + 1))) p) (sym e) (
      v.covers.labels step q.0 o,
      v.covers.finished step q.0 o,
      none_fresh (problem_by tour m bound) step os i q.0 (subst (λ ys. NoneIsBetter (problem_by tour m bound) step ys) (sym here.there_are) (v.covers.better step)) e,
      (λ less g k. subst (λ ys. IsPruned (problem_by tour m bound) cert.target (step + 1) g.label ⊎ IsCovered (problem_by tour m bound) (step + 1) ys g.label) (sym ahead.there_are) (v.covers.answered step q.0 o less g k)),
    )
