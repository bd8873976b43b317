-- The conditions on a label, put together.
use Rattle.std.proofs.Common.{◌≡◌, ℕ, ◌+◌, ◌<◌, ◌≤◌, Bool, true, false, List, [], ◌∷◌, ◌++◌, length, take, drop, get_or, sym, ◌∙◌, ap, subst, arith, Decides, inl, inr}
use Rattle.std.specs.Prelude.{Option, None}
use Rattle.std.specs.Option.{option_to_list}
use Rattle.std.proofs.lemmas.Bool.{cases_lt}
use Rattle.std.proofs.lemmas.List.{take-append-drop, take_more, length-map}
use Rattle.std.proofs.lemmas.List.Sums.{sum_by_more}
use Rattle.rule_core.specs.Reach.{IsOneOf}
use Rattle.rule_core.specs.Laws.OneOf.{one_of-append, one_of-append_left, one_of-flat_map, one_of_flat_map}
use Rattle.tour_model.specs.declared.label.Label.{Label}
use Rattle.tour_model.specs.Layer.{layer_at}
use Rattle.cert_text.specs.declared.cert.CertLabel.{CertLabel}
use Rattle.cert_text.specs.CoverLists.Problem.{Problem}
use Rattle.cert_text.specs.CoverLists.Cover.{IsLabelAt, IsCovered, NoneCovers}
use Rattle.tour_model.specs.declared.tour.Tour.{Tour}
use Rattle.tour_model.specs.Word.{word_length}
use Rattle.cert_text.specs.CoverLists.Planning.{minute_of}
use Rattle.cert_checker.specs.declared.layer.LabelFault.{LabelFault}
use Rattle.cert_checker.specs.declared.verdict.Rejection.{Rejection}
use Rattle.cert_checker.specs.Parsed.{there, label_of, labels_of, AreStatesIn, HasLeft}
use Rattle.cert_checker.proofs.ParsedLaws.{uncovered}
use Rattle.cert_checker.specs.Conditions.{Passes, PassUpTo, IsFirstFault, IsFirstLabel, LayerPasses, LayersPass, layer_of, lines_before}

pub label_from : {S : Type 0} (is_state : S → ℕ → Type 0) (goal step : ℕ) (l : Label S) → is_state l.state step → l.progress ≤ goal → HasLeft step l.progress l.depart → IsLabelAt is_state goal step l
label_from is_state goal step l i w h = record { state = i; progress = w; still = h.still; departed = h.departed }

pub label_left : {S : Type 0} (is_state : S → ℕ → Type 0) (goal step : ℕ) (l : Label S) → IsLabelAt is_state goal step l → HasLeft step l.progress l.depart
label_left is_state goal step l h = record { still = h.still; departed = h.departed }

pub not_so : {P : Type 0} (b : Bool) → Decides b P → b ≡ false → P → ⊥
not_so b d e p = absurd (let f : true ≡ false = sym (d.1 p) ∙ e in cc)

-- no label is better than this one, where that was asked of an equal one
pub none_better : {S : Type 0} (problem : Problem S) (step : ℕ) (layer : List (Label S)) (a l : Label S) (b : Bool) → a ≡ l → Decides b (IsCovered problem step layer a) → b ≡ false → NoneCovers problem step layer l
none_better problem step layer a l b e d f = uncovered problem step layer l (subst (λ k. IsCovered problem step layer k → ⊥) e (not_so b d f))

-- those before a place are among all
pub states_before : {S : Type 0} (is_state : S → Type 0) (os : List (Option (Label S))) (i : ℕ) → AreStatesIn is_state os → AreStatesIn is_state (take i os)
states_before is_state os i h l o =
    let q = one_of-flat_map option_to_list (take i os) l o in
    let all : IsOneOf os q.0 = subst (λ ys. IsOneOf ys q.0) (take-append-drop i os) (one_of-append_left (take i os) (drop i os) q.0 q.1) in
    h l (one_of_flat_map option_to_list os q.0 l all q.2)

-- one label more
pub pass_first : {S : Type 0} (problem : Problem S) (is_state : S → ℕ → Type 0) (target : Option ℕ) (step : ℕ) (os : List (Option (Label S))) (next : List (Label S)) → PassUpTo problem is_state target step os next 0
pass_first problem is_state target step os next i lt = absurd (omega arith)

pub pass_more : {S : Type 0} (problem : Problem S) (is_state : S → ℕ → Type 0) (target : Option ℕ) (step : ℕ) (os : List (Option (Label S))) (next : List (Label S)) (n : ℕ) → PassUpTo problem is_state target step os next n →
    Passes problem is_state target step (there (take n os)) next (get_or os n None) → PassUpTo problem is_state target step os next (n + 1)
pass_more problem is_state target step os next n h p i lt = elim (cases_lt i n) [
  | inl less ↦ h i less
  | inr more ↦ (let e : n ≡ i = omega arith in subst (λ k. Passes problem is_state target step (there (take k os)) next (get_or os k None)) e p)
]

pub pass_all : {S : Type 0} (problem : Problem S) (is_state : S → ℕ → Type 0) (target : Option ℕ) (step : ℕ) (os : List (Option (Label S))) (next : List (Label S)) (n m : ℕ) → m ≤ n → PassUpTo problem is_state target step os next n → PassUpTo problem is_state target step os next m
pass_all problem is_state target step os next n m le h i lt = h i (omega arith)

-- the lines of one layer more
pub lines_more : (layers : List (List CertLabel)) (step : ℕ) → step < length layers → lines_before layers (step + 1) ≡ lines_before layers step + (length (layer_at layers step) + 1)
lines_more layers step lt = sum_by_more (λ cs. length cs + 1) layers step [] lt

-- what is read of a layer
pub read_is : {S : Type 0} (state_of : List ℕ → ℕ → Option S) (tour : Tour) (goal step : ℕ) (ls layers : List (List CertLabel)) (items : List (Option (Label S))) → items ≡ labels_of state_of goal (minute_of tour step) (layer_at ls step) → goal ≡ word_length tour → ls ≡ layers →
    items ≡ layer_of state_of tour (word_length tour) layers step
read_is state_of tour goal step ls layers items e n l = e ∙ (ap (λ k. labels_of state_of k (minute_of tour step) (layer_at ls step)) n ∙ ap (λ ys. labels_of state_of (word_length tour) (minute_of tour step) (layer_at ys step)) l)

-- one layer more
pub layers_more : {S : Type 0} (problem : Problem S) (is_state : S → ℕ → Type 0) (state_of : List ℕ → ℕ → Option S) (tour : Tour) (target : Option ℕ) (layers : List (List CertLabel)) (step : ℕ) (os next : List (Option (Label S))) → LayersPass problem is_state state_of tour target layers step →
    os ≡ layer_of state_of tour problem.goal layers step → next ≡ layer_of state_of tour problem.goal layers (step + 1) → PassUpTo problem is_state target step os (there next) (length os) → LayersPass problem is_state state_of tour target layers (step + 1)
layers_more problem is_state state_of tour target layers step os next h e f p k lt = elim (cases_lt k step) [
  | inl less ↦ h k less
  | inr more ↦ (
      let same : step ≡ k = omega arith in
      let n : length os ≡ length (layer_at layers step) = ap length e ∙ length-map (layer_at layers step) (label_of state_of problem.goal (minute_of tour step)) in
      let here : LayerPasses problem is_state state_of tour target layers step (length (layer_at layers step)) =
      subst (λ m. LayerPasses problem is_state state_of tour target layers step m) n (subst (λ ys. PassUpTo problem is_state target step ys (there (layer_of state_of tour problem.goal layers (step + 1))) (length os)) e
      (subst (λ ys. PassUpTo problem is_state target step os (there ys) (length os)) f p)) in
      subst (λ j. LayerPasses problem is_state state_of tour target layers j (length (layer_at layers j))) same here
      )
]

pub layers_whole : {S : Type 0} (problem : Problem S) (is_state : S → ℕ → Type 0) (state_of : List ℕ → ℕ → Option S) (tour : Tour) (target : Option ℕ) (layers : List (List CertLabel)) (step n : ℕ) → n ≤ step → LayersPass problem is_state state_of tour target layers step →
    LayersPass problem is_state state_of tour target layers n
layers_whole problem is_state state_of tour target layers step n le h k lt = h k (omega arith)

-- a first fault of a layer, after layers that pass
pub fault_found : {S : Type 0} (problem : Problem S) (is_state : S → ℕ → Type 0) (state_of : List ℕ → ℕ → Option S) (tour : Tour) (target : Option ℕ) (layers : List (List CertLabel)) (first step line : ℕ) (os next : List (Option (Label S))) (f : LabelFault) (r : Rejection) →
    step < length layers → LayersPass problem is_state state_of tour target layers step → os ≡ layer_of state_of tour problem.goal layers step → next ≡ layer_of state_of tour problem.goal layers (step + 1) →
    IsFirstFault problem is_state target step os (there next) f → line ≡ first + lines_before layers step → r.reason ≡ f.reason → r.line ≡ line + f.index + 1 → IsFirstLabel problem is_state state_of tour target layers first r
fault_found problem is_state state_of tour target layers first step line os next f r lt h e n found l same at = record {
  step = step;
  fault = f;
  inside = lt;
  before = h;
  here = subst (λ ys. IsFirstFault problem is_state target step ys (there (layer_of state_of tour problem.goal layers (step + 1))) f) e (subst (λ ys. IsFirstFault problem is_state target step os (there ys) f) n found);
  reason = same;
  line = at ∙ ap (λ k. k + f.index + 1) l;
}

-- what holds of each item so far, and of one more
pub each_more : {X : Type 0} (P : X → Type 0) (xs : List X) (i : ℕ) (x : X) → i < length xs → x ≡ get_or xs i x → ((y : X) → IsOneOf (take i xs) y → P y) → P x → (y : X) → IsOneOf (take (i + 1) xs) y → P y
each_more P xs i x lt e h p y o =
    let more : take (i + 1) xs ≡ take i xs ++ x ∷ [] = take_more xs i x lt ∙ ap (λ z. take i xs ++ z ∷ []) (sym e) in
    elim (one_of-append (take i xs) (x ∷ []) y (subst (λ ys. IsOneOf ys y) more o)) [
      | inl a ↦ h y a
      | inr q ↦ elim q [ inl f ↦ subst P f p | inr z ↦ absurd z ]
    ]
