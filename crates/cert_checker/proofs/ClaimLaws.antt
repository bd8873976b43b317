-- The steps of a claim, gathered and looked through.
use Rattle.std.proofs.Common.{◌≡◌, ℕ, ◌+◌, ◌<◌, ◌≤◌, Bool, true, false, List, [], ◌∷◌, ◌++◌, length, take, drop, get_or, replicate, refl, sym, ◌∙◌, ap, subst, arith, append_assoc, length-append}
use Rattle.std.specs.Prelude.{All, if◌then◌else◌}
use Rattle.std.proofs.lemmas.List.Elements.{All-nil, All-cons, All-head, All-tail}
use Rattle.std.proofs.lemmas.List.{take_more, take_all, drop_more, drop_all, take-append-drop, flat_map_more, length-replicate}
use Rattle.duty_core.specs.declared.activity.Activity.{Activity}
use Rattle.duty_core.specs.Params.{allows}
use Rattle.tour_model.specs.declared.tour.Tour.{Tour}
use Rattle.tour_model.specs.Tour.{IsTour}
use Rattle.tour_model.specs.Word.{word_length, may_do}
use Rattle.tour_model.specs.Way.{done, done_after, progresses, GoesFrom}
use Rattle.tour_model.specs.Laws.WayLaws.{may_before}
use Rattle.tour_model.specs.Laws.ServeLaws.{way_serves, serves_way, serves_done}
use Rattle.tour_model.specs.Schedule.{ServesTour, units_of}
use Rattle.cert_text.specs.declared.cert.StepRun.{StepRun}
use Rattle.cert_text.specs.Cert.{acts_of_runs}

-- ---- the steps of the runs

pub acts_more : (runs : List StepRun) (i : ℕ) (run : StepRun) (a b : List Activity) → i < length runs → run ≡ get_or runs i run → a ≡ acts_of_runs (take i runs) → b ≡ a ++ replicate run.count run.act → b ≡ acts_of_runs (take (i + 1) runs)
acts_more runs i run a b lt e h is =
    let more : take (i + 1) runs ≡ take i runs ++ run ∷ [] = take_more runs i run lt ∙ ap (λ z. take i runs ++ z ∷ []) (sym e) in
    is ∙ (ap (λ ys. ys ++ replicate run.count run.act) h ∙ (flat_map_more (λ r. replicate r.count r.act) [] (take i runs) run ∙ ap acts_of_runs (sym more)))

acts_append : (a b : List StepRun) → acts_of_runs (a ++ b) ≡ acts_of_runs a ++ acts_of_runs b
acts_append [] b = refl
acts_append (r ∷ a) b = ap (λ ys. replicate r.count r.act ++ ys) (acts_append a b) ∙ sym (append_assoc (replicate r.count r.act) (acts_of_runs a) (acts_of_runs b))

-- the runs up to one hold no more steps than all
pub acts_long : (runs : List StepRun) (i : ℕ) (run : StepRun) (a : List Activity) → i < length runs → run ≡ get_or runs i run → a ≡ acts_of_runs (take i runs) → length a + run.count ≤ length (acts_of_runs runs)
acts_long runs i run a lt e h =
    let b = a ++ replicate run.count run.act in
    let more : b ≡ acts_of_runs (take (i + 1) runs) = acts_more runs i run a b lt e h refl in
    let split : acts_of_runs runs ≡ b ++ acts_of_runs (drop (i + 1) runs) = ap acts_of_runs (sym (take-append-drop (i + 1) runs)) ∙ (acts_append (take (i + 1) runs) (drop (i + 1) runs) ∙ ap (λ ys. ys ++ acts_of_runs (drop (i + 1) runs)) (sym more)) in
    let n : length (acts_of_runs runs) ≡ length b + length (acts_of_runs (drop (i + 1) runs)) = ap length split ∙ length-append b (acts_of_runs (drop (i + 1) runs)) in
    let m : length b ≡ length a + run.count = length-append a (replicate run.count run.act) ∙ ap (λ k. length a + k) (length-replicate run.count run.act) in
    omega arith

pub acts_whole : (runs : List StepRun) (i : ℕ) (a : List Activity) → length runs ≤ i → a ≡ acts_of_runs (take i runs) → a ≡ acts_of_runs runs
acts_whole runs i a le h = h ∙ ap acts_of_runs (take_all i runs le)

-- ---- the units after a log

pub units_more : (each : ℕ) (log steps : List Activity) (i : ℕ) (x : Activity) (a b : List Activity) → i < length steps → x ≡ get_or steps i x → a ≡ log ++ units_of each (take i steps) → b ≡ a ++ replicate each x → b ≡ log ++ units_of each (take (i + 1) steps)
units_more each log steps i x a b lt e h is =
    let more : take (i + 1) steps ≡ take i steps ++ x ∷ [] = take_more steps i x lt ∙ ap (λ z. take i steps ++ z ∷ []) (sym e) in
    is ∙ (ap (λ ys. ys ++ replicate each x) h ∙ (flat_map_more (λ y. replicate each y) log (take i steps) x ∙ ap (λ ys. log ++ units_of each ys) (sym more)))

-- ---- whether the steps serve the tour

-- What is known of the steps up to a place, after which so much is done.
pub record IsServing (tour : Tour) (steps : List Activity) (i p : ℕ) : Type 0 where
  pub goes_on : GoesFrom tour i p (drop i steps) → GoesFrom tour 0 0 steps
  pub goes_back : GoesFrom tour 0 0 steps → GoesFrom tour i p (drop i steps)
  pub done : done_after p (drop i steps) ≡ done_after 0 steps
  pub usable_on : All (λ x. allows tour.params x ≡ true) (drop i steps) → All (λ x. allows tour.params x ≡ true) steps
  pub usable_back : All (λ x. allows tour.params x ≡ true) steps → All (λ x. allows tour.params x ≡ true) (drop i steps)
  pub within : p ≤ word_length tour

pub serving_first : (tour : Tour) (steps : List Activity) → IsServing tour steps 0 0
serving_first tour steps = record { goes_on = λ h. h; goes_back = λ h. h; done = refl; usable_on = λ h. h; usable_back = λ h. h; within = omega arith }

rest_of : (xs : List Activity) (i : ℕ) (x : Activity) → i < length xs → x ≡ get_or xs i x → drop i xs ≡ x ∷ drop (i + 1) xs
rest_of xs i x lt e = drop_more xs i x lt ∙ ap (λ y. y ∷ drop (i + 1) xs) (sym e)

by_test : (goal p : ℕ) (b : Bool) → p < goal → (if b then p + 1 else p) ≤ goal
by_test goal p true lt = let r : p + 1 ≤ goal = omega arith in r
by_test goal p false lt = let r : p ≤ goal = omega arith in r

pub done_within : (goal p : ℕ) (x : Activity) → p < goal → done p x ≤ goal
done_within goal p x lt = by_test goal p (progresses x) lt

pub serving_more : (tour : Tour) (steps : List Activity) (i p : ℕ) (x : Activity) → i < length steps → x ≡ get_or steps i x → allows tour.params x ≡ true → may_do tour i p x ≡ true → IsServing tour steps i p → IsServing tour steps (i + 1) (done p x)
serving_more tour steps i p x lt e a m h =
    let rest = rest_of steps i x lt e in record {
      goes_on = λ g. h.goes_on (subst (λ ys. GoesFrom tour i p ys) (sym rest) (m, g));
      goes_back = λ g. (subst (λ ys. GoesFrom tour i p ys) rest (h.goes_back g)).1;
      done = ap (done_after p) (sym rest) ∙ h.done;
      usable_on = λ u. h.usable_on (subst (λ ys. All (λ y. allows tour.params y ≡ true) ys) (sym rest) (All-cons (λ y. allows tour.params y ≡ true) x (drop (i + 1) steps) a u));
      usable_back = λ u. All-tail (λ y. allows tour.params y ≡ true) x (drop (i + 1) steps) (subst (λ ys. All (λ y. allows tour.params y ≡ true) ys) rest (h.usable_back u));
      within = done_within (word_length tour) p x (may_before tour i p x m);
    }

unlike : (b : Bool) → b ≡ false → b ≡ true → ⊥
unlike b f t = absurd (let e : true ≡ false = sym t ∙ f in cc)

pub unusable : (tour : Tour) (steps : List Activity) (i p : ℕ) (x : Activity) → i < length steps → x ≡ get_or steps i x → allows tour.params x ≡ false → IsServing tour steps i p → ServesTour tour steps → ⊥
unusable tour steps i p x lt e a h s =
    unlike (allows tour.params x) a (All-head (λ y. allows tour.params y ≡ true) x (drop (i + 1) steps) (subst (λ ys. All (λ y. allows tour.params y ≡ true) ys) (rest_of steps i x lt e) (h.usable_back s.usable)))

pub unmay : (tour : Tour) → IsTour tour → (steps : List Activity) (i p : ℕ) (x : Activity) → i < length steps → x ≡ get_or steps i x → may_do tour i p x ≡ false → IsServing tour steps i p → ServesTour tour steps → ⊥
unmay tour t steps i p x lt e m h s =
    unlike (may_do tour i p x) m (subst (λ ys. GoesFrom tour i p ys) (rest_of steps i x lt e) (h.goes_back (serves_way tour t steps s))).0

pub serving_ends : (tour : Tour) → IsTour tour → (steps : List Activity) (i p : ℕ) → length steps ≤ i → IsServing tour steps i p → p ≡ word_length tour → ServesTour tour steps
serving_ends tour t steps i p le h e =
    let none = drop_all i steps le in
    way_serves tour t steps (h.goes_on (subst (λ ys. GoesFrom tour i p ys) (sym none) tt)) (sym h.done ∙ (ap (done_after p) none ∙ e))
    (h.usable_on (subst (λ ys. All (λ y. allows tour.params y ≡ true) ys) (sym none) (All-nil (λ y. allows tour.params y ≡ true))))

pub ends_serving : (tour : Tour) → IsTour tour → (steps : List Activity) (i p : ℕ) → length steps ≤ i → IsServing tour steps i p → ServesTour tour steps → p ≡ word_length tour
ends_serving tour t steps i p le h s = ap (done_after p) (sym (drop_all i steps le)) ∙ (h.done ∙ serves_done tour t steps s)
