-- A label's successors, put together, and what they are.
use Rattle.std.proofs.Common.{◌≡◌, ℕ, ◌+◌, Bool, true, false, List, [], ◌∷◌, ◌++◌, refl, sym, ◌∙◌, ap, subst, arith, append_assoc}
use Rattle.std.specs.Prelude.{flat_map, map, if◌then◌else◌}
use Rattle.duty_core.specs.declared.activity.Activity.{Activity}
use Rattle.duty_core.specs.declared.activity.Activity.TheVariants.{Drive, Serve}
use Rattle.rule_core.specs.Reach.{idle_list}
use Rattle.rule_core.specs.Machine.{Machine}
use Rattle.rule_core.specs.Book.{IsBook}
use Rattle.tour_model.specs.declared.label.Label.{Label}
use Rattle.cert_text.specs.declared.cover_lists.grown.Grown.{Grown}
use Rattle.tour_model.specs.declared.tour.Tour.{Tour}
use Rattle.tour_model.specs.Tour.{IsTour}
use Rattle.tour_model.specs.Word.{word_length}
use Rattle.tour_model.specs.Laws.WayLaws.{may_before}
use Rattle.cert_text.specs.CoverLists.Laws.ProblemOf.{step_state}
use Rattle.cert_text.specs.CoverLists.Problem.{Problem, grow, grown_by, successors_of}
use Rattle.cert_text.specs.CoverLists.Planning.{state_at, problem_of}
use Rattle.cert_text.specs.CoverLists.Cover.{IsLabelAt}
use Rattle.cert_text.specs.CoverLists.Laws.BetterLaws.{grown_from}
use Rattle.cert_text.specs.CoverLists.Laws.ContinuationLaws.{label_by}
use Rattle.label_extend.specs.Growths.{AreGrownAt}

-- by driving, by service and by each activity to try, one list after the other
pub successors_built : {S : Type 0} (problem : Problem S) (step : ℕ) (l : Label S) (x : Activity) (rest : List Activity) (n a b c d : List (Grown S)) →
    problem.tries l.state ≡ x ∷ rest → n ≡ [] → a ≡ n ++ grown_by problem step l Drive → b ≡ a ++ grown_by problem step l Serve →
    c ≡ b ++ grown_by problem step l x → d ≡ c ++ flat_map (grown_by problem step l) rest → d ≡ successors_of problem step l
unfolding successors_of
successors_built problem step l x rest n a b c d t en ea eb ec ed =
    let by = λ (y : Activity). grown_by problem step l y in
    let f : a ≡ by Drive = ea ∙ ap (λ ys. ys ++ by Drive) en in
    let g : d ≡ ((by Drive ++ by Serve) ++ by x) ++ flat_map by rest = ed ∙ ap (λ ys. ys ++ flat_map by rest) (ec ∙ ap (λ ys. ys ++ by x) (eb ∙ ap (λ ys. ys ++ by Serve) f)) in
    g ∙ (append_assoc (by Drive ++ by Serve) (by x) (flat_map by rest) ∙ (append_assoc (by Drive) (by Serve) (by x ++ flat_map by rest)
    ∙ ap (λ ys. by Drive ++ (by Serve ++ flat_map by ys)) (sym t)))

-- ---- a finished label has none

cond_none : {X : Type 0} (b : Bool) (xs : List X) → (b ≡ true → ⊥) → (if b then xs else []) ≡ []
cond_none true xs h = absurd (h refl)
cond_none false xs h = refl

none_by : {S : Type 0} (problem : Problem S) (step : ℕ) (l : Label S) → ((x : Activity) → problem.may step l.progress x ≡ true → ⊥) → (xs : List Activity) → flat_map (grown_by problem step l) xs ≡ []
none_by problem step l h [] = refl
none_by problem step l h (x ∷ xs) = ap (λ ys. ys ++ flat_map (grown_by problem step l) xs) (cond_none (problem.may step l.progress x) (map (grow l step x) (problem.nexts l.state step x)) (h x)) ∙ none_by problem step l h xs

pub finished_none : {S : Type 0} (tour : Tour) (m : Machine S) (step : ℕ) (l : Label S) → l.progress ≡ word_length tour →
    successors_of (problem_of tour m) step l ≡ []
unfolding successors_of
finished_none tour m step l e =
    none_by (problem_of tour m) step l (λ x may. (let lt = may_before tour step l.progress x may in absurd (omega arith))) (Drive ∷ Serve ∷ idle_list (m.idles l.state))

-- ---- a successor of a label is a label of the next step

pub grown_label : {S : Type 0} (tour : Tour) (m : Machine S) → IsBook tour.params m → IsTour tour →
    (step : ℕ) (l : Label S) → IsLabelAt (state_at tour m) (word_length tour) step l → AreGrownAt (state_at tour m) (word_length tour) (step + 1) (successors_of (problem_of tour m) step l)
grown_label tour m law t step l h g o =
    let b = grown_from (problem_of tour m) step l g o in
    subst (λ k. IsLabelAt (state_at tour m) (word_length tour) (step + 1) k.label) b.is
    (label_by (state_at tour m) (word_length tour) step l.progress l.depart l.state b.next.state b.by (may_before tour step l.progress b.by b.may)
    (record { state = h.state; progress = h.progress; still = h.still; departed = h.departed })
    (step_state tour m law t l.state step b.by b.next h.state b.follows))
