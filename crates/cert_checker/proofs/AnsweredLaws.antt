-- Successors put together, answered one by one.
use Rattle.std.proofs.Common.{◌≡◌, ℕ, ◌+◌, ◌*◌, Bool, true, false, List, [], ◌∷◌, ◌++◌, length, replicate, refl, sym, ◌∙◌, ap, subst, inl, inr, Decides, arith}
use Rattle.std.specs.Prelude.{Option, None, Some, map, if◌then◌else◌, ◌-◌, ◌≤◌}
use Rattle.std.specs.Option.{option_to_list}
use Rattle.duty_core.specs.declared.activity.Activity.{Activity}
use Rattle.duty_core.specs.declared.activity.Activity.TheVariants.{Drive, Serve}
use Rattle.duty_core.specs.Params.{unit_minutes}
use Rattle.rule_core.specs.declared.nexts.Next.{Next}
use Rattle.rule_core.specs.declared.nexts.Nexts.{Nexts}
use Rattle.rule_core.specs.Reach.{IsOneOf, Reaches, listed}
use Rattle.rule_core.specs.Laws.ReachLaws.{reached_state}
use Rattle.rule_core.specs.Laws.OneOf.{one_of-append, one_of-append_left, one_of-append_right, one_of-map, one_of_map}
use Rattle.tour_model.specs.declared.label.Label.{Label}
use Rattle.tour_model.specs.declared.tour.Tour.{Tour}
use Rattle.tour_model.specs.Tour.{IsTour}
use Rattle.tour_model.specs.Schedule.{step_units}
use Rattle.tour_model.specs.Way.{done}
use Rattle.cert_text.specs.declared.cover_lists.grown.Grown.{Grown}
use Rattle.cert_text.specs.CoverLists.Problem.{Problem, departed, grow, grown_by, successors_of}
use Rattle.cert_text.specs.CoverLists.Planning.{minute_of}
use Rattle.cert_text.specs.CoverLists.Laws.ProblemOf.{minute_more}
use Rattle.cert_text.specs.CoverLists.Laws.BetterLaws.{grown_from, grown_may, successor_by}
use Rattle.cert_text.specs.CoverLists.Cover.{IsPrunedAt, IsPruned, IsCovered}
use Rattle.cert_checker.proofs.LabelLaws.{not_so}
use Rattle.tour_model.specs.Laws.WindowLaws.{IsBy}
use Rattle.cert_checker.specs.declared.answered.Made.{Made}
use Rattle.cert_checker.specs.Conditions.{AreAnswered, IsPrunedOrCovered}
use Rattle.cert_checker.specs.Made.{made_label, AreStatesAnswered}

-- ---- the states of a step, one by one

-- what is not pruned is answered where it is covered
pub unpruned_covered : {S : Type 0} (problem : Problem S) (target : Option ℕ) (step : ℕ) (layer : List (Label S)) (l : Label S) (b : Bool) → (IsPruned problem target step l → ⊥) → Decides b (IsCovered problem step layer l) → Decides b (IsPrunedOrCovered problem target step layer l)
unpruned_covered problem target step layer l b off d = ((λ t. inr (d.0 t)), (λ h. elim h [ inl p ↦ absurd (off p) | inr c ↦ d.1 c ]))

answered_both : {S : Type 0} (problem : Problem S) (target : Option ℕ) (step : ℕ) (layer : List (Label S)) (made : Made) (a b : List (Next S)) → AreStatesAnswered problem target step layer made a → AreStatesAnswered problem target step layer made b → AreStatesAnswered problem target step layer made (a ++ b)
answered_both problem target step layer made a b h k n o = elim (one_of-append a b n o) [ inl x ↦ h n x | inr y ↦ k n y ]

answered_left : {S : Type 0} (problem : Problem S) (target : Option ℕ) (step : ℕ) (layer : List (Label S)) (made : Made) (a b : List (Next S)) → AreStatesAnswered problem target step layer made (a ++ b) → AreStatesAnswered problem target step layer made a
answered_left problem target step layer made a b h n o = h n (one_of-append_left a b n o)

answered_right : {S : Type 0} (problem : Problem S) (target : Option ℕ) (step : ℕ) (layer : List (Label S)) (made : Made) (a b : List (Next S)) → AreStatesAnswered problem target step layer made (a ++ b) → AreStatesAnswered problem target step layer made b
answered_right problem target step layer made a b h n o = h n (one_of-append_right a b n o)

pub three_answered : {S : Type 0} (problem : Problem S) (target : Option ℕ) (step : ℕ) (layer : List (Label S)) (made : Made) (n : Nexts S) → AreStatesAnswered problem target step layer made (option_to_list n.a) → AreStatesAnswered problem target step layer made (option_to_list n.b) →
    AreStatesAnswered problem target step layer made (option_to_list n.c) → AreStatesAnswered problem target step layer made (listed n)
three_answered problem target step layer made n x y z =
    let a = option_to_list n.a in let b = option_to_list n.b in let c = option_to_list n.c in
    answered_both problem target step layer made a (b ++ c) x (answered_both problem target step layer made b c y z)

-- Each of the three is answered.
pub record AreThree {S : Type 0} (problem : Problem S) (target : Option ℕ) (step : ℕ) (layer : List (Label S)) (made : Made) (n : Nexts S) : Type 0 where
  pub a : AreStatesAnswered problem target step layer made (option_to_list n.a)
  pub b : AreStatesAnswered problem target step layer made (option_to_list n.b)
  pub c : AreStatesAnswered problem target step layer made (option_to_list n.c)

pub answered_three : {S : Type 0} (problem : Problem S) (target : Option ℕ) (step : ℕ) (layer : List (Label S)) (made : Made) (n : Nexts S) → AreStatesAnswered problem target step layer made (listed n) → AreThree problem target step layer made n
answered_three problem target step layer made n h =
    let a = option_to_list n.a in let b = option_to_list n.b in let c = option_to_list n.c in
    let r = answered_right problem target step layer made a (b ++ c) h in
    record { a = answered_left problem target step layer made a (b ++ c) h; b = answered_left problem target step layer made b c r; c = answered_right problem target step layer made b c r }

-- one state
pub one_answered : {S : Type 0} (problem : Problem S) (target : Option ℕ) (step : ℕ) (layer : List (Label S)) (made : Made) (n : Next S) (b : Bool) → Decides b (IsPrunedOrCovered problem target step layer (made_label made n.state)) →
    Decides b (AreStatesAnswered problem target step layer made (n ∷ []))
one_answered problem target step layer made n b d = (
  (λ t m o. elim o [ inl f ↦ subst (λ k. IsPrunedOrCovered problem target step layer (made_label made k.state)) f (d.0 t) | inr z ↦ absurd z ]),
  (λ a. d.1 (a n (inl refl))),
)

-- a later bound prunes what an earlier one does
pub pruned_later : (target depart early bound : Option ℕ) → ((e : ℕ) → bound ≡ Some e → IsBy early e) → IsPrunedAt target depart early → IsPrunedAt target depart bound
pruned_later target depart early None by h = tt
pruned_later target depart None (Some e) by h = absurd (let z = (by e refl).is in cc)
pruned_later target None (Some a) (Some e) by h = absurd h
pruned_later None (Some d) (Some a) (Some e) by h = absurd h
pruned_later (Some t) (Some d) (Some a) (Some e) by h =
    let q = by e refl in
    let f : a ≡ q.at = (let z = q.is in cc) in
    let le = q.by in
    let takes : t ≤ a - d = h in
    (let r : t ≤ e - d = omega arith in r)

-- ---- by each activity

pub not_by : {S : Type 0} (problem : Problem S) (target : Option ℕ) (step : ℕ) (layer : List (Label S)) (l : Label S) (x : Activity) (from : ℕ) → problem.may from l.progress x ≡ false → AreAnswered problem target step layer (grown_by problem from l x)
not_by problem target step layer l x from e = rw e (λ g o. absurd o)

pub by_nexts : {S : Type 0} (problem : Problem S) (step : ℕ) (l : Label S) (x : Activity) (ns : List (Next S)) → problem.may step l.progress x ≡ true → ns ≡ problem.nexts l.state step x → map (grow l step x) ns ≡ grown_by problem step l x
by_nexts problem step l x ns m e = rw m (ap (map (grow l step x)) e)

-- all of them
pub all_answered : {S : Type 0} (problem : Problem S) (target : Option ℕ) (step : ℕ) (layer : List (Label S)) (l : Label S) (from : ℕ) (xs : List Activity) → problem.tries l.state ≡ xs →
    ((x : Activity) → IsOneOf (Drive ∷ Serve ∷ xs) x → AreAnswered problem target step layer (grown_by problem from l x)) → AreAnswered problem target step layer (successors_of problem from l)
all_answered problem target step layer l from xs t h g o =
    let b = grown_from problem from l g o in
    h b.by (subst (λ ys. IsOneOf (Drive ∷ Serve ∷ ys) b.by) t b.tried) g (subst (λ m. IsOneOf (grown_by problem from l b.by) m) b.is (grown_may problem from l b.by b.next b.may b.follows))

pub answered_by : {S : Type 0} (problem : Problem S) (target : Option ℕ) (step : ℕ) (layer : List (Label S)) (l : Label S) (from : ℕ) (xs : List Activity) (x : Activity) → problem.tries l.state ≡ xs → IsOneOf (Drive ∷ Serve ∷ xs) x →
    AreAnswered problem target step layer (successors_of problem from l) → AreAnswered problem target step layer (grown_by problem from l x)
answered_by problem target step layer l from xs x t o h g i = h g (successor_by problem from l x g (subst (λ ys. IsOneOf (Drive ∷ Serve ∷ ys) x) (sym t) o) i)

-- where those by one activity are not answered
pub unanswered : {S : Type 0} (problem : Problem S) (target : Option ℕ) (step : ℕ) (layer : List (Label S)) (l : Label S) (from : ℕ) (xs : List Activity) (x : Activity) (b : Bool) → problem.tries l.state ≡ xs → IsOneOf (Drive ∷ Serve ∷ xs) x →
    Decides b (AreAnswered problem target step layer (grown_by problem from l x)) → b ≡ false → Decides false (AreAnswered problem target step layer (successors_of problem from l))
unanswered problem target step layer l from xs x b t o d e = (
  (λ f. absurd (let g : false ≡ true = f in cc)),
  (λ h. absurd (not_so b d e (answered_by problem target step layer l from xs x t o h))),
)

-- ---- the states of the successors

pub advanced_states : {S : Type 0} (tour : Tour) (unit : ℕ) (is_state : S → ℕ → Type 0) (nexts : S → ℕ → Activity → List (Next S)) (advances : S → ℕ → Activity → ℕ → List (Next S)) → IsTour tour → unit_minutes tour.params ≡ unit →
    ((s : S) (at : ℕ) (x : Activity) (n : Next S) → is_state s at → IsOneOf (nexts s at x) n → is_state n.state (at + unit)) →
    ((s : S) (at : ℕ) (x : Activity) (n : ℕ) (t : Next S) → is_state s at → IsOneOf (advances s at x n) t → Reaches unit nexts s at (replicate n x) (option_to_list t.mark) t.state) →
    (s : S) (step : ℕ) (x : Activity) (n : Next S) → is_state s (minute_of tour step) → IsOneOf (advances s (minute_of tour step) x (step_units tour)) n → is_state n.state (minute_of tour (step + 1))
advanced_states tour unit is_state nexts advances t one next reach s step x n i o =
    let each = step_units tour in
    let e : minute_of tour step + unit * length (replicate each x) ≡ minute_of tour (step + 1) = ap (λ u. minute_of tour step + u * length (replicate each x)) (sym one) ∙ minute_more tour t step x in
    subst (is_state n.state) e (reached_state unit is_state nexts next (replicate each x) s (minute_of tour step) (option_to_list n.mark) n.state i (reach s (minute_of tour step) x each n i o))

-- ---- the successors by an activity

in_test : {X : Type 0} (b : Bool) (xs : List X) (x : X) → IsOneOf (if b then xs else []) x → IsOneOf xs x
in_test true xs x o = o
in_test false xs x o = absurd o

in_grown : {S : Type 0} (problem : Problem S) (step : ℕ) (l : Label S) (x : Activity) (g : Grown S) → IsOneOf (grown_by problem step l x) g → (n : Next S) × IsOneOf (problem.nexts l.state step x) n × (grow l step x n ≡ g)
in_grown problem step l x g o = one_of-map (grow l step x) (problem.nexts l.state step x) g (in_test (problem.may step l.progress x) (map (grow l step x) (problem.nexts l.state step x)) g o)

label_grown : {S : Type 0} (step : ℕ) (l : Label S) (x : Activity) (n : Next S) (depart : Option ℕ) (progress : ℕ) → depart ≡ departed l.depart x step → progress ≡ done l.progress x → record { depart = depart; progress = progress; state = n.state } ≡ (grow l step x n).label
label_grown step l x n depart progress d p =
    ap (λ o. record { depart = o; progress = progress; state = n.state }) d ∙ ap (λ k. record { depart = departed l.depart x step; progress = k; state = n.state }) p

-- where they are pruned
pub off_answered : {S : Type 0} (problem : Problem S) (target : Option ℕ) (step : ℕ) (layer : List (Label S)) (l : Label S) (x : Activity) →
    ((n : Next S) → IsOneOf (problem.nexts l.state step x) n → IsPruned problem target (step + 1) (grow l step x n).label) → AreAnswered problem target (step + 1) layer (grown_by problem step l x)
off_answered problem target step layer l x h g o =
    let q = in_grown problem step l x g o in
    inl (subst (λ k. IsPruned problem target (step + 1) k.label) q.2 (h q.0 q.1))

-- where it is asked of each
pub made_answered : {S : Type 0} (problem : Problem S) (target : Option ℕ) (step : ℕ) (layer : List (Label S)) (l : Label S) (x : Activity) (made : Made) (ns : List (Next S)) (b : Bool) → made.depart ≡ departed l.depart x step → made.progress ≡ done l.progress x →
    problem.may step l.progress x ≡ true → ns ≡ problem.nexts l.state step x → Decides b (AreStatesAnswered problem target (step + 1) layer made ns) → Decides b (AreAnswered problem target (step + 1) layer (grown_by problem step l x))
made_answered problem target step layer l x made ns b d p may e c = (
  (λ t g o. (
      let q = in_grown problem step l x g o in
      let here = c.0 t q.0 (subst (λ ys. IsOneOf ys q.0) (sym e) q.1) in
      subst (λ k. IsPrunedOrCovered problem target (step + 1) layer k.label) q.2 (subst (λ k. IsPrunedOrCovered problem target (step + 1) layer k) (label_grown step l x q.0 made.depart made.progress d p) here)
      )),
  (λ h. c.1 (λ n i. (
      let g = grow l step x n in
      let o : IsOneOf (grown_by problem step l x) g = subst (λ gs. IsOneOf gs g) (by_nexts problem step l x ns may e) (one_of_map (grow l step x) ns n i) in
      subst (λ k. IsPrunedOrCovered problem target (step + 1) layer k) (sym (label_grown step l x n made.depart made.progress d p)) (h g o)
      ))),
)

-- by driving, by service and by one or two idle activities
pub by_three : {S : Type 0} (problem : Problem S) (target : Option ℕ) (step : ℕ) (layer : List (Label S)) (l : Label S) (from : ℕ) (a x : Activity) → AreAnswered problem target step layer (grown_by problem from l Drive) → AreAnswered problem target step layer (grown_by problem from l Serve) →
    AreAnswered problem target step layer (grown_by problem from l a) → IsOneOf (Drive ∷ Serve ∷ a ∷ []) x → AreAnswered problem target step layer (grown_by problem from l x)
by_three problem target step layer l from a x d s h o = elim o [
  | inl e ↦ subst (λ y. AreAnswered problem target step layer (grown_by problem from l y)) e d
  | inr p ↦ elim p [
    | inl e ↦ subst (λ y. AreAnswered problem target step layer (grown_by problem from l y)) e s
    | inr q ↦ elim q [ inl e ↦ subst (λ y. AreAnswered problem target step layer (grown_by problem from l y)) e h | inr z ↦ absurd z ]
  ]
]

pub by_four : {S : Type 0} (problem : Problem S) (target : Option ℕ) (step : ℕ) (layer : List (Label S)) (l : Label S) (from : ℕ) (a b x : Activity) → AreAnswered problem target step layer (grown_by problem from l Drive) → AreAnswered problem target step layer (grown_by problem from l Serve) →
    AreAnswered problem target step layer (grown_by problem from l a) → AreAnswered problem target step layer (grown_by problem from l b) → IsOneOf (Drive ∷ Serve ∷ a ∷ b ∷ []) x → AreAnswered problem target step layer (grown_by problem from l x)
by_four problem target step layer l from a b x d s h k o = elim o [
  | inl e ↦ by_three problem target step layer l from a x d s h (inl e)
  | inr p ↦ elim p [
    | inl e ↦ by_three problem target step layer l from a x d s h (inr (inl e))
    | inr q ↦ elim q [
      | inl e ↦ by_three problem target step layer l from a x d s h (inr (inr (inl e)))
      | inr r ↦ elim r [ inl e ↦ subst (λ y. AreAnswered problem target step layer (grown_by problem from l y)) e k | inr z ↦ absurd z ]
    ]
  ]
]
