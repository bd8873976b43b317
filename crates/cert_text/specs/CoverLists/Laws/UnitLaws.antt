-- A way over steps is a way over the units of those steps.
use Rattle.std.proofs.Common.{ℕ, ◌+◌, List, [], ◌∷◌, ◌++◌, replicate, sym, ◌∙◌, ap, subst}
use Rattle.std.specs.Option.{option_to_list}
use Rattle.duty_core.specs.declared.activity.Activity.{Activity}
use Rattle.duty_core.specs.declared.mark.Mark.{Mark}
use Rattle.duty_core.specs.Params.{unit_minutes}
use Rattle.rule_core.specs.Reach.{Reaches}
use Rattle.rule_core.specs.Laws.ReachLaws.{reaches-append, reaches_parted}
use Rattle.rule_core.specs.Machine.{Machine}
use Rattle.rule_core.specs.Book.{IsBook}
use Rattle.tour_model.specs.declared.tour.Tour.{Tour}
use Rattle.tour_model.specs.Tour.{IsTour}
use Rattle.tour_model.specs.Schedule.{units_of, step_units}
use Rattle.cert_text.specs.CoverLists.Planning.{minute_of}
use Rattle.cert_text.specs.CoverLists.Laws.ProblemOf.{minute_more, step_state}

-- from steps to units
pub units_reached : {S : Type 0} (tour : Tour) (m : Machine S) → IsBook tour.params m → IsTour tour →
    (xs : List Activity) (s : S) (k : ℕ) (marks : List Mark) (t : S) → m.is_state s (minute_of tour k) →
    Reaches 1 (λ s k x. m.advances s (minute_of tour k) x (step_units tour)) s k xs marks t → Reaches (unit_minutes tour.params) m.nexts s (minute_of tour k) (units_of (step_units tour) xs) marks t
units_reached tour m law i [] s k marks t there r = r
units_reached tour m law i (x ∷ xs) s k marks t there r =
    let n = r.0 in
    let unit = unit_minutes tour.params in
    let each = step_units tour in
    let rest = units_reached tour m law i xs n.state (k + 1) r.2 t (step_state tour m law i s k x n there r.1) r.4 in
    subst (λ ms. Reaches unit m.nexts s (minute_of tour k) (units_of each (x ∷ xs)) ms t) (sym r.3)
    (reaches-append unit m.nexts (replicate each x) (units_of each xs) s (minute_of tour k) (option_to_list n.mark) n.state r.2 t (law.advances_reach s (minute_of tour k) x each n there r.1)
    (subst (λ at. Reaches unit m.nexts n.state at (units_of each xs) r.2 t) (sym (minute_more tour i k x)) rest))

-- and back
pub steps_reached : {S : Type 0} (tour : Tour) (m : Machine S) → IsBook tour.params m → IsTour tour →
    (xs : List Activity) (s : S) (k : ℕ) (marks : List Mark) (t : S) → m.is_state s (minute_of tour k) →
    Reaches (unit_minutes tour.params) m.nexts s (minute_of tour k) (units_of (step_units tour) xs) marks t → Reaches 1 (λ s k x. m.advances s (minute_of tour k) x (step_units tour)) s k xs marks t
steps_reached tour m law i [] s k marks t there r = r
steps_reached tour m law i (x ∷ xs) s k marks t there r =
    let unit = unit_minutes tour.params in
    let each = step_units tour in
    let p = reaches_parted unit m.nexts (replicate each x) (units_of each xs) s (minute_of tour k) marks t r in
    let n = law.advances_all s (minute_of tour k) x each p.earlier p.between there p.front in
    let rest = subst (λ at. Reaches unit m.nexts p.between at (units_of each xs) p.later t) (minute_more tour i k x) p.rest in
    let from = subst (λ u. Reaches unit m.nexts u (minute_of tour (k + 1)) (units_of each xs) p.later t) (sym n.2) rest in (
      n.0,
      n.1,
      p.later,
      p.marked ∙ ap (λ ms. ms ++ p.later) n.3,
      steps_reached tour m law i xs n.0.state (k + 1) p.later t (step_state tour m law i s k x n.0 there n.1) from,
    )
