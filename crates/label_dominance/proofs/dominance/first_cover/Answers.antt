use Rattle.std.proofs.Common.{◌≡◌, ◌-◌, ◌+◌, List, take, sym, ◌∙◌, ap, subst, arith, Bor}
use Rattle.std.specs.Prelude.{None, Some}
use Rattle.label_state.specs.declared.kept.Kept.{Kept}
use Rattle.label_state.specs.Layers.{last_step, last_layer, labels_of}
use Rattle.cert_text.specs.CoverLists.Planning.{problem_of, state_at}
use Rattle.label_dominance.specs.Offers.{AreStatesAt, IsPlaceSought}
use Rattle.label_dominance.proofs.OfferLaws.{end_of, Looked, places_rise, front_states, keep_up_at, looked_past, looked_empty, looked_through, looked_found, front_long, none_beyond, cover_sought}
use Rattle.label_dominance.proofs.dominance.first_cover.Goals as goal
use Rattle.label_dominance.proofs.dominance.first_cover.Goals.{then-is_empty-via-then-is_empty, then-is_empty-via-else-is_empty+then-not-may_keep_up, in-Some, in_default}

pub loop-progress-preserved-then-is_empty : goal.loop-progress-preserved-then-is_empty
loop-progress-preserved-then-is_empty g c =
    let m = g.B.RuleBook.machine c.args.book.now in
    let tour = c.args.tour.now in
    let step = last_step c.args.layers.now in
    let layer = last_layer c.args.layers.now in
    let at = c.loop-progress in
    elim c.then-is_empty.branch [
      | then-is_empty-via-then-is_empty w ↦ looked_empty (problem_of tour m) step layer c.args.label.now at.progress at.before.now at.first c.places-places.result.now c.places-places.ensures (sym c.is_empty.ensures ∙ w.if-is_empty.true) at.invariant
      | then-is_empty-via-else-is_empty+then-not-may_keep_up w ↦ looked_past tour m step layer c.args.label.now at.progress at.before.now at.first (sym w.may_keep_up.ensures ∙ w.if-not-may_keep_up.true) at.invariant
    ]

pub first_among-requires-clause-layer : goal.first_among-requires-clause-layer
first_among-requires-clause-layer g c =
    let is_state = state_at c.args.tour.now (g.B.RuleBook.machine c.args.book.now) in
    let layer = last_layer c.args.layers.now in
    let at = c.loop-progress in
    subst (λ step. AreStatesAt is_state step (labels_of at.before.now)) (sym (ap (λ n. n - 1) c.depth-step.ensures.depth))
    (front_states is_state (last_step c.args.layers.now) (end_of layer at.first) layer at.before.now at.invariant.front_is c.requires.layer)

pub first_among-requires-clause-rising : goal.first_among-requires-clause-rising
first_among-requires-clause-rising g c = places_rise c.loop-progress.progress (last_layer c.args.layers.now) c.places-places.result.now c.places-places.ensures

pub first_among-requires-clause-keep_up : goal.first_among-requires-clause-keep_up
first_among-requires-clause-keep_up g c =
    let layer = last_layer c.args.layers.now in
    let at = c.loop-progress in
    keep_up_at c.args.tour.now at.progress (end_of layer at.first) layer at.before.now c.places-places.result.now c.args.label.now at.invariant.front_is c.places-places.ensures (sym c.may_keep_up.ensures ∙ c.if-not-may_keep_up.false)

pub slice_bounds-before-end : goal.slice_bounds-before-end
slice_bounds-before-end g c = let found = c.in-Some.ensures {u = tt} in front_long c.loop-progress.before.now c.in-Some.place found.0.cover found.0.there

pub loop-progress-preserved : goal.loop-progress-preserved
loop-progress-preserved g c =
    let problem = problem_of c.args.tour.now (g.B.RuleBook.machine c.args.book.now) in
    let layer = last_layer c.args.layers.now in
    let l = c.args.label.now in
    let at = c.loop-progress in
    let places = c.places-places.result.now in
    let here : c.depth-step.result - 1 ≡ last_step c.args.layers.now = ap (λ n. n - 1) c.depth-step.ensures.depth in
    elim c.match-first_among.branch [
      | in-Some w ↦
          let front : c.match-first_among.before.now ≡ take w.in-Some.place at.before.now = ap (λ (b : Bor (List (Kept g.row.B-State.Denot))). b.now) w.before-is in
          let found = subst (λ step. IsPlaceSought problem step at.before.now places l (Some w.in-Some.place)) here (w.in-Some.ensures {u = tt}) in
          subst (λ ks. Looked problem (last_step c.args.layers.now) layer l (at.progress + 1) ks c.match-first_among.first) (sym front)
          (subst (λ o. Looked problem (last_step c.args.layers.now) layer l (at.progress + 1) (take w.in-Some.place at.before.now) o) (sym w.first-is)
          (looked_found problem (last_step c.args.layers.now) layer l at.progress at.before.now at.first places w.in-Some.place c.places-places.ensures found at.invariant))
      | in_default w ↦
          let front : c.match-first_among.before.now ≡ at.before.now = ap (λ (b : Bor (List (Kept g.row.B-State.Denot))). b.now) w.before-is in
          let none = subst (λ step. IsPlaceSought problem step at.before.now places l None) here (w.in_default.ensures {u = tt}) in
          subst (λ ks. Looked problem (last_step c.args.layers.now) layer l (at.progress + 1) ks c.match-first_among.first) (sym front)
          (subst (λ o. Looked problem (last_step c.args.layers.now) layer l (at.progress + 1) at.before.now o) (sym w.first-is)
          (looked_through problem (last_step c.args.layers.now) layer l at.progress at.before.now at.first places c.places-places.ensures none at.invariant))
    ]

pub returns : goal.returns
returns g c =
    let m = g.B.RuleBook.machine c.args.book.now in
    let at = c.loop-progress in
    let top = c.progress_end in
    let past = c.loop-progress-test.false in
    cover_sought (problem_of c.args.tour.now m) (last_step c.args.layers.now) (last_layer c.args.layers.now) c.args.label.now at.progress at.before.now at.first
    (none_beyond c.args.tour.now m (last_step c.args.layers.now) (last_layer c.args.layers.now) c.args.label.now top.result c.args.ahead_end at.progress top.ensures.above c.requires.ahead (λ less. (omega arith, omega arith)))
    at.invariant
