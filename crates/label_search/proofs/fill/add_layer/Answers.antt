use Rattle.std.proofs.Common.{◌≡◌, ◌≤◌, ◌<◌, ◌++◌, length, take, drop, get_or, sym, ap, subst, ◌∙◌, arith}
use Rattle.std.proofs.lemmas.List.{map-id, take-append-drop}
use Rattle.std.proofs.lemmas.Iterator.Adapters.{YieldsList-from_vec}
use Rattle.std.proofs.lemmas.Iterator.Consumers.{YieldsList-turn, YieldsList-end, YieldsList-so_far}
use Rattle.rule_core.specs.Reach.{IsOneOf}
use Rattle.rule_core.specs.Laws.OneOf.{one_of_item}
use Rattle.tour_model.specs.Word.{word_length}
use Rattle.label_state.specs.declared.kept.Kept.{Kept}
use Rattle.label_state.specs.Layers.{labels_of, last_step, last_layer, label_count}
use Rattle.label_state.specs.Laws.LayerLaws.{label_kept}
use Rattle.cert_text.specs.CoverLists.Planning.{problem_of, state_at, minute_of}
use Rattle.cert_text.specs.CoverLists.Cover.{IsLabelAt}
use Rattle.label_search.specs.Sound.{StandsBefore}
use Rattle.label_search.specs.Searching.{AddsLayer}
use Rattle.label_search.proofs.Places.{one_of_taken}
use Rattle.label_search.proofs.OrderLaws.{ordered_at}
use Rattle.label_search.proofs.FillLaws.{step_added, layer_added, adds_more, adds_full, better_itself_at}
use Rattle.label_search.proofs.fill.add_layer.Goals as goal
use Rattle.label_search.proofs.fill.add_layer.Goals.{In-Some}

-- where this iteration's label stands among those that are offered
turn_of : (g : _) (c : In-Some g) → (length c.loop-kept.yielded < length c.args.list.items) × (c.in-Some.kept ≡ get_or c.args.list.items (length c.loop-kept.yielded) c.in-Some.kept)
turn_of g c =
    let xs = c.args.list.items in
    let i = c.into_iter-kept-iterator.ensures.into_iter_gives in
    YieldsList-turn (YieldsList-from_vec {s = c.into_iter-kept-iterator.result} xs i.0 (omega arith)) c.loop-kept.yielded c.loop-kept.kept-iterator c.loop-kept.yielded_by c.next.result c.next.new.self c.in-Some.kept c.in-Some.is c.next.ensures.steps

-- and those before it
before_of : (g : _) (c : In-Some g) → c.loop-kept.yielded ≡ take (length c.loop-kept.yielded) c.args.list.items
before_of g c =
    let xs = c.args.list.items in
    let i = c.into_iter-kept-iterator.ensures.into_iter_gives in
    sym (map-id c.loop-kept.yielded) ∙ YieldsList-so_far (YieldsList-from_vec {s = c.into_iter-kept-iterator.result} xs i.0 (omega arith)) c.loop-kept.yielded c.loop-kept.kept-iterator c.loop-kept.yielded_by

label_of : (g : _) (c : In-Some g) → IsLabelAt (state_at c.args.tour.now (g.B.RuleBook.machine c.args.book.now)) (word_length c.args.tour.now) (length c.args.layers.now) c.in-Some.kept.label
label_of g c = let t = turn_of g c in c.requires.labels c.in-Some.kept (one_of_item c.args.list.items (length c.loop-kept.yielded) c.in-Some.kept t.0 t.1)

-- the last layer is that of the new step
last_of : (g : _) (c : In-Some g) → last_step c.loop-kept.layers ≡ length c.args.layers.now
last_of g c = ap last_step c.loop-kept.invariant.added.thereafter ∙ step_added c.args.layers.now c.loop-kept.invariant.added.layer

pub returns-then-kept-budget : goal.returns-then-kept-budget
returns-then-kept-budget g c =
    let problem = problem_of c.args.tour.now (g.B.RuleBook.machine c.args.book.now) in
    let b = before_of g (goal.at.returns-then-kept-budget g c).In-Some in
    let full : c.args.budget ≤ label_count c.loop-kept.layers = omega arith in
    let xs = c.args.list.items in
    let rest = drop (length c.loop-kept.yielded) xs in
    record {
      ok = subst (λ ks. AddsLayer problem c.args.budget ks c.args.layers.now c.loop-kept.layers) (ap (λ ys. ys ++ rest) b ∙ take-append-drop (length c.loop-kept.yielded) xs)
          (adds_full problem c.args.budget c.loop-kept.yielded rest c.args.layers.now c.loop-kept.layers c.loop-kept.invariant.added c.requires.room full);
    }

pub offer_to-requires-clause-layer : goal.offer_to-requires-clause-layer
offer_to-requires-clause-layer g c l o =
    let some = (goal.at.offer_to-requires-clause-layer g c).In-Some in
    let a = c.loop-kept.invariant.added in
    let e : last_layer c.loop-kept.layers ≡ a.layer = ap last_layer a.thereafter ∙ layer_added c.args.layers.now a.layer in
    let q = label_kept a.layer l (subst (λ ys. IsOneOf (labels_of ys) l) e o) in
    let b = before_of g some in
    let here = c.requires.labels q.0 (one_of_taken c.args.list.items (length c.loop-kept.yielded) q.0 (subst (λ ys. IsOneOf ys q.0) b (a.filled.only q.0 q.1))) in
    subst (λ n. (g.B.RuleBook.machine c.args.book.now).is_state l.state (minute_of c.args.tour.now n)) (sym (last_of g some))
    (subst (λ m. (g.B.RuleBook.machine c.args.book.now).is_state m.state (minute_of c.args.tour.now (length c.args.layers.now))) q.2 here.state)

pub offer_to-requires-clause-label : goal.offer_to-requires-clause-label
offer_to-requires-clause-label g c =
    let some = (goal.at.offer_to-requires-clause-label g c).In-Some in
    subst (λ n. (g.B.RuleBook.machine c.args.book.now).is_state c.in-Some.kept.label.state (minute_of c.args.tour.now n)) (sym (last_of g some)) (label_of g some).state

pub loop-kept-preserved : goal.loop-kept-preserved
loop-kept-preserved g c =
    let problem = problem_of c.args.tour.now (g.B.RuleBook.machine c.args.book.now) in
    let some = (goal.at.loop-kept-preserved g c).In-Some in
    let t = turn_of g some in
    let b = before_of g some in
    let k = c.in-Some.kept in
    let before : (m : Kept _) → IsOneOf c.loop-kept.yielded m → StandsBefore m.label k.label = (λ m o. ordered_at c.args.list.items (length c.loop-kept.yielded) k m c.requires.ordered t.0 t.1 (subst (λ ys. IsOneOf ys m) b o)) in
    let itself = better_itself_at problem (length c.args.layers.now) k.label ((g.met.B.RuleBook.laws c.args.book.now).covers_itself k.label.state (minute_of c.args.tour.now (length c.args.layers.now)) (label_of g some).state) in
    let room : label_count c.loop-kept.layers < c.args.budget = omega arith in
    record {
      can = tt;
      finite = tt;
      added = adds_more problem c.args.budget c.loop-kept.yielded k c.args.layers.now c.loop-kept.layers c.offer_to.new.layers c.in_ok-offer_to.field-0 c.loop-kept.invariant.added c.in_ok-offer_to.ensures.offered before itself c.requires.room room;
      ahead = c.offer_to.ensures.ahead;
    }

pub returns : goal.returns
returns g c =
    let problem = problem_of c.args.tour.now (g.B.RuleBook.machine c.args.book.now) in
    let xs = c.args.list.items in
    let i = c.into_iter-kept-iterator.ensures.into_iter_gives in
    let t = YieldsList-end (YieldsList-from_vec {s = c.into_iter-kept-iterator.result} xs i.0 (omega arith)) c.loop-kept.yielded c.loop-kept.kept-iterator c.loop-kept.yielded_by c.next.result c.next.new.self c.in-None.is c.next.ensures.steps in
    record { ok = subst (λ ks. AddsLayer problem c.args.budget ks c.args.layers.now c.loop-kept.layers) (sym (map-id c.loop-kept.yielded) ∙ t.0) c.loop-kept.invariant.added }
