use Rattle.std.proofs.Common.{◌+◌, ◌∷◌, [], length, sym, subst, ◌∙◌, arith}
use Rattle.std.proofs.lemmas.Bool.{iff_false}
use Rattle.std.proofs.lemmas.List.{map-id}
use Rattle.std.proofs.lemmas.Iterator.Adapters.{YieldsList-from_vec}
use Rattle.std.proofs.lemmas.Iterator.Consumers.{YieldsList-turn, YieldsList-end}
use Rattle.rule_core.specs.Reach.{IsOneOf}
use Rattle.rule_core.specs.Laws.OneOf.{one_of_item}
use Rattle.tour_model.specs.Word.{word_length}
use Rattle.cert_text.specs.CoverLists.Planning.{problem_of, state_at}
use Rattle.cert_text.specs.CoverLists.Cover.{IsPrunedAt, IsLabelAt}
use Rattle.label_search.specs.Searching.{Gathers}
use Rattle.label_search.proofs.GatherLaws.{gathers_on, gathers_pushed, gathers_pruned}
use Rattle.label_search.proofs.gather.gather_from.Goals as goal
use Rattle.label_search.proofs.gather.gather_from.Goals.{In-Some}

-- this iteration's successor is a label of the next step
label_of : (g : _) (c : In-Some g) → IsLabelAt (state_at c.args.tour.now (g.B.RuleBook.machine c.args.book.now)) (word_length c.args.tour.now) (c.args.parent.place.layer + 1) c.in-Some.grown.label
label_of g c =
    let xs = c.into_vec-grown-items.result.items in
    let i = c.into_iter-grown-iterator.ensures.into_iter_gives in
    let t = YieldsList-turn (YieldsList-from_vec {s = c.into_iter-grown-iterator.result} xs i.0 (omega arith)) c.loop-grown.yielded c.loop-grown.grown-iterator c.loop-grown.yielded_by c.next.result c.next.new.self c.in-Some.grown c.in-Some.is c.next.ensures.steps in
    c.in_ok-successors.ensures.labels c.requires.label c.in-Some.grown (subst (λ ys. IsOneOf ys c.in-Some.grown) c.into_vec-grown-items.ensures (one_of_item xs (length c.loop-grown.yielded) c.in-Some.grown t.0 t.1))

pub eta-eta-requires-clause-progress : goal.eta-eta-requires-clause-progress
eta-eta-requires-clause-progress g c = (label_of g (goal.at.eta-eta-requires-clause-progress g c).In-Some).progress

pub loop-grown-preserved-in_ok-push : goal.loop-grown-preserved-in_ok-push
loop-grown-preserved-in_ok-push g c =
    let problem = problem_of c.args.tour.now (g.B.RuleBook.machine c.args.book.now) in
    let l = c.in-Some.grown.label in
    record {
      can = tt;
      finite = tt;
      gathered = gathers_on problem c.args.limit (c.args.parent.place.layer + 1) c.args.parent.place.index c.loop-grown.yielded (c.in-Some.grown ∷ []) c.args.list.now.items c.loop-grown.list.items c.push.new.self.items c.loop-grown.invariant.gathered
          (subst (λ ys. Gathers problem c.args.limit (c.args.parent.place.layer + 1) c.args.parent.place.index (c.in-Some.grown ∷ []) c.loop-grown.list.items ys) (sym c.in_ok-push.ensures.items)
          (gathers_pushed problem c.args.limit (c.args.parent.place.layer + 1) c.args.parent.place.index c.in-Some.grown c.loop-grown.list.items
          (λ off. iff_false c.is_pruned.ensures c.if-not-is_pruned.true (subst (IsPrunedAt c.args.limit l.depart) (sym c.eta-eta.ensures.value) off))));
    }

pub loop-grown-preserved : goal.loop-grown-preserved
loop-grown-preserved g c =
    let problem = problem_of c.args.tour.now (g.B.RuleBook.machine c.args.book.now) in
    let l = c.in-Some.grown.label in
    record {
      can = tt;
      finite = tt;
      gathered = gathers_on problem c.args.limit (c.args.parent.place.layer + 1) c.args.parent.place.index c.loop-grown.yielded (c.in-Some.grown ∷ []) c.args.list.now.items c.loop-grown.list.items c.loop-grown.list.items c.loop-grown.invariant.gathered
          (gathers_pruned problem c.args.limit (c.args.parent.place.layer + 1) c.args.parent.place.index c.in-Some.grown c.loop-grown.list.items
          (subst (IsPrunedAt c.args.limit l.depart) c.eta-eta.ensures.value (c.is_pruned.ensures.0 c.if-not-is_pruned.false)));
    }

pub returns : goal.returns
returns g c =
    let problem = problem_of c.args.tour.now (g.B.RuleBook.machine c.args.book.now) in
    let xs = c.into_vec-grown-items.result.items in
    let i = c.into_iter-grown-iterator.ensures.into_iter_gives in
    let t = YieldsList-end (YieldsList-from_vec {s = c.into_iter-grown-iterator.result} xs i.0 (omega arith)) c.loop-grown.yielded c.loop-grown.grown-iterator c.loop-grown.yielded_by c.next.result c.next.new.self c.in-None.is c.next.ensures.steps in
    record {
      ok = subst (λ gs. Gathers problem c.args.limit (c.args.parent.place.layer + 1) c.args.parent.place.index gs c.args.list.now.items c.loop-grown.list.items)
          (sym (map-id c.loop-grown.yielded) ∙ (t.0 ∙ (c.into_vec-grown-items.ensures ∙ c.in_ok-successors.ensures.exact))) c.loop-grown.invariant.gathered;
    }
