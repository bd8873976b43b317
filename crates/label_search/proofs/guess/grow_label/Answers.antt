use Rattle.std.proofs.Common.{◌≡◌, ◌+◌, length, sym, ◌∙◌, subst, arith}
use Rattle.std.proofs.lemmas.Iterator.Adapters.{YieldsList-from_vec}
use Rattle.std.proofs.lemmas.Iterator.Consumers.{YieldsList-turn}
use Rattle.duty_core.specs.Params.{allows}
use Rattle.rule_core.specs.Book.{IsBook}
use Rattle.rule_core.specs.Reach.{IsOneOf}
use Rattle.rule_core.specs.Laws.OneOf.{one_of_item}
use Rattle.tour_model.specs.Word.{word_length}
use Rattle.cert_text.specs.CoverLists.Problem.{HasBound}
use Rattle.cert_text.specs.CoverLists.Planning.{problem_of, state_at, minute_of}
use Rattle.cert_text.specs.CoverLists.Cover.{IsLabelAt}
use Rattle.cert_text.specs.CoverLists.Laws.ProblemOf.{problem_laws}
use Rattle.label_search.specs.Searching.{IsRootState}
use Rattle.label_search.specs.Ways.{IsReached, AreRankedReached}
use Rattle.label_search.proofs.AnswerLaws.{root_state}
use Rattle.label_search.proofs.GuessLaws.{grown_reached, each_push}
use Rattle.label_search.proofs.guess.grow_label.Goals as goal
use Rattle.label_search.proofs.guess.grow_label.Goals.{In-Some}

-- this iteration's successor is a label of the next step
turn_of : (g : _) (c : In-Some g) → IsOneOf c.into_vec-grown-items.result.items c.in-Some.grown
turn_of g c =
    let xs = c.into_vec-grown-items.result.items in
    let i = c.into_iter-grown-iterator.ensures.into_iter_gives in
    let t = YieldsList-turn (YieldsList-from_vec {s = c.into_iter-grown-iterator.result} xs i.0 (omega arith)) c.loop-grown.yielded c.loop-grown.grown-iterator c.loop-grown.yielded_by c.next.result c.next.new.self c.in-Some.grown c.in-Some.is c.next.ensures.steps in
    one_of_item xs (length c.loop-grown.yielded) c.in-Some.grown t.0 t.1

label_of : (g : _) (c : In-Some g) → IsLabelAt (state_at c.args.terms.now.tour.now (g.B.RuleBook.machine c.args.terms.now.book.now)) (word_length c.args.terms.now.tour.now) (c.args.step + 1) c.in-Some.grown.label
label_of g c = c.in_ok-successors.ensures.labels c.requires.label.at c.in-Some.grown (subst (λ ys. IsOneOf ys c.in-Some.grown) c.into_vec-grown-items.ensures (turn_of g c))

pub successors-requires-clause-state : goal.successors-requires-clause-state
successors-requires-clause-state g c = c.requires.label.at.state

pub successors-requires-clause-progress : goal.successors-requires-clause-progress
successors-requires-clause-progress g c = c.requires.label.at.progress

pub eta-requires-clause-progress : goal.eta-requires-clause-progress
eta-requires-clause-progress g c = (label_of g (goal.at.eta-requires-clause-progress g c).In-Some).progress

pub loop-grown-preserved-in_ok-push : goal.loop-grown-preserved-in_ok-push
loop-grown-preserved-in_ok-push g c =
    let book = c.args.terms.now.book.now in
    let tour = c.args.terms.now.tour.now in
    let m = g.B.RuleBook.machine book in
    let law = subst (λ params. IsBook params m) c.requires.terms.params (g.met.B.RuleBook.laws book) in
    let problem = problem_of tour m in
    let is_state = state_at tour m in
    let starts = IsRootState c.args.terms.now.roots.now in
    let some = (goal.at.loop-grown-preserved-in_ok-push g c).In-Some in
    let l = c.in-Some.grown.label in
    let step = c.args.step in
    let e : tour.start ≡ minute_of tour 0 = omega arith in
    let states = root_state is_state c.args.terms.now.roots.now 0 (λ r o. subst (m.is_state r.state) e (c.requires.terms.roots r o)) in
    let bound : HasBound problem (step + 1) l = record { bound = c.in-Some-eta.eta; is = sym c.eta.ensures.value ∙ c.in-Some-eta.is } in
    let o = subst (λ ys. IsOneOf ys c.in-Some.grown) (c.into_vec-grown-items.ensures ∙ c.in_ok-successors.ensures.exact) (turn_of g some) in
    record {
      can = tt;
      finite = tt;
      reached = subst (AreRankedReached problem is_state (allows tour.params) starts (step + 1)) (sym c.in_ok-push.ensures.items)
          (each_push (λ r. IsReached problem is_state (allows tour.params) starts (step + 1) r.label) c.loop-grown.list.items _ c.loop-grown.invariant.reached
          (grown_reached problem is_state (allows tour.params) starts (problem_laws tour m law c.requires.terms.tour) states step c.args.label.now c.in-Some.grown c.requires.label o bound (label_of g some)));
    }
