use Rattle.std.proofs.Common.{length, sym, subst, arith}
use Rattle.std.proofs.lemmas.List.Sorted.{IsPermutation-trans}
use Rattle.std.proofs.lemmas.Iterator.Adapters.{YieldsList-from_vec}
use Rattle.std.proofs.lemmas.Iterator.Consumers.{YieldsList-turn}
use Rattle.duty_core.specs.Params.{allows}
use Rattle.rule_core.specs.Reach.{IsOneOf}
use Rattle.rule_core.specs.Laws.OneOf.{one_of_item}
use Rattle.cert_text.specs.CoverLists.Planning.{problem_of, state_at}
use Rattle.label_search.specs.Searching.{IsRootState}
use Rattle.label_search.specs.Ways.{IsReached, AreReached}
use Rattle.label_search.proofs.GuessLaws.{each_push}
use Rattle.label_search.proofs.Places.{one_of_permuted}
use Rattle.label_search.proofs.guess.thinned.Goals as goal
use Rattle.label_search.proofs.guess.thinned.Goals.{In-Some}

reached_of : (g : _) (c : In-Some g) → IsReached (problem_of c.args.terms.now.tour.now (g.B.RuleBook.machine c.args.terms.now.book.now)) (state_at c.args.terms.now.tour.now (g.B.RuleBook.machine c.args.terms.now.book.now))
    (allows c.args.terms.now.tour.now.params) (IsRootState c.args.terms.now.roots.now) c.args.step c.in-Some.ranked.label
reached_of g c =
    let xs = c.sort_by_key-2.new.self.items in
    let same = IsPermutation-trans c.args.list.items c.sort_by_key.new.self.items c.sort_by_key-2.new.self.items c.in_ok-sort_by_key.ensures.permutation c.in_ok-sort_by_key-2.ensures.permutation in
    let i = c.into_iter-ranked-iterator.ensures.into_iter_gives in
    let t = YieldsList-turn (YieldsList-from_vec {s = c.into_iter-ranked-iterator.result} xs i.0 (omega arith)) c.loop-ranked.yielded c.loop-ranked.ranked-iterator c.loop-ranked.yielded_by c.next.result c.next.new.self c.in-Some.ranked c.in-Some.is c.next.ensures.steps in
    c.requires.list c.in-Some.ranked (one_of_permuted c.args.list.items xs same c.in-Some.ranked (one_of_item xs (length c.loop-ranked.yielded) c.in-Some.ranked t.0 t.1))

pub is_covered-requires-clause-beam : goal.is_covered-requires-clause-beam
is_covered-requires-clause-beam g c l o = (c.loop-ranked.invariant.reached l (subst (λ ys. IsOneOf ys l) c.deref.ensures.value o)).at.state

pub is_covered-requires-clause-label : goal.is_covered-requires-clause-label
is_covered-requires-clause-label g c = (reached_of g (goal.at.is_covered-requires-clause-label g c).In-Some).at.state

pub loop-ranked-preserved-then-not-is_covered : goal.loop-ranked-preserved-then-not-is_covered
loop-ranked-preserved-then-not-is_covered g c =
    let book = c.args.terms.now.book.now in
    let tour = c.args.terms.now.tour.now in
    let problem = problem_of tour (g.B.RuleBook.machine book) in
    let is_state = state_at tour (g.B.RuleBook.machine book) in
    let starts = IsRootState c.args.terms.now.roots.now in
    record {
      can = tt;
      finite = tt;
      reached = subst (AreReached problem is_state (allows tour.params) starts c.args.step) (sym c.in_ok-push.ensures.items)
          (each_push (IsReached problem is_state (allows tour.params) starts c.args.step) c.loop-ranked.beam.items c.in-Some.ranked.label c.loop-ranked.invariant.reached (reached_of g (goal.at.loop-ranked-preserved-then-not-is_covered g c).In-Some));
    }
