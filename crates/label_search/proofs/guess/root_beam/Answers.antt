use Rattle.std.proofs.Common.{◌≡◌, sym, subst, arith}
use Rattle.duty_core.specs.Params.{allows}
use Rattle.rule_core.specs.Laws.OneOf.{one_of_item}
use Rattle.cert_text.specs.CoverLists.Problem.{root_label}
use Rattle.cert_text.specs.CoverLists.Planning.{problem_of, state_at, minute_of}
use Rattle.label_search.specs.Searching.{IsRootState}
use Rattle.label_search.specs.Ways.{IsReached, AreReached}
use Rattle.label_search.proofs.GuessLaws.{root_reached, each_push}
use Rattle.label_search.proofs.guess.root_beam.Goals as goal

pub loop-root-preserved : goal.loop-root-preserved
loop-root-preserved g c =
    let book = c.args.terms.now.book.now in
    let tour = c.args.terms.now.tour.now in
    let problem = problem_of tour (g.B.RuleBook.machine book) in
    let is_state = state_at tour (g.B.RuleBook.machine book) in
    let starts = IsRootState c.args.terms.now.roots.now in
    let x = c.root-item.result in
    let s = c.in_ok-copy.field-0 in
    let o = one_of_item c.args.terms.now.roots.now c.loop-root.root-index x c.loop-root-test.true c.root-item.is in
    let e : tour.start ≡ minute_of tour 0 = omega arith in
    let there = subst (λ t. (g.B.RuleBook.machine book).is_state t (minute_of tour 0)) (sym c.in_ok-copy.ensures.same) (subst ((g.B.RuleBook.machine book).is_state x.state) e (c.requires.roots x o)) in
    subst (AreReached problem is_state (allows tour.params) starts 0) (sym c.in_ok-push.ensures.items)
    (each_push (IsReached problem is_state (allows tour.params) starts 0) c.loop-root.beam.items (root_label s) c.loop-root.invariant (root_reached problem is_state (allows tour.params) starts s (x, o, sym c.in_ok-copy.ensures.same) there))
