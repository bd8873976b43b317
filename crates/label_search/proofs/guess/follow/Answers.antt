use Rattle.std.proofs.Common.{subst, arith}
use Rattle.duty_core.specs.Params.{allows}
use Rattle.cert_text.specs.CoverLists.Planning.{problem_of, state_at}
use Rattle.label_search.specs.Searching.{IsRootState}
use Rattle.label_search.specs.Ways.{IsLeastOf}
use Rattle.label_search.proofs.GuessLaws.{guess_more}
use Rattle.label_search.proofs.guess.follow.Goals as goal

pub loop-step-preserved : goal.loop-step-preserved
loop-step-preserved g c =
    let book = c.args.terms.now.book.now in
    let tour = c.args.terms.now.tour.now in
    let problem = problem_of tour (g.B.RuleBook.machine book) in
    let is_state = state_at tour (g.B.RuleBook.machine book) in
    let starts = IsRootState c.args.terms.now.roots.now in
    let least = subst (λ n. IsLeastOf n c.loop-step.beam.items c.loop-step.step c.loop-step.guess.best c.best_finished.result) c.word_len-goal.ensures
    (subst (λ ys. IsLeastOf c.word_len-goal.result ys c.loop-step.step c.loop-step.guess.best c.best_finished.result) c.deref.ensures.value c.best_finished.ensures) in
    record {
      beam = c.in_ok-beam.ensures;
      guess = guess_more problem is_state (allows tour.params) starts c.loop-step.step c.loop-step.beam.items c.loop-step.guess.best c.best_finished.result c.loop-step.invariant.beam least c.loop-step.invariant.guess;
      within = omega arith;
    }
