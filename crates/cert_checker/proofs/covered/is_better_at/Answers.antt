use Rattle.std.proofs.Common.{◌≡◌, true, false}
use Rattle.cert_text.specs.CoverLists.Planning.{problem_of, minute_of}
use Rattle.cert_checker.proofs.PlaceLaws.{past_end, absent_at, present_at, state_at_place}
use Rattle.cert_checker.proofs.covered.is_better_at.Goals as goal

pub returns-then-place-labels : goal.returns-then-place-labels
returns-then-place-labels g c =
    let problem = problem_of c.args.terms.now.tour.now (g.B.RuleBook.machine c.args.terms.now.book.now) in
    let l = c.args.asked.now in
    ((λ t. absurd (let f : false ≡ true = t in cc)), (λ h. absurd (past_end problem c.args.step c.args.labels.now c.args.place l c.if-place-labels.true h)))

pub returns-in-None : goal.returns-in-None
returns-in-None g c =
    let problem = problem_of c.args.terms.now.tour.now (g.B.RuleBook.machine c.args.terms.now.book.now) in
    let l = c.args.asked.now in (
      (λ t. absurd (let f : false ≡ true = t in cc)),
      (λ h. absurd (absent_at problem c.args.step c.args.labels.now c.args.place c.index-labels-place.result l c.if-place-labels.false c.index-labels-place.is c.in-None.is h)),
    )

pub is_better-requires-clause-label : goal.is_better-requires-clause-label
is_better-requires-clause-label g c =
    state_at_place (λ s. (g.B.RuleBook.machine c.args.terms.now.book.now).is_state s (minute_of c.args.terms.now.tour.now c.args.step)) c.args.labels.now c.args.place c.index-labels-place.result c.in-Some.label c.requires.labels c.index-labels-place.is c.if-place-labels.false c.in-Some.is

pub returns-in-Some : goal.returns-in-Some
returns-in-Some g c =
    let problem = problem_of c.args.terms.now.tour.now (g.B.RuleBook.machine c.args.terms.now.book.now) in
    let l = c.args.asked.now in
    present_at problem c.args.step c.args.labels.now c.args.place c.index-labels-place.result c.in-Some.label l c.is_better.result c.if-place-labels.false c.index-labels-place.is c.in-Some.is c.is_better.ensures
