use Rattle.std.proofs.Common.{◌≡◌, ◌+◌, ◌∷◌, [], sym, ◌∙◌, ap, inl, inr, refl, Decides}
use Rattle.std.specs.Option.{option_to_list}
use Rattle.duty_core.specs.declared.activity.Activity.{Activity}
use Rattle.duty_core.specs.declared.activity.Activity.TheVariants.{Drive, Serve}
use Rattle.rule_core.specs.Reach.{idle_list}
use Rattle.cert_text.specs.CoverLists.Problem.{grown_by, successors_of}
use Rattle.cert_text.specs.CoverLists.Planning.{problem_by}
use Rattle.cert_checker.specs.Parsed.{there}
use Rattle.cert_checker.specs.Conditions.{AreAnswered}
use Rattle.cert_checker.proofs.ParsedLaws.{ok_also}
use Rattle.cert_checker.proofs.AnsweredLaws.{all_answered, answered_by, unanswered, by_three, by_four}
use Rattle.cert_checker.proofs.answered.are_answered.Goals as goal

pub returns-then-not-branch : goal.returns-then-not-branch
returns-then-not-branch g c =
    let problem = problem_by c.args.terms.now.tour.now (g.B.RuleBook.machine c.args.terms.now.book.now) (g.K.LabelBound.bounds c.args.terms.now.bound.now).bound in
    let tries = ap idle_list (sym c.idles-first.ensures) in
    unanswered problem c.args.terms.now.target (c.args.step + 1) (there c.args.labels.now) c.args.label.now c.args.step (idle_list c.idles-first.result) Drive c.in_ok-are_answered_by.field-0 tries (inl refl) c.in_ok-are_answered_by.ensures c.if-not-branch.true

pub returns-then-not-branch-2 : goal.returns-then-not-branch-2
returns-then-not-branch-2 g c =
    let problem = problem_by c.args.terms.now.tour.now (g.B.RuleBook.machine c.args.terms.now.book.now) (g.K.LabelBound.bounds c.args.terms.now.bound.now).bound in
    let tries = ap idle_list (sym c.idles-first.ensures) in
    unanswered problem c.args.terms.now.target (c.args.step + 1) (there c.args.labels.now) c.args.label.now c.args.step (idle_list c.idles-first.result) Serve c.in_ok-are_answered_by-2.field-0 tries (inr (inl refl)) c.in_ok-are_answered_by-2.ensures c.if-not-branch-2.true

pub returns-then-not-branch-3 : goal.returns-then-not-branch-3
returns-then-not-branch-3 g c =
    let problem = problem_by c.args.terms.now.tour.now (g.B.RuleBook.machine c.args.terms.now.book.now) (g.K.LabelBound.bounds c.args.terms.now.bound.now).bound in
    let first = c.idles-first.result.first in
    let tries = ap idle_list (sym c.idles-first.ensures) in
    unanswered problem c.args.terms.now.target (c.args.step + 1) (there c.args.labels.now) c.args.label.now c.args.step (idle_list c.idles-first.result) first c.in_ok-are_answered_by-3.field-0 tries (inr (inr (inl refl))) c.in_ok-are_answered_by-3.ensures c.if-not-branch-3.true

pub returns-in-None : goal.returns-in-None
returns-in-None g c =
    let problem = problem_by c.args.terms.now.tour.now (g.B.RuleBook.machine c.args.terms.now.book.now) (g.K.LabelBound.bounds c.args.terms.now.bound.now).bound in
    let xs = idle_list c.idles-first.result in
    let tries : problem.tries c.args.label.now.state ≡ xs = ap idle_list (sym c.idles-first.ensures) in
    let drive = c.in_ok-are_answered_by.ensures.0 c.if-not-branch.false in
    let serve = c.in_ok-are_answered_by-2.ensures.0 c.if-not-branch-2.false in
    let first = c.in_ok-are_answered_by-3.ensures.0 c.if-not-branch-3.false in
    let one : xs ≡ c.idles-first.result.first ∷ [] = ap (λ o. c.idles-first.result.first ∷ option_to_list o) c.in-None.is in (
      (λ _. all_answered problem c.args.terms.now.target (c.args.step + 1) (there c.args.labels.now) c.args.label.now c.args.step (c.idles-first.result.first ∷ []) (tries ∙ one)
          (λ x o. by_three problem c.args.terms.now.target (c.args.step + 1) (there c.args.labels.now) c.args.label.now c.args.step c.idles-first.result.first x drive serve first o)),
      (λ _. refl),
    )

pub returns-in-Some : goal.returns-in-Some
returns-in-Some g c =
    let problem = problem_by c.args.terms.now.tour.now (g.B.RuleBook.machine c.args.terms.now.book.now) (g.K.LabelBound.bounds c.args.terms.now.bound.now).bound in
    let xs = idle_list c.idles-first.result in
    let tries : problem.tries c.args.label.now.state ≡ xs = ap idle_list (sym c.idles-first.ensures) in
    let drive = c.in_ok-are_answered_by.ensures.0 c.if-not-branch.false in
    let serve = c.in_ok-are_answered_by-2.ensures.0 c.if-not-branch-2.false in
    let first = c.in_ok-are_answered_by-3.ensures.0 c.if-not-branch-3.false in
    let two : xs ≡ c.idles-first.result.first ∷ c.in-Some.second ∷ [] = ap (λ o. c.idles-first.result.first ∷ option_to_list o) c.in-Some.is in
    let by = λ (x : Activity). grown_by problem c.args.step c.args.label.now x in
    ok_also c.are_answered_by-in-Some.result (λ b. Decides b (AreAnswered problem c.args.terms.now.target (c.args.step + 1) (there c.args.labels.now) (by c.in-Some.second)))
    (λ b. Decides b (AreAnswered problem c.args.terms.now.target (c.args.step + 1) (there c.args.labels.now) (successors_of problem c.args.step c.args.label.now)))
    (λ b d. (
      (λ t. all_answered problem c.args.terms.now.target (c.args.step + 1) (there c.args.labels.now) c.args.label.now c.args.step (c.idles-first.result.first ∷ c.in-Some.second ∷ []) (tries ∙ two)
          (λ x o. by_four problem c.args.terms.now.target (c.args.step + 1) (there c.args.labels.now) c.args.label.now c.args.step c.idles-first.result.first c.in-Some.second x drive serve first (d.0 t) o)),
      (λ h. d.1 (answered_by problem c.args.terms.now.target (c.args.step + 1) (there c.args.labels.now) c.args.label.now c.args.step (c.idles-first.result.first ∷ c.in-Some.second ∷ []) c.in-Some.second (tries ∙ two) (inr (inr (inr (inl refl)))) h)),
    ))
    c.are_answered_by-in-Some.ensures
