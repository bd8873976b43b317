use Rattle.std.proofs.Common.{◌≡◌, ◌==◌, ℕ, ◌+◌, true, false, sym, ◌∙◌, subst, arith}
use Rattle.std.proofs.lemmas.Bool.Decides.{nat_tests}
use Rattle.std.proofs.lemmas.List.{get_or_default}
use Rattle.duty_core.specs.declared.activity.Activity.TheVariants.{Drive}
use Rattle.cert_text.specs.CoverLists.Laws.ProblemOf.{word_few}
use Rattle.cert_checker.proofs.ClaimLaws.{IsServing, serving_first, serving_more, unusable, unmay, serving_ends, ends_serving}
use Rattle.cert_checker.proofs.claim.serves.Goals as goal

same_of : (a b : ℕ) → (a == b) ≡ true → a ≡ b
same_of a b e = grind (arith, nat_tests)

test_of : (a b : ℕ) → a ≡ b → (a == b) ≡ true
test_of a b e = grind (arith, nat_tests)

pub loop-step-init : goal.loop-step-init
loop-step-init c = serving_first c.args.tour.now c.args.steps.now

pub returns-then-not-allowed : goal.returns-then-not-allowed
returns-then-not-allowed c = (
  (λ t. absurd (let f : false ≡ true = t in cc)),
  (λ s. absurd (unusable c.args.tour.now c.args.steps.now c.loop-step.step c.loop-step.progress _ c.loop-step-test.true (get_or_default c.args.steps.now c.loop-step.step Drive _ c.loop-step-test.true)
      (sym c.allowed.ensures ∙ c.if-not-allowed.true) c.loop-step.invariant s)),
)

pub may_do-requires-clause-progress : goal.may_do-requires-clause-progress
may_do-requires-clause-progress c = c.loop-step.invariant.within

pub returns-then-not-may_do : goal.returns-then-not-may_do
returns-then-not-may_do c = (
  (λ t. absurd (let f : false ≡ true = t in cc)),
  (λ s. absurd (unmay c.args.tour.now c.requires.tour c.args.steps.now c.loop-step.step c.loop-step.progress _ c.loop-step-test.true (get_or_default c.args.steps.now c.loop-step.step Drive _ c.loop-step-test.true)
      (sym c.may_do.ensures ∙ c.if-not-may_do.true) c.loop-step.invariant s)),
)

pub progress_after-progress-requires : goal.progress_after-progress-requires
progress_after-progress-requires c = let few = word_few c.args.tour.now c.requires.tour in let within = c.loop-step.invariant.within in omega arith

pub loop-step-preserved : goal.loop-step-preserved
loop-step-preserved c =
    subst (λ p. IsServing c.args.tour.now c.args.steps.now (c.loop-step.step + 1) p) (sym c.progress_after-progress.ensures)
    (serving_more c.args.tour.now c.args.steps.now c.loop-step.step c.loop-step.progress _ c.loop-step-test.true (get_or_default c.args.steps.now c.loop-step.step Drive _ c.loop-step-test.true)
    (sym c.allowed.ensures ∙ c.if-not-allowed.false) (sym c.may_do.ensures ∙ c.if-not-may_do.false) c.loop-step.invariant)

pub returns : goal.returns
returns c = (
  (λ t. serving_ends c.args.tour.now c.requires.tour c.args.steps.now c.loop-step.step c.loop-step.progress c.loop-step-test.false c.loop-step.invariant (same_of c.loop-step.progress c.word_len-goal.result t ∙ c.word_len-goal.ensures)),
  (λ s. test_of c.loop-step.progress c.word_len-goal.result (ends_serving c.args.tour.now c.requires.tour c.args.steps.now c.loop-step.step c.loop-step.progress c.loop-step-test.false c.loop-step.invariant s ∙ sym c.word_len-goal.ensures)),
)
