use Rattle.std.proofs.Common.{◌≡◌, refl, sym, ◌∙◌, subst, arith, inl, inr, get_or, ap}
use Rattle.std.proofs.lemmas.Bool.{cases_eq, iff_false}
use Rattle.std.proofs.lemmas.List.{get_or_default}
use Rattle.duty_core.specs.Marks.{IsSplitAt}
use Rattle.rule_readings.specs.declared.padded.RestRun.{RestRun}
use Rattle.rule_readings.specs.Pairs.{IsPair, IsPairedRun}
use Rattle.rule_readings.proofs.PairRuns.{all_paired}
use Rattle.rule_readings.proofs.pairs.are_paired.Goals as goal

pub returns-then-not-pairs_with_last : goal.returns-then-not-pairs_with_last
returns-then-not-pairs_with_last c = (
  (λ e. absurd (cc)),
  (λ h. absurd (iff_false c.pairs_with_last.ensures c.if-not-pairs_with_last.true (λ a b s n. h _ a b _ s n))),
)

pub loop-next-preserved : goal.loop-next-preserved
loop-next-preserved c = λ k e l.
    let runs = c.rest_runs-next-items.result.now in
    let Marked = IsSplitAt c.args.history.now.scope.params c.args.history.now.scope.first c.args.history.now.marks.now in
    let Paired : RestRun → Type 0 = λ run. IsPairedRun c.args.terms.full (IsPair c.args.terms c.args.history.now.padded.now) c.args.history.now.padded.now Marked run.from run.to in
    elim (cases_eq k c.loop-next.next-index) [
      | inl q ↦
          let zero : RestRun = record { from = 0; to = 0 } in
          let same : get_or runs c.loop-next.next-index zero ≡ get_or runs k e = get_or_default runs c.loop-next.next-index zero e c.loop-next-test.true ∙ ap (λ j. get_or runs j e) (sym q) in
          subst Paired same (c.pairs_with_last.ensures.0 c.if-not-pairs_with_last.false)
      | inr q ↦ c.loop-next.invariant k e (omega arith)
    ]

pub returns : goal.returns
returns c = (
  (λ e. all_paired c.args.terms.full (IsPair c.args.terms c.args.history.now.padded.now) c.args.history.now.padded.now (IsSplitAt c.args.history.now.scope.params c.args.history.now.scope.first c.args.history.now.marks.now) c.rest_runs-next-items.result.now c.rest_runs-next-items.ensures.runs
      (λ k d l. c.loop-next.invariant k d (omega arith))),
  (λ h. refl),
)
