use Rattle.std.proofs.Common.{ℕ, ◌<◌, Contains, length, get_or, subst, arith}
use Rattle.std.proofs.lemmas.Bool.{iff_false}
use Rattle.std.proofs.lemmas.List.Elements.{Contains-get_or}
use Rattle.duty_core.specs.declared.mark.Mark.{Mark}
use Rattle.duty_core.specs.declared.mark.Mark.TheVariants.{SplitRest}
use Rattle.rule_readings.specs.Splits.{IsUsMark}
use Rattle.rule_readings.proofs.SplitFacts.{meets_pair, pair_marks, pair_pairs}
use Rattle.rule_readings.proofs.us_pair.keeps_us_pair.Goals as goal

pub returns-then-not-names_split : goal.returns-then-not-names_split
returns-then-not-names_split c =
    let items = c.items-mark-items.result.now in
    let mark : Mark = get_or items c.loop-mark.mark-index (SplitRest 0) in
    let there : Contains c.args.history.now.marks.now mark =
    subst (λ marks. Contains marks mark) c.items-mark-items.ensures (Contains-get_or items c.loop-mark.mark-index (SplitRest 0) c.loop-mark-test.true) in (
      (λ e. absurd (cc)),
      (λ h. absurd (iff_false c.names_split.ensures c.if-not-names_split.true
          (pair_marks c.args.history.now.scope.params c.args.history.now.scope.first c.args.history.now.padded.now c.args.history.now.marks.now mark h there))),
    )

pub returns : goal.returns
returns c =
    let same = c.items-mark-items.ensures in
    let each : (k : ℕ) (d : Mark) → k < length c.args.history.now.marks.now → IsUsMark c.args.history.now.scope.params c.args.history.now.scope.first c.args.history.now.padded.now (get_or c.args.history.now.marks.now k d) =
    subst (λ marks. (k : ℕ) (d : Mark) → k < length marks → IsUsMark c.args.history.now.scope.params c.args.history.now.scope.first c.args.history.now.padded.now (get_or marks k d)) same (λ k d l. c.loop-mark.invariant k d (omega arith)) in (
      (λ e. meets_pair c.args.history.now.scope.params c.args.history.now.scope.first c.args.history.now.padded.now c.args.history.now.marks.now each (c.are_paired.ensures.0 e)),
      (λ h. c.are_paired.ensures.1 (pair_pairs c.args.history.now.scope.params c.args.history.now.scope.first c.args.history.now.padded.now c.args.history.now.marks.now h)),
    )
