use Rattle.std.proofs.Common.{ℕ, refl, subst}
use Rattle.std.specs.Prelude.{Contains}
use Rattle.duty_core.specs.declared.mark.Mark.TheVariants.{SplitRest}
use Rattle.duty_core.specs.CaShift.{IsCaSplit}
use Rattle.rule_readings.proofs.SplitFacts.{meets_from, meets_pairs}
use Rattle.rule_readings.proofs.ca_pair.keeps_pair.Goals as goal

pub returns-then-meets_split_marks : goal.returns-then-meets_split_marks
returns-then-meets_split_marks c =
    let params = c.args.history.now.scope.params in
    let first = c.args.history.now.scope.first in
    let p = c.args.history.now.padded.now in
    let marks = c.args.history.now.marks.now in (
      λ t. meets_from params first p marks (subst (λ ms. (at : ℕ) → Contains ms (SplitRest at) → IsCaSplit params first p at) c.items.ensures (c.if-meets_split_marks.ensures.0 refl)) (c.are_paired.ensures.0 t),
      λ h. c.are_paired.ensures.1 (meets_pairs params first p marks h),
    )
