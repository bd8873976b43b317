use Rattle.std.proofs.Common.{refl, arith}
use Rattle.std.proofs.lemmas.Bool.{le-leb}
use Rattle.duty_core.specs.Marks.{IsSplitAt}
use Rattle.duty_core.specs.Laws.RunLaws.{run_inside}
use Rattle.duty_core.specs.Laws.UniqueLaws.{declared_run}
use Rattle.rule_readings.specs.Pairs.{IsPair}
use Rattle.rule_readings.proofs.DeclaredRuns.{declared_of}
use Rattle.rule_readings.proofs.PairRuns.{first_paired, full_paired, split_paired, paired_split}
use Rattle.rule_readings.proofs.pairs.pairs_with_last.Goals as goal

pub is_declared-requires-clause-inside : goal.is_declared-requires-clause-inside
is_declared-requires-clause-inside c = let r = run_inside c.args.history.now.padded.now c.args.next.from c.args.next.to c.requires.run in let s = c.requires.run.some in omega arith

pub is_pair-requires-clause-one : goal.is_pair-requires-clause-one
is_pair-requires-clause-one c =
    let r = run_inside c.args.history.now.padded.now c.args.next.from c.args.next.to c.requires.run in
    let s = c.requires.run.some in
    let b = c.in-Some.ensures.before in
    omega arith

pub is_pair-requires-clause-next : goal.is_pair-requires-clause-next
is_pair-requires-clause-next c = let r = run_inside c.args.history.now.padded.now c.args.next.from c.args.next.to c.requires.run in omega arith

pub returns-then-saturating_sub-terms : goal.returns-then-saturating_sub-terms
returns-then-saturating_sub-terms c =
    let Marked = IsSplitAt c.args.history.now.scope.params c.args.history.now.scope.first c.args.history.now.marks.now in
    let p = c.args.history.now.padded.now in
    let l = c.in-Some.ensures in
    let s = (declared_run c.args.terms.full p Marked c.in-Some.one.from c.in-Some.one.to l.declared).some in (
      (λ e. full_paired c.args.terms.full (IsPair c.args.terms p) p Marked c.in-Some.one.from c.in-Some.one.to c.args.next.from c.args.next.to l (omega arith)),
      (λ h. le-leb c.args.terms.full c.saturating_sub.result c.if-saturating_sub-terms.true),
    )

pub returns-else-saturating_sub-terms : goal.returns-else-saturating_sub-terms
returns-else-saturating_sub-terms c =
    let Marked = IsSplitAt c.args.history.now.scope.params c.args.history.now.scope.first c.args.history.now.marks.now in
    let p = c.args.history.now.padded.now in
    let l = c.in-Some.ensures in
    let s = (declared_run c.args.terms.full p Marked c.in-Some.one.from c.in-Some.one.to l.declared).some in
    let next = declared_of c.args.terms.full p Marked c.args.next.from c.args.next.to c.requires.run (c.is_declared.ensures.0 c.if-not-is_declared.false) in (
      (λ e. split_paired c.args.terms.full (IsPair c.args.terms p) p Marked c.in-Some.one.from c.in-Some.one.to c.args.next.from c.args.next.to l (c.is_pair.ensures.0 e)),
      (λ h. c.is_pair.ensures.1 (paired_split c.args.terms.full (IsPair c.args.terms p) p Marked c.in-Some.one.from c.in-Some.one.to c.args.next.from c.args.next.to next l (omega arith) h)),
    )

pub returns-in-None : goal.returns-in-None
returns-in-None c = (
  (λ e. first_paired c.args.terms.full (IsPair c.args.terms c.args.history.now.padded.now) c.args.history.now.padded.now (IsSplitAt c.args.history.now.scope.params c.args.history.now.scope.first c.args.history.now.marks.now) c.args.next.from c.args.next.to c.in-None.ensures),
  (λ h. refl),
)
