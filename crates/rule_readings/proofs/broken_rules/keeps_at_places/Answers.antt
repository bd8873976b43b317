use Rattle.std.proofs.Common.{ℕ, length, refl, sym, ap, subst, arith, inl, inr}
use Rattle.std.proofs.lemmas.Bool.{cases_lt, cases_eq, iff_false}
use Rattle.rule_readings.specs.declared.measure.Asked.{Asked}
use Rattle.rule_readings.specs.declared.scope.Span.{Span}
use Rattle.rule_readings.specs.Values.{IsMeasured, MeetsAsked}
use Rattle.rule_readings.proofs.Within.{value_within, within_value}
use Rattle.rule_readings.proofs.RuleLaws.{kept_within, within_keeps, whole_is_all}
use Rattle.rule_readings.proofs.ValueLaws.{one_value, run_inside, value_before}
use Rattle.rule_readings.proofs.broken_rules.keeps_at_places.Goals as goal

pub loop-i-preserved : goal.loop-i-preserved
loop-i-preserved c k n l h =
    let asked = c.asked_of-asked.result in
    let Value = IsMeasured asked.measure c.args.history.now.scope c.args.history.now.padded.now c.args.history.now.marks.now in
    let i = c.loop-i.i in
    elim (cases_eq k i) [
      | inl q ↦
          let one = one_value asked.measure c.args.history.now.scope c.args.history.now.padded.now c.args.history.now.marks.now i in
          value_within (Value i) (MeetsAsked asked) c.value_at.result c.value_at.ensures one (c.is_within.ensures.0 c.if-not-is_within.false) n (subst (λ j. Value j n) q h)
      | inr q ↦ c.loop-i.invariant k n (omega arith) h
    ]

pub returns-then-not-is_within : goal.returns-then-not-is_within
returns-then-not-is_within c =
    let s = c.args.history.now.scope in
    let p = c.args.history.now.padded.now in
    let marks = c.args.history.now.marks.now in
    let i = c.loop-i.i in (
      (λ e. absurd (cc)),
      (λ k. absurd (iff_false c.is_within.ensures c.if-not-is_within.true
          (within_value (IsMeasured c.asked_of-asked.result.measure s p marks i) (MeetsAsked c.asked_of-asked.result) c.value_at.result c.value_at.ensures
          (subst (λ (a : Asked). (n : ℕ) → IsMeasured a.measure s p marks i n → MeetsAsked a n) (sym c.asked_of-asked.ensures) (λ n h. kept_within s p marks c.args.rule i n k h))))),
    )

pub returns : goal.returns
returns c =
    let s = c.args.history.now.scope in
    let p = c.args.history.now.padded.now in
    let marks = c.args.history.now.marks.now in
    let asked = c.asked_of-asked.result in
    let f = c.len-i-end.ensures.value in
    let planned = ap (λ (span : Span). span.to) c.requires.whole.planned in
    let history = ap (λ (span : Span). span.to) c.requires.whole.history in
    let met : (k n : ℕ) → IsMeasured asked.measure s p marks k n → MeetsAsked asked n =
    λ k n h. elim (cases_lt k c.loop-i.i) [
      | inl l ↦ c.loop-i.invariant k n l h
      | inr l ↦ (let m = value_before asked.measure s p marks (length p) (omega arith) (omega arith) (run_inside p) k n h in absurd (omega arith))
    ] in (
      (λ t. within_keeps s p marks c.args.rule c.requires.padded c.requires.places (whole_is_all s p c.requires.whole)
          (subst (λ (a : Asked). (k n : ℕ) → IsMeasured a.measure s p marks k n → MeetsAsked a n) c.asked_of-asked.ensures met)),
      (λ k. refl),
    )
