use Rattle.std.proofs.Common.{ap, ◌∙◌, refl, inl, inr, arith}
use Rattle.std.proofs.lemmas.Bool.{cases_lt}
use Rattle.duty_core.specs.Day.{day_number}
use Rattle.rule_readings.proofs.DayNumbers.{lost_early, lost_late}
use Rattle.rule_readings.proofs.deferral.keeps_off10.Goals as goal

pub returns : goal.returns
returns c = (
  λ t j. elim (cases_lt j c.day_of-begin.result) [
    | inl l ↦ (let h = lost_early c.args.history.now.scope.params c.args.history.now.scope.first c.args.history.now.padded.now j (let e = c.day_of-begin.ensures in omega arith) in inr (omega arith))
    | inr l ↦ elim (cases_lt j c.loop-number.number) [
      | inl m ↦ c.loop-number.invariant j l m
      | inr m ↦ (let h = lost_late c.args.history.now.scope.params c.args.history.now.scope.first c.args.history.now.padded.now j (let e = c.day_of-end.ensures ∙ ap (λ n. day_number c.args.history.now.scope.params c.args.history.now.scope.first n) c.len.ensures.value in omega arith) in inr (omega arith))
    ]
  ],
  λ h. refl,
)
