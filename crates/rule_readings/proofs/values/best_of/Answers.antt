use Rattle.std.proofs.Common.{◌+◌, sym, subst, arith}
use Rattle.std.proofs.lemmas.Bool.{iff_false}
use Rattle.rule_readings.specs.Best.{IsBestFound}
use Rattle.rule_readings.specs.Values.{IsMeasured}
use Rattle.rule_readings.proofs.BestLoop.{IsBelow, best_past, best_kept, best_new, best_all}
use Rattle.rule_readings.proofs.ValueLaws.{one_value, all_inside}
use Rattle.rule_readings.proofs.values.best_of.Goals as goal
use Rattle.rule_readings.proofs.values.best_of.Goals.{in-Some+then-beats, in-Some+else-beats, in_default}

pub loop-i-preserved : goal.loop-i-preserved
loop-i-preserved c =
    let order = c.order_of-order.result in
    let Value = IsMeasured c.args.measure c.args.history.now.scope c.args.history.now.padded.now c.args.history.now.marks.now in
    let i = c.loop-i.i in
    let old = c.loop-i.best in
    let one = one_value c.args.measure c.args.history.now.scope c.args.history.now.padded.now c.args.history.now.marks.now i in
    elim c.match-value_at.branch [
      | in-Some+then-beats w ↦
          let used = w.in-Some.used in
          subst (IsBestFound order (IsBelow Value (i + 1))) (sym w.best-is)
          (best_new order Value i used old w.in-Some.ensures (λ m. one used m w.in-Some.ensures) (w.beats.ensures.0 w.if-beats.true) c.loop-i.invariant)
      | in-Some+else-beats w ↦
          let used = w.in-Some.used in
          subst (IsBestFound order (IsBelow Value (i + 1))) (sym w.best-is)
          (best_kept order Value i used old (λ m. one used m w.in-Some.ensures) (iff_false w.beats.ensures w.if-beats.false) c.loop-i.invariant)
      | in_default w ↦ subst (IsBestFound order (IsBelow Value (i + 1))) (sym w.best-is) (best_past order Value i old w.in_default.ensures c.loop-i.invariant)
    ]

pub returns : goal.returns
returns c =
    let Value = IsMeasured c.args.measure c.args.history.now.scope c.args.history.now.padded.now c.args.history.now.marks.now in
    let i = c.loop-i.i in
    let l = c.len-i-end.ensures.value in
    subst (λ order. IsBestFound order Value c.loop-i.best) c.order_of-order.ensures
    (best_all c.order_of-order.result Value i c.loop-i.best (λ k n v. let m = all_inside c.args.measure c.args.history.now.scope c.args.history.now.padded.now c.args.history.now.marks.now c.requires.scope k n v in omega arith) c.loop-i.invariant)
