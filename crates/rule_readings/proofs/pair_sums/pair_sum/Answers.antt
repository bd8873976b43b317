use Rattle.std.proofs.Common.{sym, subst, arith}
use Rattle.duty_core.specs.Marks.{IsSplitAt}
use Rattle.rule_readings.specs.Count.{IsCount}
use Rattle.rule_readings.specs.Values.{IsPairSum}
use Rattle.rule_readings.proofs.PairSums.{first_is_split, next_is_first, pair_of}
use Rattle.rule_readings.proofs.pair_sums.pair_sum.Goals as goal
use Rattle.rule_readings.proofs.pair_sums.pair_sum.Goals.{then-one-i-via-then-one-i, then-one-i-via-else-one-i+then-one-full}

pub returns-then-one-i : goal.returns-then-one-i
returns-then-one-i c n h =
    let Marked = IsSplitAt c.args.history.now.scope.params c.args.history.now.scope.first c.args.history.now.marks.now in
    let one = c.in_ok-one.one in
    let e = first_is_split c.args.full c.args.history.now.padded.now Marked c.args.i h.to one.from one.to h.split c.in_ok-one.ensures in
    let x = e.from in
    let y = e.to in
    let s = h.split.short in
    elim c.then-one-i.branch [
      | then-one-i-via-then-one-i w ↦ w.if-one-i.true x
      | then-one-i-via-else-one-i+then-one-full w ↦ (let l = w.if-one-full.true in omega arith)
    ]

pub returns-in_err-next : goal.returns-in_err-next
returns-in_err-next c =
    let p = c.args.history.now.padded.now in
    let Marked = IsSplitAt c.args.history.now.scope.params c.args.history.now.scope.first c.args.history.now.marks.now in
    let one = c.in_ok-one.one in
    subst (IsCount (IsPairSum c.args.full p Marked c.args.i)) (sym c.from_residual-in_err-next.ensures) (λ n h.
    let e = first_is_split c.args.full p Marked c.args.i h.to one.from one.to h.split c.in_ok-one.ensures in
    let y = e.to in
    let f = next_is_first c.args.full p Marked c.args.i h.to h.from_next h.to_next h.next in
    let b = f.thereafter in
    c.in_err-next.ensures h.from_next h.to_next f.declared (omega arith))

pub returns : goal.returns
returns c =
    let one = c.in_ok-one.one in
    let next = c.in_ok-next.next in
    pair_of c.args.full c.args.history.now.padded.now (IsSplitAt c.args.history.now.scope.params c.args.history.now.scope.first c.args.history.now.marks.now) c.args.i one.from one.to next.from next.to c.if-one-i.false (let l = c.if-one-full.false in omega arith)
    c.in_ok-one.ensures c.in_ok-next.ensures
