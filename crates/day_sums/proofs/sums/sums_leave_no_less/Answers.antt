use Rattle.std.proofs.Common.{◌≡◌, ℕ, ◌+◌, ◌-◌, ◌≤◌, length, slice_index_or, sym, ◌∙◌, ap, subst, arith, suc}
use Rattle.duty_core.specs.declared.limits.TheConstants.{DAY_MINUTES}
use Rattle.day_sums.specs.Sums.{first_days, leaves_no_less, LeavesNoLess}
use Rattle.day_sums.specs.Laws.LeftLaws.{leaves_decides, leaves_fails, leaves_none, leaves_one_more}
use Rattle.day_sums.proofs.KeptLaws.{first_more}
use Rattle.day_sums.proofs.sums.sums_leave_no_less.Goals as goal

-- a number of days leaves less
pub returns-then-left-left_other : goal.returns-then-left-left_other
returns-then-left-left_other c =
    let a = c.args.sums.now in
    let b = c.args.others.now in
    let n : ℕ = c.loop-n.n in
    let same = c.requires.same in
    let below = c.loop-n-test.true in
    let more = first_more n a 0 (omega arith) in
    let other = first_more n b 0 (omega arith) in
    let x = c.loop-n.invariant.sum in
    let y = c.loop-n.invariant.other_sum in
    let p = c.saturating_sub-left.ensures in
    let q = c.saturating_sub-left_other.ensures in
    let l = c.if-left-left_other.true in
    sym (leaves_fails c.args.limit (length a) (suc n) a b (omega arith) (omega arith))

-- one day more
pub loop-n-preserved : goal.loop-n-preserved
loop-n-preserved c =
    let a = c.args.sums.now in
    let b = c.args.others.now in
    let n : ℕ = c.loop-n.n in
    let same = c.requires.same in
    let below = c.loop-n-test.true in
    let more = first_more n a 0 (omega arith) in
    let other = first_more n b 0 (omega arith) in
    let i = c.loop-n.invariant in
    let x = i.sum in
    let y = i.other_sum in
    let small : slice_index_or a n 0 ≤ DAY_MINUTES = c.requires.kept.within n 0 (omega arith) in
    let other_small : slice_index_or b n 0 ≤ DAY_MINUTES = c.requires.others_kept.within n 0 (omega arith) in
    let u = i.small in
    let v = i.other_small in
    let one : suc n ≡ n + 1 = omega arith in
    let p = c.saturating_sub-left.ensures in
    let q = c.saturating_sub-left_other.ensures in
    let l = c.if-left-left_other.false in
    record {
      sum = (let e : c.loop-n.first + slice_index_or a n 0 ≡ first_days (suc n) a = omega arith in e ∙ ap (λ m. first_days m a) one);
      other_sum = (let e : c.loop-n.other + slice_index_or b n 0 ≡ first_days (suc n) b = omega arith in e ∙ ap (λ m. first_days m b) one);
      small = omega arith;
      other_small = omega arith;
      so_far = leaves_one_more c.args.limit n (n + 1) a b one i.so_far (omega arith);
    }

-- no number of days does
pub returns : goal.returns
returns c =
    let a = c.args.sums.now in
    let b = c.args.others.now in
    let e : c.loop-n.n ≡ length a = (let z = c.loop-n-test.false in let y = c.loop-n.auto.n-end in omega arith) in
    sym ((leaves_decides c.args.limit (length a) a b).1 (subst (λ m. LeavesNoLess c.args.limit m a b) e c.loop-n.invariant.so_far))
