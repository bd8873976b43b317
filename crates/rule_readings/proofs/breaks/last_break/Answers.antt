use Rattle.std.proofs.Common.{◌≡◌, ℕ, ◌-◌, ◌≤◌, MatchOption, subst, sym}
use Rattle.std.proofs.lemmas.Bool.{iff_false}
use Rattle.duty_core.specs.UsRules.{IsBreak, IsLastBreak}
use Rattle.rule_readings.proofs.BreakLaws.{NoneBehind, behind_less, after_all}
use Rattle.rule_readings.proofs.breaks.last_break.Goals as goal

pub returns-in_err-to : goal.returns-in_err-to
returns-in_err-to c =
    let p = c.args.padded.now in
    let i = c.args.i in
    let none = after_all p i c.loop-to.to c.loop-to.invariant (iff_false c.is_break.ensures c.loop-to-test.true) (λ l. c.in_err-to.ensures l) in
    subst (λ found. MatchOption found ((to : ℕ) → IsBreak p to → to ≤ i → ⊥) (λ to. IsLastBreak p i to)) (sym c.from_residual.ensures) none

pub loop-to-preserved : goal.loop-to-preserved
loop-to-preserved c =
    let s = c.in_ok-to.ensures in
    let q : c.loop-to.to - 1 ≡ c.in_ok-to.to = sym s.1 in
    subst (NoneBehind c.args.padded.now c.args.i) q (behind_less c.args.padded.now c.args.i c.loop-to.to c.loop-to.invariant (iff_false c.is_break.ensures c.loop-to-test.true) s.0)
