-- Each lawful step keeps what holds of the counts of each history.
use Rattle.std.proofs.Common.{◌≡◌, ℕ, ◌<◌, ◌≤◌, true, false, refl, sym, subst, arith, inl, inr}
use Rattle.std.specs.Prelude.{nat_le}
use Rattle.std.proofs.lemmas.Bool.{cases_lt}
use Rattle.std.proofs.lemmas.Bool.Decides.{nat_tests}
use Rattle.rest_bound.specs.declared.limits.Limits.{Limits}
use Rattle.rest_bound.specs.declared.counts.Counts.{Counts}
use Rattle.rest_bound.specs.Ends.{Plan}
use Rattle.rest_bound.specs.Runs.{after_full, after_undeclared, after_duty, after_split, idled, AreCounts}

-- duty after a run that is a full rest
pub duty_full : (l : Limits) (d b : ℕ) (c : Counts) → l.full_rest ≤ c.run → after_duty l d b c ≡ after_full d b
duty_full l d b c h = let e : nat_le l.full_rest c.run ≡ true = grind (arith, nat_tests) in rw e refl

-- and after one that is none
pub duty_on : (l : Limits) (d b : ℕ) (c : Counts) → c.run < l.full_rest → after_duty l d b c ≡ after_undeclared d b c
duty_on l d b c h = let e : nat_le l.full_rest c.run ≡ false = grind (arith, nat_tests) in rw e refl

counts_full : (plan : Plan) (q d b : ℕ) → AreCounts plan q (after_full d b)
counts_full plan q d b = record { shorter = omega arith; fewer = omega arith; rests = λ h. absurd (omega arith) }

counts_on : (plan : Plan) (p q d b : ℕ) (c : Counts) → AreCounts plan p c → AreCounts plan q (after_undeclared d b c)
counts_on plan p q d b c i = let x = i.shorter in let y = i.fewer in record { shorter = omega arith; fewer = omega arith; rests = λ h. absurd (omega arith) }

-- before piece p the counts c, and before piece q those after a step of duty
pub counts_duty : (plan : Plan) (l : Limits) (p q d b : ℕ) (c : Counts) → AreCounts plan p c → AreCounts plan q (after_duty l d b c)
counts_duty plan l p q d b c i = elim (cases_lt c.run l.full_rest) [
  | inl a ↦ subst (AreCounts plan q) (sym (duty_on l d b c a)) (counts_on plan p q d b c i)
  | inr a ↦ subst (AreCounts plan q) (sym (duty_full l d b c a)) (counts_full plan q d b)
]

pub counts_split : (plan : Plan) (q d b : ℕ) (c : Counts) → AreCounts plan q (after_split d b c)
counts_split plan q d b c = record { shorter = omega arith; fewer = omega arith; rests = λ h. absurd (omega arith) }

pub counts_idle : (plan : Plan) (p : ℕ) (c : Counts) → plan.idles p ≡ true → AreCounts plan p c → AreCounts plan p (idled c)
counts_idle plan p c q i = let x = i.shorter in let y = i.fewer in record { shorter = omega arith; fewer = omega arith; rests = λ h. q }
