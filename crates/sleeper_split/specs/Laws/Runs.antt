-- Many equal units at once.
use Rattle.std.proofs.Common.{◌≡◌, ℕ, ◌+◌, ◌≤◌, Bool, true, false, refl, sym, ◌∙◌, ap, arith, zero, suc}
use Rattle.std.specs.Prelude.{max, Option}
use Rattle.sleeper_split.specs.declared.count.Used.{Used}
use Rattle.sleeper_split.specs.declared.count.OpenRun.{OpenRun}
use Rattle.sleeper_split.specs.declared.count.WaitingRest.{WaitingRest}
use Rattle.sleeper_split.specs.declared.count.SplitCount.{SplitCount}
use Rattle.sleeper_split.specs.Machine.{made, no_run, one_more, longer, rested, after_rest, worked, after_duty}
use Rattle.sleeper_split.specs.Runs.{repeated, more, longer_run, rested_run, worked_run}

-- so many units of rest at once
abbrev pub rest_run : Bool → ℕ → SplitCount → SplitCount
rest_run berth n s = made (longer_run berth n s.run) (rested_run n s.base) (rested_run n s.last) s.waiting

-- so many units of duty at once
abbrev pub duty_run : Bool → ℕ → SplitCount → SplitCount
duty_run drive n s = made no_run (worked_run drive n s.base) (worked_run drive n s.last) s.waiting

-- # They are the same

abbrev as_run : ℕ → ℕ → ℕ → OpenRun
as_run a b c = record { long = a; stretch = b; longest = c }

abbrev as_used : ℕ → ℕ → ℕ → Used
as_used a b c = record { driving = a; duty = b; elapsed = c }

open_run_same : (a b c d e f : ℕ) → a ≡ d → b ≡ e → c ≡ f → as_run a b c ≡ as_run d e f
open_run_same a b c d e f h g k = ap (λ x. as_run x b c) h ∙ (ap (λ y. as_run d y c) g ∙ ap (λ z. as_run d e z) k)

used_same : (a b c d e f : ℕ) → a ≡ d → b ≡ e → c ≡ f → as_used a b c ≡ as_used d e f
used_same a b c d e f h g k = ap (λ x. as_used x b c) h ∙ (ap (λ y. as_used d y c) g ∙ ap (λ z. as_used d e z) k)

made_same : (r q : OpenRun) (a b c d : Used) (w : Option WaitingRest) → r ≡ q → a ≡ b → c ≡ d → made r a c w ≡ made q b d w
made_same r q a b c d w h g k = ap (λ x. made x a c w) h ∙ (ap (λ y. made q y c w) g ∙ ap (λ z. made q b z w) k)

longer_more : (berth : Bool) (n : ℕ) (r : OpenRun) → longer_run berth n (longer berth r) ≡ longer_run berth (n + 1) r
longer_more true n r = open_run_same (more n (one_more r.long)) (more n (one_more r.stretch)) (max (max r.longest (one_more r.stretch)) (more n (one_more r.stretch))) (more (n + 1) r.long) (more (n + 1) r.stretch) (max r.longest (more (n + 1) r.stretch)) (omega arith) (omega arith) (omega arith)
longer_more false n r = open_run_same (more n (one_more r.long)) 0 (max (max r.longest 0) 0) (more (n + 1) r.long) 0 (max r.longest 0) (omega arith) refl (omega arith)

rested_more : (n : ℕ) (u : Used) → rested_run n (rested u) ≡ rested_run (n + 1) u
rested_more n u = used_same u.driving u.duty (more n (one_more u.elapsed)) u.driving u.duty (more (n + 1) u.elapsed) refl refl (omega arith)

worked_more : (drive : Bool) (n : ℕ) (u : Used) → worked_run drive n (worked drive u) ≡ worked_run drive (n + 1) u
worked_more true n u = used_same (more n (one_more u.driving)) (more n (one_more u.duty)) (more n (one_more u.elapsed)) (more (n + 1) u.driving) (more (n + 1) u.duty) (more (n + 1) u.elapsed) (omega arith) (omega arith) (omega arith)
worked_more false n u = used_same u.driving (more n (one_more u.duty)) (more n (one_more u.elapsed)) u.driving (more (n + 1) u.duty) (more (n + 1) u.elapsed) refl (omega arith) (omega arith)

rest_more : (berth : Bool) (n : ℕ) (s : SplitCount) → rest_run berth n (after_rest berth s) ≡ rest_run berth (n + 1) s
rest_more berth n s = made_same (longer_run berth n (longer berth s.run)) (longer_run berth (n + 1) s.run) (rested_run n (rested s.base)) (rested_run (n + 1) s.base) (rested_run n (rested s.last)) (rested_run (n + 1) s.last) s.waiting (longer_more berth n s.run) (rested_more n s.base) (rested_more n s.last)

duty_more : (drive : Bool) (n : ℕ) (s : SplitCount) → duty_run drive n (after_duty drive s) ≡ duty_run drive (n + 1) s
duty_more drive n s = made_same no_run no_run (worked_run drive n (worked drive s.base)) (worked_run drive (n + 1) s.base) (worked_run drive n (worked drive s.last)) (worked_run drive (n + 1) s.last) s.waiting refl (worked_more drive n s.base) (worked_more drive n s.last)

-- Many units at once are what they are one by one.
pub rest_run_is : (berth : Bool) (n : ℕ) (s : SplitCount) → repeated (after_rest berth) (suc n) s ≡ rest_run berth (n + 1) s
rest_run_is berth zero s = refl
rest_run_is berth (suc n) s = rest_run_is berth n (after_rest berth s) ∙ (rest_more berth (n + 1) s ∙ ap (λ k. rest_run berth k s) (let e : n + 1 + 1 ≡ suc n + 1 = omega arith in e))

pub duty_run_is : (drive : Bool) (n : ℕ) (s : SplitCount) → repeated (after_duty drive) (suc n) s ≡ duty_run drive (n + 1) s
duty_run_is drive zero s = refl
duty_run_is drive (suc n) s = duty_run_is drive n (after_duty drive s) ∙ (duty_more drive (n + 1) s ∙ ap (λ k. duty_run drive k s) (let e : n + 1 + 1 ≡ suc n + 1 = omega arith in e))

-- by the number of units
pub rests_at_once : (berth : Bool) (n : ℕ) (s : SplitCount) → 1 ≤ n → rest_run berth n s ≡ repeated (after_rest berth) n s
rests_at_once berth zero s l = absurd (omega arith)
rests_at_once berth (suc n) s l = ap (λ k. rest_run berth k s) (let e : suc n ≡ n + 1 = omega arith in e) ∙ sym (rest_run_is berth n s)

pub works_at_once : (drive : Bool) (n : ℕ) (s : SplitCount) → 1 ≤ n → duty_run drive n s ≡ repeated (after_duty drive) n s
works_at_once drive zero s l = absurd (omega arith)
works_at_once drive (suc n) s l = ap (λ k. duty_run drive k s) (let e : suc n ≡ n + 1 = omega arith in e) ∙ sym (duty_run_is drive n s)
