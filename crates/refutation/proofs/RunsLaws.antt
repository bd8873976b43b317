-- Maximal runs, with one more step.
use Rattle.std.proofs.Common.{◌≡◌, ◌≢◌, ◌+◌, ◌<◌, ◌≤◌, List, [], ◌∷◌, ◌++◌, length, replicate, Option, None, Some, sym, ap, subst, arith, length-append}
use Rattle.std.proofs.lemmas.List.{length-replicate}
use Rattle.std.proofs.lemmas.List.Concat.{flat_map-cons}
use Rattle.duty_core.specs.declared.activity.Activity.{Activity}
use Rattle.rule_core.specs.declared.numbers.TheConstants.{NUMBER_LIMIT}
use Rattle.cert_text.specs.declared.cert.StepRun.{StepRun}
use Rattle.cert_text.specs.Cert.{acts_of_runs}
use Rattle.cert_text.specs.Text.Form.{AreRunForms}
use Rattle.refutation.specs.Runs.{AreMaximal, AreSoFar}

-- a run more, of another activity than the last one
pub maximal_more : (before : Option Activity) (runs : List StepRun) (r s : StepRun) → AreMaximal before (runs ++ r ∷ []) → 1 ≤ s.count → Some r.act ≢ Some s.act → AreMaximal before ((runs ++ r ∷ []) ++ s ∷ [])
maximal_more before [] r s h some other = (h.0, h.1, (some, other, tt))
maximal_more before (x ∷ runs) r s h some other = (h.0, h.1, maximal_more (Some x.act) runs r s h.2 some other)

-- a step more in the last run
pub maximal_longer : (before : Option Activity) (runs : List StepRun) (r s : StepRun) → AreMaximal before (runs ++ r ∷ []) → r.act ≡ s.act → 1 ≤ s.count → AreMaximal before (runs ++ s ∷ [])
maximal_longer before [] r s h same some = (some, subst (λ a. before ≢ Some a) same h.1, tt)
maximal_longer before (x ∷ runs) r s h same some = (h.0, h.1, maximal_longer (Some x.act) runs r s h.2 same some)

-- the steps of a run and of those after it
steps_of_run : (r : StepRun) (runs : List StepRun) → length (acts_of_runs (r ∷ runs)) ≡ r.count + length (acts_of_runs runs)
steps_of_run r runs =
    let a = ap length (flat_map-cons (λ (x : StepRun). replicate x.count x.act) r runs) in
    let b = length-append (replicate r.count r.act) (acts_of_runs runs) in
    let c = length-replicate r.count r.act in
    omega (arith, a, b, c)

-- there are no more runs than steps
pub few_runs : (before : Option Activity) (runs : List StepRun) → AreMaximal before runs → length runs ≤ length (acts_of_runs runs)
few_runs before [] h = omega arith
few_runs before (r ∷ runs) h =
    let later = few_runs (Some r.act) runs h.2 in
    let steps = steps_of_run r runs in
    let some = h.0 in
    omega (arith, later, steps, some)

-- the runs of few steps can be written down
pub run_forms : (before : Option Activity) (runs : List StepRun) → AreMaximal before runs → length (acts_of_runs runs) < NUMBER_LIMIT → AreRunForms before runs
run_forms before [] h few = tt
run_forms before (r ∷ runs) h few =
    let steps = steps_of_run r runs in
    (record { some = h.0; few = omega (arith, steps, few); other = h.1 }, run_forms (Some r.act) runs h.2 (omega (arith, steps, few)))

-- the first step
pub first_so_far : (runs : List StepRun) (last : Option StepRun) (r : StepRun) → last ≡ None → 1 ≤ r.count → AreSoFar runs last → AreMaximal None (runs ++ r ∷ [])
first_so_far runs last r is some h =
    let nothing : runs ≡ [] = subst (AreSoFar runs) is h in
    subst (λ rs. AreMaximal None (rs ++ r ∷ [])) (sym nothing) (some, none, tt)
  where
    none : ◌≡◌ {A = Option Activity} None (Some r.act) → ⊥
    none e = absurd cc

-- a step of the same activity as the one before
pub longer_so_far : (runs : List StepRun) (last : Option StepRun) (r s : StepRun) → last ≡ Some r → r.act ≡ s.act → 1 ≤ s.count → AreSoFar runs last → AreMaximal None (runs ++ s ∷ [])
longer_so_far runs last r s is same some h = maximal_longer None runs r s (subst (AreSoFar runs) is h) same some

-- and of another one
pub more_so_far : (runs new : List StepRun) (last : Option StepRun) (r s : StepRun) → last ≡ Some r → new ≡ runs ++ r ∷ [] → (r.act ≡ s.act → ⊥) → 1 ≤ s.count → AreSoFar runs last → AreMaximal None (new ++ s ∷ [])
more_so_far runs new last r s is put other some h =
    subst (λ rs. AreMaximal None (rs ++ s ∷ [])) (sym put) (maximal_more None runs r s (subst (AreSoFar runs) is h) some differ)
  where
    differ : ◌≡◌ {A = Option Activity} (Some r.act) (Some s.act) → ⊥
    differ e = other (let same : r.act ≡ s.act = cc in same)
