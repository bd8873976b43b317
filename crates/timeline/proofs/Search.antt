-- Where a search by the runs' ends stops.
use Rattle.std.proofs.Common.{◌≡◌, ℕ, ◌-◌, ◌<◌, ◌≤◌, true, false, leb, List, [], ◌∷◌, length, get_or, inl, inr, ap, ◌∙◌, arith, suc, zero}
use Rattle.std.specs.List.Sorted.{IsNonDecreasingBy, IsPartitionPoint}
use Rattle.std.proofs.lemmas.Bool.{cases_lt, leb-true}
use Rattle.std.proofs.lemmas.Bool.Decides.{nat_tests}
use Rattle.duty_core.specs.declared.activity.Activity.TheVariants.{Off}
use Rattle.timeline.specs.declared.run.Run.{Run}
use Rattle.timeline.specs.Runs.{spread, AreJoined, AreRuns}
use Rattle.timeline.specs.Laws.RunLaws.{run_ends, unit_of_run}

-- the runs' ends rise
pub ends_rise : (runs : List Run) (from to : ℕ) → AreJoined runs from to → IsNonDecreasingBy (λ run. run.to) runs
ends_rise [] from to joined i j d le inside = absurd (omega arith)
ends_rise (run ∷ later) from to joined zero zero d le inside = omega arith
ends_rise (run ∷ later) from to joined zero (suc j) d le inside =
    let e = run_ends later run.to to j d joined.2 (omega arith) in omega (arith, e.0)
ends_rise (run ∷ later) from to joined (suc i) zero d le inside = absurd (omega arith)
ends_rise (run ∷ later) from to joined (suc i) (suc j) d le inside = ends_rise later run.to to joined.2 i j d (omega arith) (omega arith)

-- a place before the end is before the end of some run
stops : (runs : List Run) (from to k : ℕ) → AreJoined runs from to → from ≤ k → k < to → ((j : ℕ) (d : Run) → j < length runs → (get_or runs j d).to ≤ k) → ⊥
stops [] from to k joined low high past = omega (arith, joined)
stops (run ∷ later) from to k joined low high past =
    stops later run.to to k joined.2 (past 0 run (omega arith)) high (λ j d l. past (suc j) d (omega arith))

-- the first run that ends after the place begins before it
begins_low : (runs : List Run) (from to k i : ℕ) (d : Run) → AreJoined runs from to → i < length runs → from ≤ k → ((j : ℕ) (e : Run) → j < i → (get_or runs j e).to ≤ k) → (get_or runs i d).from ≤ k
begins_low [] from to k i d joined inside low past = absurd (omega arith)
begins_low (run ∷ later) from to k zero d joined inside low past = omega (arith, joined.0)
begins_low (run ∷ later) from to k (suc i) d joined inside low past =
    begins_low later run.to to k i d joined.2 (omega arith) (past 0 run (omega arith)) (λ j e l. past (suc j) e (omega arith))

-- the place is in the first run that ends after it
pub record IsFound (runs : List Run) (k i : ℕ) (d : Run) : Type 0 where
  pub inside : i < length runs
  pub unit : get_or (spread runs) k Off ≡ (get_or runs i d).act

pub found : (runs : List Run) (k i : ℕ) (d : Run) → AreRuns runs (spread runs) → k < length (spread runs) → i ≤ length runs → IsPartitionPoint (λ run. leb run.to k ≡ true) (λ run. leb run.to k ≡ false) runs i → IsFound runs k i d
found runs k i d kept within bound point =
    let past : (j : ℕ) (e : Run) → j < i → (get_or runs j e).to ≤ k = λ j e l. leb-true (get_or runs j e).to k (point.0 j e (omega arith) l) in
    let inside : i < length runs = elim (cases_lt i (length runs)) [
      | inl l ↦ l
      | inr l ↦ absurd (stops runs 0 (length (spread runs)) k kept.joined (omega arith) within (λ j e m. past j e (omega arith)))
    ] in
    let here : k ≡ k - 0 = omega arith in
    let high : k < (get_or runs i d).to = grind (arith, nat_tests, point.1 i d (omega arith) inside) in
    record {
      inside = inside;
      unit = ap (λ n. get_or (spread runs) n Off) here ∙ unit_of_run runs 0 (length (spread runs)) i k d kept.joined inside (begins_low runs 0 (length (spread runs)) k i d kept.joined inside (omega arith) past) high;
    }
