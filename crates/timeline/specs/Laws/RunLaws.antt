-- What follows from runs being joined and apart.
use Rattle.std.proofs.Common.{◌≡◌, ℕ, ◌+◌, ◌-◌, ◌<◌, ◌≤◌, ◌≢◌, List, [], ◌∷◌, ◌++◌, length, get_or, take, sym, ◌∙◌, ap, subst, arith, length-append, zero, suc, refl}
use Rattle.std.proofs.lemmas.List.{length-replicate, get_or_append_left, get_or-append_right, get_or-replicate, append_cancel_left}
use Rattle.duty_core.specs.declared.activity.Activity.{Activity}
use Rattle.duty_core.specs.declared.activity.Activity.TheVariants.{Off}
use Rattle.duty_core.specs.History.{unit_at}
use Rattle.timeline.specs.declared.run.Run.{Run}
use Rattle.timeline.specs.Runs.{units_of, spread, AreJoined, AreApart, AreRuns}

-- joined runs stand for as many units as lie between their ends
pub length-spread : (runs : List Run) (from to : ℕ) → AreJoined runs from to → from + length (spread runs) ≡ to
length-spread [] from to joined = omega (arith, joined)
length-spread (run ∷ later) from to joined =
    omega (arith, joined.0, joined.1, length-append (units_of run) (spread later), length-replicate (run.to - run.from) run.act, length-spread later run.to to joined.2)

-- joined runs end where their units do
pub joined_to_length : (runs : List Run) (to : ℕ) → AreJoined runs 0 to → AreJoined runs 0 (length (spread runs))
joined_to_length runs to joined =
    let e : to ≡ length (spread runs) = omega (arith, length-spread runs 0 to joined) in subst (λ n. AreJoined runs 0 n) e joined

-- each run ends after the place where the first begins, and no later than the last ends
pub run_ends : (runs : List Run) (from to i : ℕ) (d : Run) → AreJoined runs from to → i < length runs → (from < (get_or runs i d).to) × ((get_or runs i d).to ≤ to)
run_ends [] from to i d joined inside = absurd (omega arith)
run_ends (run ∷ later) from to zero d joined inside = (joined.1, omega (arith, length-spread later run.to to joined.2))
run_ends (run ∷ later) from to (suc i) d joined inside =
    let rest = run_ends later run.to to i d joined.2 (omega arith) in (omega (arith, joined.1, rest.0), rest.1)

-- each run begins no earlier than the first
pub run_begins : (runs : List Run) (from to i : ℕ) (d : Run) → AreJoined runs from to → i < length runs → from ≤ (get_or runs i d).from
run_begins [] from to i d joined inside = absurd (omega arith)
run_begins (run ∷ later) from to zero d joined inside = omega (arith, joined.0)
run_begins (run ∷ later) from to (suc i) d joined inside = omega (arith, joined.1, run_begins later run.to to i d joined.2 (omega arith))

-- no run is empty
pub run_some : (runs : List Run) (from to i : ℕ) (d : Run) → AreJoined runs from to → i < length runs → (get_or runs i d).from < (get_or runs i d).to
run_some [] from to i d joined inside = absurd (omega arith)
run_some (run ∷ later) from to zero d joined inside = omega (arith, joined.0, joined.1)
run_some (run ∷ later) from to (suc i) d joined inside = run_some later run.to to i d joined.2 (omega arith)

-- the runs before a run stand for the units before it
pub length-spread-take : (runs : List Run) (from to i : ℕ) (d : Run) → AreJoined runs from to → i < length runs → from + length (spread (take i runs)) ≡ (get_or runs i d).from
length-spread-take [] from to i d joined inside = absurd (omega arith)
length-spread-take (run ∷ later) from to zero d joined inside = omega (arith, joined.0)
length-spread-take (run ∷ later) from to (suc i) d joined inside =
    omega (arith, joined.0, joined.1, length-append (units_of run) (spread (take i later)), length-replicate (run.to - run.from) run.act, length-spread-take later run.to to i d joined.2 (omega arith))

-- a unit of a run has the run's activity
pub unit_of_run : (runs : List Run) (from to i k : ℕ) (d : Run) → AreJoined runs from to → i < length runs → (get_or runs i d).from ≤ k → k < (get_or runs i d).to → get_or (spread runs) (k - from) Off ≡ (get_or runs i d).act
unit_of_run [] from to i k d joined inside low high = absurd (omega arith)
unit_of_run (run ∷ later) from to zero k d joined inside low high =
    let n : k - from < run.to - run.from = omega (arith, joined.0) in
    let l : k - from < length (units_of run) = omega (arith, length-replicate (run.to - run.from) run.act) in
    get_or_append_left (units_of run) (spread later) Off (k - from) l ∙ get_or-replicate (run.to - run.from) (k - from) run.act Off n
unit_of_run (run ∷ later) from to (suc i) k d joined inside low high =
    let begin = run_begins later run.to to i d joined.2 (omega arith) in
    let n : length (units_of run) ≡ run.to - run.from = length-replicate (run.to - run.from) run.act in
    let e : (k - from) - (run.to - run.from) ≡ k - run.to = omega (arith, joined.0, joined.1, begin, low) in
    get_or-append_right (units_of run) (spread later) (run.to - run.from) (k - from) Off n (omega (arith, joined.0, joined.1, begin, low)) ∙ (ap (λ j. get_or (spread later) j Off) e ∙ unit_of_run later run.to to i k d joined.2 (omega arith) low high)

-- the runs that follow one another from a place, with neighbours apart, are those of their units: a longer run in the place of the first has another unit
no_longer : (run other : Run) (later others : List Run) (from to end : ℕ) → AreJoined (run ∷ later) from to → AreJoined (other ∷ others) from end → AreApart (run ∷ later) → run.act ≡ other.act → spread (run ∷ later) ≡ spread (other ∷ others) → run.to < other.to → ⊥
no_longer run other [] others from to end joined joint apart same units longer =
    omega (arith, joined.2, length-spread (run ∷ []) from to joined, length-spread (other ∷ others) from end joint, length-spread others other.to end joint.2, ap length units)
no_longer run other (next ∷ later) others from to end joined joint apart same units longer =
    let here : get_or (spread (run ∷ (next ∷ later))) (run.to - from) Off ≡ next.act = unit_of_run (run ∷ (next ∷ later)) from to 1 run.to run joined (omega arith) (omega (arith, joined.2.0)) (omega (arith, joined.2.1)) in
    let there : get_or (spread (other ∷ others)) (run.to - from) Off ≡ other.act = unit_of_run (other ∷ others) from end 0 run.to run joint (omega arith) (omega (arith, joint.0, joined.1)) longer in
    apart.0 (same ∙ (sym there ∙ (ap (λ xs. get_or xs (run.to - from) Off) (sym units) ∙ here)))

same_run : (run other : Run) → run.act ≡ other.act → run.from ≡ other.from → run.to ≡ other.to → run ≡ other
same_run run other act from to =
    let by_act : Activity → Run = λ x. record { act = x; from = run.from; to = run.to } in
    let by_from : ℕ → Run = λ n. record { act = other.act; from = n; to = run.to } in
    let by_to : ℕ → Run = λ n. record { act = other.act; from = other.from; to = n } in
    ap by_act act ∙ (ap by_from from ∙ ap by_to to)

unique_from : (runs others : List Run) (from to end : ℕ) → AreJoined runs from to → AreJoined others from end → AreApart runs → AreApart others → spread runs ≡ spread others → runs ≡ others
unique_from [] [] from to end joined joint apart aside units = refl
unique_from [] (other ∷ others) from to end joined joint apart aside units =
    absurd (omega (arith, joint.1, length-spread (other ∷ others) from end joint, length-spread others other.to end joint.2, ap length units))
unique_from (run ∷ later) [] from to end joined joint apart aside units =
    absurd (omega (arith, joined.1, length-spread (run ∷ later) from to joined, length-spread later run.to to joined.2, ap length units))
unique_from (run ∷ later) (other ∷ others) from to end joined joint apart aside units =
    let here : get_or (spread (run ∷ later)) (from - from) Off ≡ run.act = unit_of_run (run ∷ later) from to 0 from run joined (omega arith) (omega (arith, joined.0)) joined.1 in
    let there : get_or (spread (other ∷ others)) (from - from) Off ≡ other.act = unit_of_run (other ∷ others) from end 0 from run joint (omega arith) (omega (arith, joint.0)) joint.1 in
    let act : run.act ≡ other.act = sym here ∙ (ap (λ xs. get_or xs (from - from) Off) units ∙ there) in
    let up : run.to < other.to → ⊥ = no_longer run other later others from to end joined joint apart act units in
    let down : other.to < run.to → ⊥ = no_longer other run others later from end to joint joined aside (sym act) (sym units) in
    let to_is : run.to ≡ other.to = omega (arith, up, down) in
    let is : run ≡ other = same_run run other act (joined.0 ∙ sym joint.0) to_is in
    let rest : spread later ≡ spread others = append_cancel_left (units_of run) (spread later) (spread others) (units ∙ ap (λ r. units_of r ++ spread others) (sym is)) in
    let joint_rest : AreJoined others run.to end = subst (λ n. AreJoined others n end) (sym to_is) joint.2 in
    let later_is : later ≡ others = unique_from later others run.to to end joined.2 joint_rest apart.1 aside.1 rest in
    ap (λ r. r ∷ later) is ∙ ap (λ rs. other ∷ rs) later_is

-- a list of units has one list of runs
pub runs_unique : (runs others : List Run) (units : List Activity) → AreRuns runs units → AreRuns others units → runs ≡ others
runs_unique runs others units these those = unique_from runs others 0 (length units) (length units) these.joined those.joined these.apart those.apart (these.spread ∙ sym those.spread)

-- the first run begins at the first unit
pub first_run : (runs : List Run) (units : List Activity) (d : Run) → AreRuns runs units → 0 < length runs → (get_or runs 0 d).from ≡ 0
first_run [] units d these some = absurd (omega arith)
first_run (run ∷ later) units d these some = these.joined.0

next_from : (runs : List Run) (from to i : ℕ) (d : Run) → AreJoined runs from to → AreApart runs → i + 1 < length runs → ((get_or runs (suc i) d).from ≡ (get_or runs i d).to) × ((get_or runs i d).act ≢ (get_or runs (suc i) d).act)
next_from [] from to i d joined apart inside = absurd (omega arith)
next_from (run ∷ []) from to i d joined apart inside = absurd (omega arith)
next_from (run ∷ (next ∷ later)) from to zero d joined apart inside = (joined.2.0, apart.0)
next_from (run ∷ (next ∷ later)) from to (suc i) d joined apart inside = next_from (next ∷ later) run.to to i d joined.2 apart.1 (omega arith)

-- each run begins where the one before ends, and has another activity
pub next_run : (runs : List Run) (units : List Activity) (i : ℕ) (d : Run) → AreRuns runs units → i + 1 < length runs → ((get_or runs (suc i) d).from ≡ (get_or runs i d).to) × ((get_or runs i d).act ≢ (get_or runs (suc i) d).act)
next_run runs units i d these inside = next_from runs 0 (length units) i d these.joined these.apart inside

-- a run is not empty, lies within the units, and each unit from its beginning up to its end has its activity
pub record IsRunOf (units : List Activity) (run : Run) : Type 0 where
  pub some : run.from < run.to
  pub inside : run.to ≤ length units
  pub same : (k : ℕ) → run.from ≤ k → k < run.to → unit_at units k ≡ run.act

pub each_run : (runs : List Run) (units : List Activity) (i : ℕ) (d : Run) → AreRuns runs units → i < length runs → IsRunOf units (get_or runs i d)
each_run runs units i d these inside =
    record {
      some = run_some runs 0 (length units) i d these.joined inside;
      inside = (run_ends runs 0 (length units) i d these.joined inside).1;
      same = λ k low high. let e : k ≡ k - 0 = omega arith in ap (λ xs. get_or xs k Off) (sym these.spread) ∙ (ap (λ n. get_or (spread runs) n Off) e ∙ unit_of_run runs 0 (length units) i k d these.joined inside low high);
    }
