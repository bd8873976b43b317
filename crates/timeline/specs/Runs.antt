-- Runs of one activity, and the list of units that they stand for.
use Rattle.std.specs.Prelude.{◌≡◌, ◌≢◌, ℕ, ◌-◌, ◌<◌, ◌≤◌, List, [], ◌∷◌, length, replicate, slice_index_or}
use Rattle.std.specs.List.{flat_map}
use Rattle.duty_core.specs.declared.activity.Activity.{Activity}
use Rattle.duty_core.specs.declared.limits.TheConstants.{LONGEST_HISTORY}
use Rattle.timeline.specs.declared.run.Run.{Run}

-- the units of a run
abbrev pub units_of : Run → List Activity
units_of run = replicate (run.to - run.from) run.act

-- the units of the runs, one run after another
abbrev pub spread : List Run → List Activity
spread runs = flat_map units_of runs

-- The runs lead from place `from` to place `to`: each begins where the one before ends, and none is empty.
abbrev pub AreJoined : List Run → ℕ → ℕ → Type 0
AreJoined [] from to = from ≡ to
AreJoined (run ∷ later) from to = (run.from ≡ from) × (from < run.to) × AreJoined later run.to to

-- The first of the runs, if there is one, has another activity.
abbrev pub BeginsOther : Activity → List Run → Type 0
BeginsOther act [] = Unit {0}
BeginsOther act (run ∷ later) = act ≢ run.act

-- Neighbours differ in activity.
abbrev pub AreApart : List Run → Type 0
AreApart [] = Unit {0}
AreApart (run ∷ later) = BeginsOther run.act later × AreApart later

-- There is a last run, with the activity.
abbrev pub EndsIn : Activity → List Run → Type 0
EndsIn act runs = (0 < length runs) × ((d : Run) → (slice_index_or runs (length runs - 1) d).act ≡ act)

-- The last run, if there is one, has another activity.
abbrev pub EndsOther : Activity → List Run → Type 0
EndsOther act runs = 0 < length runs → (d : Run) → (slice_index_or runs (length runs - 1) d).act ≢ act

-- The runs are the maximal runs of the units, in order.
pub record AreRuns (runs : List Run) (units : List Activity) : Type 0 where
  pub joined : AreJoined runs 0 (length units)
  pub apart : AreApart runs
  pub spread : spread runs ≡ units

-- What a timeline keeps: the maximal runs of at most so many units, and how many those are.
pub record IsKept (runs : List Run) (len : ℕ) : Type 0 where
  pub whole : AreRuns runs (spread runs)
  pub count : length (spread runs) ≡ len
  pub short : len ≤ LONGEST_HISTORY
