-- The runs of a schedule, and how they are gathered.
use Rattle.std.specs.Prelude.{◌≡◌, ◌≢◌, ℕ, ◌≤◌, List, [], ◌∷◌, ◌++◌, Option, None, Some}
use Rattle.std.specs.Option.{option_to_list}
use Rattle.duty_core.specs.declared.activity.Activity.{Activity}
use Rattle.cert_text.specs.declared.cert.StepRun.{StepRun}
use Rattle.cert_text.specs.Cert.{acts_of_runs}

-- the activities of the runs, and after them those of the last one
abbrev pub acts_so_far : List StepRun → Option StepRun → List Activity
acts_so_far runs last = acts_of_runs runs ++ acts_of_runs (option_to_list last)

-- the steps of the last run
abbrev pub count_of : Option StepRun → ℕ
count_of None = 0
count_of (Some run) = run.count

-- runs after one of this activity: each has some steps, and is of another activity than its neighbours
abbrev pub AreMaximal : Option Activity → List StepRun → Type 0
AreMaximal before [] = Unit {0}
AreMaximal before (run ∷ more) = (1 ≤ run.count) × (before ≢ Some run.act) × AreMaximal (Some run.act) more

-- The runs and the last one are maximal; before the first step there are none.
abbrev pub AreSoFar : List StepRun → Option StepRun → Type 0
AreSoFar runs None = runs ≡ []
AreSoFar runs (Some last) = AreMaximal None (runs ++ last ∷ [])
