-- What is kept beside a padded history p: what is counted before each place, and the rest runs that have ended.
use Rattle.std.specs.Prelude.{◌≡◌, ℕ, ◌+◌, ◌<◌, ◌≤◌, Bool, List, Contains, All, AllPairs, length, count_by, slice_index}
use Rattle.duty_core.specs.declared.activity.Activity.{Activity}
use Rattle.duty_core.specs.Activity.{drives, works}
use Rattle.duty_core.specs.History.{between}
use Rattle.duty_core.specs.RestRun.{IsRun}
use Rattle.rule_readings.specs.declared.padded.RestRun.{RestRun}
use Rattle.rule_readings.specs.declared.padded.TheConstants.{LONGEST_PADDED}

-- for each place, and for the end, how many units before it pass the test
pub record AreCounts (test : Activity → Bool) (p : List Activity) (counts : List ℕ) : Type 0 where
  pub len : length counts ≡ length p + 1
  pub each : (k : ℕ) → k ≤ length p → slice_index counts k ≡ count_by test (between p 0 k)

-- the rest runs of p that have ended, each once, in order
pub record AreRestRuns (p : List Activity) (runs : List RestRun) : Type 0 where
  pub each : All (λ run. IsRun p run.from run.to) runs
  pub every : (a b : ℕ) → IsRun p a b → Contains runs (record { from = a; to = b })
  pub ordered : AllPairs (λ run later. run.to < later.from) runs

-- what a padded history keeps
pub record IsKept (p : List Activity) (driven worked : List ℕ) (rests : List RestRun) (len : ℕ) : Type 0 where
  pub count : length p ≡ len
  pub short : len ≤ LONGEST_PADDED
  pub driving : AreCounts drives p driven
  pub duty : AreCounts works p worked
  pub runs : AreRestRuns p rests
