-- The lost minutes before each place of a padded history.
use Rattle.std.specs.Prelude.{◌≡◌, ℕ, ◌+◌, ◌≤◌, List, length, slice_index}
use Rattle.duty_core.specs.declared.activity.Activity.{Activity}
use Rattle.duty_core.specs.Counting.{places}
use Rattle.duty_core.specs.LostMinutes.{is_lost}

-- The counts tell of each place of p, and of its end, how many places before it are lost.
pub record AreLostCounts (p : List Activity) (counts : List ℕ) : Type 0 where
  pub many : length counts ≡ length p + 1
  pub each : (k : ℕ) → k ≤ length p → slice_index counts k ≡ places (is_lost p) k
