-- The rest runs of a padded history p.
use Rattle.std.specs.Prelude.{◌≡◌, ℕ, ◌+◌, ◌<◌, ◌≤◌, true, false, List, length}
use Rattle.duty_core.specs.declared.activity.Activity.{Activity}
use Rattle.duty_core.specs.Activity.{rests}
use Rattle.duty_core.specs.History.{unit_at}

-- The places from `from` up to `to`, without `to`, are a whole rest run, and it has ended: the unit at `to` is duty.
-- Past the end of p there is rest, so the run that p ends with has not ended.
pub record IsRun (p : List Activity) (from to : ℕ) : Type 0 where
  pub some : from < to
  pub rest : (k : ℕ) → from ≤ k → k < to → rests (unit_at p k) ≡ true
  pub starts : (k : ℕ) → k + 1 ≡ from → rests (unit_at p k) ≡ false
  pub ended : rests (unit_at p to) ≡ false

-- a rest run of at least so many units, which has ended
pub record IsLongRun (least : ℕ) (p : List Activity) (from to : ℕ) : Type 0 where
  pub run : IsRun p from to
  pub long : from + least ≤ to

-- The run in progress: p ends with r units of rest, and the unit before them is duty.
pub record EndsIn (p : List Activity) (r : ℕ) : Type 0 where
  pub there : r ≤ length p
  pub rest : (k : ℕ) → length p ≤ k + r → k < length p → rests (unit_at p k) ≡ true
  pub starts : (k : ℕ) → k + 1 + r ≡ length p → rests (unit_at p k) ≡ false
