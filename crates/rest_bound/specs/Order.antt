-- Which counts are no worse than others at the same step.
use Rattle.std.specs.Prelude.{◌≡◌, ℕ, ◌+◌, ◌-◌, ◌≤◌, ◌⊎◌, None}
use Rattle.rest_bound.specs.declared.limits.Limits.{Limits}
use Rattle.rest_bound.specs.declared.counts.Counts.{Counts}

-- Counts c are no worse than d at step k: as much driving and time is left, the streak is no longer, no other split rest waits, and the run is as long, or both are full rests. A longer run would not do: one that is no full rest goes on to count, as idle steps, after the next piece.
pub record IsNoWorse (l : Limits) (k : ℕ) (c d : Counts) : Type 0 where
  pub elapsed : k + l.elapsed - d.elapsed ≤ k + l.elapsed - c.elapsed
  pub driving : l.driving - d.driving ≤ l.driving - c.driving
  pub since : k + l.elapsed - d.since ≤ k + l.elapsed - c.since
  pub driven : l.driving - d.driven ≤ l.driving - c.driven
  pub run : (c.run ≡ d.run) ⊎ ((l.full_rest ≤ c.run) × (l.full_rest ≤ d.run))
  pub waiting : (c.waiting ≡ None) ⊎ (c.waiting ≡ d.waiting)
  pub streak : c.streak ≤ d.streak
