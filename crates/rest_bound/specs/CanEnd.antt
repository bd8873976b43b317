-- When the rest of a tour's work can end, from a driver's counts at a step.
use Rattle.std.specs.Prelude.{◌≡◌, ℕ, ◌+◌, ◌-◌, ◌<◌, ◌≤◌, true, ◌⊎◌, Option, None, Some}
use Rattle.rest_bound.specs.declared.limits.Limits.{Limits}
use Rattle.rest_bound.specs.declared.counts.Counts.{Counts}
use Rattle.rest_bound.specs.declared.mode.Mode.{Mode}
use Rattle.rest_bound.specs.declared.walk.Walk.{Walk}
use Rattle.rest_bound.specs.Ends.{Plan, open_mode, credit_mode, fresh_walk, Ends}

-- The n pieces from p on can end by e after a full rest that is over at step k or later.
abbrev pub EndsFresh : Plan → Limits → ℕ → ℕ → ℕ → ℕ → Type 0
EndsFresh plan l n p k e = (v : ℕ) × (k ≤ v) × Ends plan l (open_mode l) n p (fresh_walk l v) e

-- A run of rest of r steps at step k goes on until step v, and closes the base.
pub record ClosesRun (m : Mode) (k r v : ℕ) : Type 0 where
  pub later : k ≤ v
  pub split : k + m.split_least ≤ v + r
  pub closing : k + m.closing_least ≤ v + r
  pub idle : k + m.idle_least ≤ v + r

-- They can end by e from a base whose idle steps so far are the run in progress: by going on, or by a rest first that closes the base.
abbrev pub EndsBy : Plan → Limits → Mode → ℕ → ℕ → Walk → ℕ → Type 0
EndsBy plan l m n p w e =
    Ends plan l m n p w e
    ⊎ ((plan.idles p ≡ true) × ((v : ℕ) × ClosesRun m w.at w.idle v × Ends plan l (open_mode l) n p (fresh_walk l v) e))

-- the walk from the counts c at step k, of which so much time and driving count since the base
abbrev pub walk_from : Limits → ℕ → Counts → ℕ → ℕ → Walk
walk_from l k c elapsed driving = record { at = k; latest = k + l.elapsed - elapsed; left = l.driving - driving; idle = c.run; streak = c.streak }

-- from the base of the split rest that waits, if one does
abbrev pub EndsWaiting : Plan → Limits → ℕ → ℕ → ℕ → Counts → Option ℕ → ℕ → Type 0
EndsWaiting plan l n p k c None e = Unit {0}
EndsWaiting plan l n p k c (Some w) e = EndsBy plan l (credit_mode l w) n p (walk_from l k c c.elapsed c.driving) e

-- The n pieces from p on can end by e from the counts c at step k. While the run is no full rest, both bases must leave that open: that of the last declared rest, and that of a split rest that waits.
abbrev pub CanEnd : Plan → Limits → ℕ → ℕ → ℕ → Counts → ℕ → Type 0
CanEnd plan l n p k c e =
    ((l.full_rest ≤ c.run) × EndsFresh plan l n p k e)
    ⊎ ((c.run < l.full_rest) × (EndsBy plan l (open_mode l) n p (walk_from l k c c.since c.driven) e × EndsWaiting plan l n p k c c.waiting e))
