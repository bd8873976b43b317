-- The lawful steps of a driver, by counts: what each leads to, and which ends a list of them reaches.
use Rattle.std.specs.Prelude.{◌≡◌, ℕ, suc, zero, ◌+◌, ◌-◌, ◌<◌, ◌≤◌, true, cond, List, [], ◌∷◌, nat_le, Option, None, Some}
use Rattle.rest_bound.specs.declared.limits.Limits.{Limits}
use Rattle.rest_bound.specs.declared.counts.Counts.{Counts}
use Rattle.rest_bound.specs.declared.counts.Deed.{Deed}
use Rattle.rest_bound.specs.declared.counts.Deed.TheVariants.{Work, Split, Wait, SplitWait, Idle}
use Rattle.rest_bound.specs.Ends.{Plan, share, streak_after}

-- the counts after a step of duty that comes after a full rest: d of it is driving, and b steps of driving in a row end with it
abbrev pub after_full : ℕ → ℕ → Counts
after_full d b = record { driving = d; elapsed = 1; driven = d; since = 1; run = 0; waiting = None; streak = b }

-- where no rest before it is declared
abbrev pub after_undeclared : ℕ → ℕ → Counts → Counts
after_undeclared d b c = record { driving = c.driving + d; elapsed = c.elapsed + 1; driven = c.driven + d; since = c.since + 1; run = 0; waiting = c.waiting; streak = b }

-- where no split rest is declared: a run that is long enough is a full rest
abbrev pub after_duty : Limits → ℕ → ℕ → Counts → Counts
after_duty l d b c = cond (nat_le l.full_rest c.run) (after_full d b) (after_undeclared d b c)

-- where the run before it is declared as a split rest: the base is now where the last declared rest ended
abbrev pub after_split : ℕ → ℕ → Counts → Counts
after_split d b c = record { driving = c.driven + d; elapsed = c.since - c.run + 1; driven = d; since = 1; run = 0; waiting = Some c.run; streak = b }

-- after piece p, without and with a split rest declared before it
abbrev pub worked : Plan → Limits → ℕ → Counts → Counts
worked plan l p c = after_duty l (share plan p) (streak_after plan p c.streak) c

abbrev pub split_worked : Plan → ℕ → Counts → Counts
split_worked plan p c = after_split (share plan p) (streak_after plan p c.streak) c

-- after a step of duty that does no piece, without and with a split rest declared before it
abbrev pub waited : Limits → Counts → Counts
waited l c = after_duty l 0 0 c

abbrev pub split_waited : Counts → Counts
split_waited c = after_split 0 0 c

-- after a step of rest
abbrev pub idled : Counts → Counts
idled c = record { driving = c.driving; elapsed = c.elapsed + 1; driven = c.driven; since = c.since + 1; run = c.run + 1; waiting = c.waiting; streak = 0 }

-- Piece p may be done at step k, which leads to these counts: it is open there, and driving keeps within the limits.
pub record MayWork (plan : Plan) (l : Limits) (p k : ℕ) (after : Counts) : Type 0 where
  pub opened : plan.opens p k ≡ true
  pub elapsed : plan.drives p ≡ true → after.elapsed ≤ l.elapsed
  pub driving : plan.drives p ≡ true → after.driving ≤ l.driving
  pub unbroken : plan.drives p ≡ true → after.streak ≤ l.unbroken

-- A run makes a full rest with the split rest that waits, if one does.
abbrev pub Pairs : Limits → ℕ → Option ℕ → Type 0
Pairs l run None = Unit {0}
Pairs l run (Some w) = l.full_rest ≤ w + run

-- The run in progress may be declared as a split rest.
pub record MaySplit (l : Limits) (c : Counts) : Type 0 where
  pub least : l.split_least ≤ c.run
  pub most : c.run ≤ l.split_most
  pub short : c.run < l.full_rest
  pub pairs : Pairs l c.run c.waiting

-- From the counts c at step k these deeds are lawful, do the n pieces from p on, and end at step e.
abbrev pub Reaches : Plan → Limits → List Deed → ℕ → ℕ → ℕ → Counts → ℕ → Type 0
Reaches plan l [] n p k c e = (n ≡ 0) × (k ≡ e)
Reaches plan l (Work ∷ ds) zero p k c e = ⊥
Reaches plan l (Work ∷ ds) (suc n) p k c e = MayWork plan l p k (worked plan l p c) × Reaches plan l ds n (p + 1) (k + 1) (worked plan l p c) e
Reaches plan l (Split ∷ ds) zero p k c e = ⊥
Reaches plan l (Split ∷ ds) (suc n) p k c e = MaySplit l c × (MayWork plan l p k (split_worked plan p c) × Reaches plan l ds n (p + 1) (k + 1) (split_worked plan p c) e)
Reaches plan l (Wait ∷ ds) n p k c e = (plan.idles p ≡ true) × Reaches plan l ds n p (k + 1) (waited l c) e
Reaches plan l (SplitWait ∷ ds) n p k c e = (plan.idles p ≡ true) × (MaySplit l c × Reaches plan l ds n p (k + 1) (split_waited c) e)
Reaches plan l (Idle ∷ ds) n p k c e = (plan.idles p ≡ true) × Reaches plan l ds n p (k + 1) (idled c) e

-- What holds of the counts of each history, before piece p.
pub record AreCounts (plan : Plan) (p : ℕ) (c : Counts) : Type 0 where
  pub shorter : c.since ≤ c.elapsed
  pub fewer : c.driven ≤ c.driving
  pub rests : 0 < c.run → plan.idles p ≡ true

-- The limits are such that a rest is needed, and that a full rest is at least as long as a split one.
pub record AreLimits (l : Limits) : Type 0 where
  pub some : 0 < l.split_least
  pub split : l.split_least ≤ l.full_rest

-- There is an end, and it is at most e.
abbrev pub AtMost : Option ℕ → ℕ → Type 0
AtMost None e = ⊥
AtMost (Some b) e = b ≤ e
