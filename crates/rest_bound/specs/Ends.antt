-- When the rest of a tour's work can end, from where it has come since a base. This is a relaxed problem: idling takes as long as the driver likes, a split rest is any idle steps since the base, and the week is left out.
use Rattle.std.specs.Prelude.{◌≡◌, ℕ, suc, zero, ◌+◌, ◌-◌, ◌<◌, ◌≤◌, Bool, true, cond, ◌⊎◌}
use Rattle.rest_bound.specs.declared.limits.Limits.{Limits}
use Rattle.rest_bound.specs.declared.mode.Mode.{Mode}
use Rattle.rest_bound.specs.declared.walk.Walk.{Walk}

-- A tour, as far as the bound reads it. Pieces of its work go by number, and each takes one step.
pub record Plan : Type 0 where
  -- whether a piece is driving
  pub drives : ℕ → Bool
  -- whether a piece may be done at a step
  pub opens : ℕ → ℕ → Bool
  -- whether the driver may idle before a piece
  pub idles : ℕ → Bool

-- the steps of driving that a piece is
abbrev pub share : Plan → ℕ → ℕ
share plan p = cond (plan.drives p) 1 0

-- how a base is left where no split rest waits
abbrev pub open_mode : Limits → Mode
open_mode l = record { split_least = l.split_least; split_most = l.split_most; closing_least = 0; idle_least = l.full_rest; unbroken = l.unbroken }

-- how it is left where one of w steps waits, which is credited to the rest that closes the base
abbrev pub credit_mode : Limits → ℕ → Mode
credit_mode l w = record { split_least = l.split_least; split_most = 0; closing_least = l.full_rest - w; idle_least = 0; unbroken = l.unbroken }

-- the walk from a full rest that is over at step v
abbrev pub fresh_walk : Limits → ℕ → Walk
fresh_walk l v = record { at = v; latest = v + l.elapsed; left = l.driving; idle = 0; streak = 0 }

-- the idle steps since the base, with those until step u
abbrev pub idle_by : Walk → ℕ → ℕ
idle_by w u = w.idle + (u - w.at)

-- the driving in a row after piece p, with c steps of it in a row before
abbrev pub streak_after : Plan → ℕ → ℕ → ℕ
streak_after plan p c = cond (plan.drives p) (c + 1) 0

-- the walk after piece p at step u, with c steps of driving in a row before
abbrev pub walked : Plan → ℕ → Walk → ℕ → ℕ → Walk
walked plan p w u c = record { at = u + 1; latest = w.latest; left = w.left - share plan p; idle = idle_by w u; streak = streak_after plan p c }

-- driving at step u ends by `latest`, or by x steps later, where x of the i idle steps are a split rest, which does not count
abbrev pub IsInTime : Mode → ℕ → ℕ → ℕ → Type 0
IsInTime m u latest i = (u + 1 ≤ latest) ⊎ ((x : ℕ) × (m.split_least ≤ x) × (x ≤ m.split_most) × (x ≤ i) × (u + 1 ≤ latest + x))

-- Piece p may be done at step u: it is open there, and driving ends in time and is left.
pub record Begins (plan : Plan) (m : Mode) (p : ℕ) (w : Walk) (u : ℕ) : Type 0 where
  pub opened : plan.opens p u ≡ true
  pub within : plan.drives p ≡ true → IsInTime m u w.latest (idle_by w u)
  pub spare : plan.drives p ≡ true → share plan p ≤ w.left

-- Of a piece that is done at step u, c steps of driving in a row come before: any number after a step between, else at least the streak. With them the piece leaves a break no later than it is due.
pub record KeepsBreak (plan : Plan) (m : Mode) (p : ℕ) (w : Walk) (u c : ℕ) : Type 0 where
  pub counted : (w.at < u) ⊎ (w.streak ≤ c)
  pub within : plan.drives p ≡ true → c + 1 ≤ m.unbroken

-- A rest from step t to step v closes the base, after i idle steps before it.
pub record Closes (m : Mode) (t i v : ℕ) : Type 0 where
  pub split : t + m.split_least ≤ v
  pub closing : t + m.closing_least ≤ v
  pub idle : m.idle_least ≤ i + (v - t)

-- The n pieces from p on can end by step e, from this walk. Each is done at some step u; after it the driver goes on, or rests until step v, which closes the base, and goes on afresh.
unfoldable pub Ends : Plan → Limits → Mode → ℕ → ℕ → Walk → ℕ → Type 0
Ends plan l m zero p w e = w.at ≤ e
Ends plan l m (suc n) p w e =
    (u : ℕ) × (w.at ≤ u) × Begins plan m p w u × (c : ℕ) × KeepsBreak plan m p w u c ×
    (Ends plan l m n (p + 1) (walked plan p w u c) e
    ⊎ ((plan.idles (p + 1) ≡ true) × ((v : ℕ) × Closes m (u + 1) (idle_by w u) v × Ends plan l (open_mode l) n (p + 1) (fresh_walk l v) e)))
