-- What a search knows of a tour and a book, step by step: which labels grow from each other, and which is better.
use Rattle.std.specs.Prelude.{◌≡◌, ℕ, Bool, true, false, List, [], ◌∷◌, map, flat_map, Option, None, Some, nat_le, nat_lt, ◌==◌, ◌&&◌, ◌||◌, unwrap_or, if◌then◌else◌}
use Rattle.duty_core.specs.declared.activity.Activity.{Activity}
use Rattle.duty_core.specs.declared.activity.Activity.TheVariants.{Drive, Serve}
use Rattle.rule_core.specs.declared.nexts.Next.{Next}
use Rattle.tour_model.specs.Way.{progresses, done}
use Rattle.tour_model.specs.declared.label.Label.{Label}
use Rattle.cert_text.specs.declared.cover_lists.grown.Grown.{Grown}

-- A search problem. The first number of `may` and `bound`, and the number of `nexts` and `covers`, is a step.
pub record Problem (S : Type 0) : Type 0 where
  -- the progress of a finished label
  pub goal : ℕ
  -- whether the tour allows the activity at this step, after this progress
  pub may : ℕ → ℕ → Activity → Bool
  -- a step before which no continuation of a label of this step ends; where there is none, the label has no continuation
  pub bound : ℕ → Label S → Option ℕ
  -- the states after this step of an activity
  pub nexts : S → ℕ → Activity → List (Next S)
  -- whether the first state may stand for the second
  pub covers : S → S → ℕ → Bool
  -- the idle activities to try
  pub tries : S → List Activity
  -- whether the tour allows to idle after this progress
  pub may_idle : ℕ → Bool
  -- whether resting in place of anything else is always safe
  pub ahead : S → Bool

-- the departure after this step of an activity
abbrev pub departed : Option ℕ → Activity → ℕ → Option ℕ
departed depart x step = if progresses x then Some (unwrap_or depart step) else depart

-- the label at the start, in this state
abbrev pub root_label : {S : Type 0} → S → Label S
root_label s = record { depart = None; progress = 0; state = s }

-- what this step of an activity makes of a label
abbrev pub grow : {S : Type 0} → Label S → ℕ → Activity → Next S → Grown S
grow l step x n = record { label = record { depart = departed l.depart x step; progress = done l.progress x; state = n.state }; act = x; mark = n.mark }

-- a label's successors by an activity
abbrev pub grown_by : {S : Type 0} → Problem S → ℕ → Label S → Activity → List (Grown S)
grown_by problem step l x = if problem.may step l.progress x then map (grow l step x) (problem.nexts l.state step x) else []

-- a label's successors: by driving, by service, and by each idle activity to try
unfoldable pub successors_of : {S : Type 0} → Problem S → ℕ → Label S → List (Grown S)
successors_of problem step l = flat_map (grown_by problem step l) (Drive ∷ Serve ∷ problem.tries l.state)

-- not earlier; a label that has not departed is later than all
abbrev pub later : Option ℕ → Option ℕ → Bool
later None b = true
later (Some x) None = false
later (Some x) (Some y) = nat_le y x

-- The first label can rest until the second has done as much: it has done more, may idle where it is, and resting is always safe for it.
abbrev pub can_wait_for : {S : Type 0} → Problem S → Label S → Label S → Bool
can_wait_for problem a b = (nat_lt b.progress a.progress && problem.may_idle a.progress) && problem.ahead a.state

-- The first label departs no earlier, has done as much or can wait for the other to do so, and its state covers the other's.
abbrev pub is_better : {S : Type 0} → Problem S → ℕ → Label S → Label S → Bool
is_better problem step a b = (later a.depart b.depart && (a.progress == b.progress || can_wait_for problem a b)) && problem.covers a.state b.state step

-- A label can still be finished, as far as its bound tells.
pub record HasBound {S : Type 0} (problem : Problem S) (step : ℕ) (l : Label S) : Type 0 where
  pub bound : ℕ
  pub is : problem.bound step l ≡ Some bound
