-- A rule book as one value: a machine over states of histories.
use Rattle.std.specs.Prelude.{ℕ, Bool, List, Option}
use Rattle.duty_core.specs.declared.activity.Activity.{Activity}
use Rattle.duty_core.specs.declared.mark.Mark.{Mark}
use Rattle.duty_core.specs.declared.params.Params.{Params}
use Rattle.rule_core.specs.declared.nexts.Next.{Next}
use Rattle.rule_core.specs.declared.nexts.Idles.{Idles}
use Rattle.rule_core.specs.Reach.{Reaches}

-- What a book with these parameters does, S being what it remembers of a history.
pub record Machine (S : Type 0) : Type 1 where
  -- the book's parameters
  pub params : Params
  -- The state is one of a history that ends at this minute.
  pub is_state : S → ℕ → Type 0
  -- the state of the empty history that begins at this minute
  pub root : ℕ → S
  -- the states after one unit that begins at this minute
  pub nexts : S → ℕ → Activity → List (Next S)
  -- the states after so many equal units, the first of which begins at this minute
  pub advances : S → ℕ → Activity → ℕ → List (Next S)
  -- whether the first state may stand for the second at this minute
  pub covers : S → S → ℕ → Bool
  -- the idle activities that a search needs to try
  pub idles : S → Idles
  -- whether resting in place of anything else is always safe
  pub ahead : S → Bool
  -- the numbers of a state at this minute
  pub numbers : S → ℕ → List ℕ
  -- the state that has these numbers at this minute, where there is one
  pub state_of : List ℕ → ℕ → Option S

-- The history h that begins at the minute `first` leads with these marks to the state s, by units of so many minutes.
abbrev pub LeadsTo : {S : Type 0} → ℕ → Machine S → ℕ → List Activity → List Mark → S → Type 0
LeadsTo unit m first h marks s = Reaches unit m.nexts (m.root first) first h marks s
