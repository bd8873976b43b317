-- Following a history with a given list of marks.
use Rattle.std.specs.Prelude.{◌≡◌, ℕ, ◌≤◌, List, ◌++◌, ◌⊎◌, length, take}
use Rattle.std.specs.Option.{option_to_list}
use Rattle.duty_core.specs.declared.activity.Activity.{Activity}
use Rattle.duty_core.specs.declared.mark.Mark.{Mark}
use Rattle.rule_core.specs.declared.nexts.Next.{Next}
use Rattle.rule_core.specs.Reach.{IsOneOf, Reaches}
use Rattle.cert_checker.specs.declared.follow.Held.{Held}

-- The successor leads from a state with so many marks used to this one.
pub record FollowsTo {S : Type 0} (marks : List Mark) (used : ℕ) (n : Next S) (e : Held S) : Type 0 where
  pub state : e.state ≡ n.state
  pub within : e.used ≤ length marks
  pub marked : take e.used marks ≡ take used marks ++ option_to_list n.mark

-- What these successors of a state with so many marks used add to a list.
pub record AddsNexts {S : Type 0} (marks : List Mark) (used : ℕ) (ns : List (Next S)) (old new : List (Held S)) : Type 0 where
  pub keeps : (e : Held S) → IsOneOf old e → IsOneOf new e
  pub only : (e : Held S) → IsOneOf new e → IsOneOf old e ⊎ ((n : Next S) × IsOneOf ns n × FollowsTo marks used n e)
  pub all : (n : Next S) (e : Held S) → IsOneOf ns n → FollowsTo marks used n e → IsOneOf new e

-- What one more unit makes of the states.
pub record AreAfter {S : Type 0} (nexts : S → ℕ → Activity → List (Next S)) (at : ℕ) (act : Activity) (marks : List Mark) (old new : List (Held S)) : Type 0 where
  pub only : (e : Held S) → IsOneOf new e → (d : Held S) × IsOneOf old d × (n : Next S) × IsOneOf (nexts d.state at act) n × FollowsTo marks d.used n e
  pub all : (d e : Held S) (n : Next S) → IsOneOf old d → IsOneOf (nexts d.state at act) n → FollowsTo marks d.used n e → IsOneOf new e

-- These are the states that the units reach with the first so many of the marks.
pub record AreHeld {S : Type 0} (unit : ℕ) (nexts : S → ℕ → Activity → List (Next S)) (start : S) (first : ℕ) (units : List Activity) (marks : List Mark) (held : List (Held S)) : Type 0 where
  pub within : (e : Held S) → IsOneOf held e → e.used ≤ length marks
  pub reached : (e : Held S) → IsOneOf held e → Reaches unit nexts start first units (take e.used marks) e.state
  pub all : (e : Held S) → e.used ≤ length marks → Reaches unit nexts start first units (take e.used marks) e.state → IsOneOf held e

-- One of the states is reached with all of the marks.
abbrev pub HasAllUsed : {S : Type 0} → List Mark → List (Held S) → Type 0
HasAllUsed {S} marks held = (e : Held S) × IsOneOf held e × (e.used ≡ length marks)
