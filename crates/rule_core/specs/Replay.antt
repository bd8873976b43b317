-- What it means to go over a log: the roots that it leaves, or the unit at which it breaks a rule.
use Rattle.std.specs.Prelude.{◌≡◌, ℕ, ◌+◌, ◌*◌, ◌^◌, ◌<◌, ◌≤◌, Bool, true, List, ◌++◌, length, take, map, flat_map}
use Rattle.std.specs.Option.{option_to_list}
use Rattle.duty_core.specs.declared.activity.Activity.{Activity}
use Rattle.duty_core.specs.declared.mark.Mark.{Mark}
use Rattle.duty_core.specs.declared.params.Params.{Params}
use Rattle.duty_core.specs.declared.limits.TheConstants.{LONGEST_HISTORY, MINUTE_LIMIT}
use Rattle.duty_core.specs.Params.{unit_minutes}
use Rattle.duty_core.specs.Lawful.{IsLawful}
use Rattle.rule_core.specs.declared.nexts.Next.{Next}
use Rattle.rule_core.specs.declared.roots.Root.{Root}
use Rattle.rule_core.specs.declared.over_log.Replayed.{Replayed}
use Rattle.rule_core.specs.declared.over_log.Replayed.TheVariants.{Lawful, Unlawful}
use Rattle.rule_core.specs.Reach.{IsOneOf}
use Rattle.rule_core.specs.Machine.{Machine, LeadsTo}

-- a successor as a root: the marks so far, and the one chosen on the way to it
abbrev pub root_by : {S : Type 0} → List Mark → Next S → Root S
root_by marks next = record { state = next.state; marks = marks ++ option_to_list next.mark }

-- the roots that so many equal units, the first of which begins at this minute, make of each root
abbrev pub roots_over : {S : Type 0} → Machine S → ℕ → Activity → ℕ → List (Root S) → List (Root S)
roots_over m at act n roots = flat_map (λ root. map (root_by root.marks) (m.advances root.state at act n)) roots

-- Each root has a state of this minute.
abbrev pub AreRootStates : {S : Type 0} → Machine S → ℕ → List (Root S) → Type 0
AreRootStates {S} m at roots = (root : Root S) → IsOneOf roots root → m.is_state root.state at

-- A book may be asked what so many equal units make of these roots, whose states are of this minute.
pub record MayAdvance {S : Type 0} (m : Machine S) (at n : ℕ) (roots : List (Root S)) : Type 0 where
  pub states : AreRootStates m at roots
  pub some : 1 ≤ n
  pub long : n ≤ LONGEST_HISTORY
  pub range : at + unit_minutes m.params * n < MINUTE_LIMIT

-- Some root has a state after so many equal units, the first of which begins at this minute.
abbrev pub GoesOn : {S : Type 0} → Machine S → ℕ → Activity → ℕ → List (Root S) → Type 0
GoesOn {S} m at act n roots = (root : Root S) × IsOneOf roots root × (next : Next S) × IsOneOf (m.advances root.state at act n) next

-- Of so many equal units this one, counted from 0, is the first over which no root goes on.
pub record IsFirstRefused {S : Type 0} (m : Machine S) (at : ℕ) (act : Activity) (n : ℕ) (roots : List (Root S)) (unit : ℕ) : Type 0 where
  pub inside : unit < n
  pub refused : GoesOn m at act (unit + 1) roots → ⊥
  pub before : 0 < unit → GoesOn m at act unit roots

-- Some root has a state that may stand for this one.
abbrev pub IsCoveredByRoot : {S : Type 0} → (S → S → Bool) → List (Root S) → S → Type 0
IsCoveredByRoot {S} covers roots s = (root : Root S) × IsOneOf roots root × (covers root.state s ≡ true)

-- The log reaches each root with its marks, and a root covers each state that the log reaches with any marks.
pub record AreRootsOf {S : Type 0} (unit : ℕ) (m : Machine S) (first : ℕ) (log : List Activity) (roots : List (Root S)) : Type 0 where
  pub reached : (root : Root S) → IsOneOf roots root → LeadsTo unit m first log root.marks root.state
  pub all : (s : S) (marks : List Mark) → LeadsTo unit m first log marks s → IsCoveredByRoot (λ a b. m.covers a b (first + unit * length log)) roots s
  pub some : 0 < length roots
  pub few : length roots < 2 ^ 32

-- The log is lawful with no marks whatever up to this unit, and with some up to each unit before it.
pub record IsFirstUnlawful (params : Params) (first : ℕ) (log : List Activity) (unit : ℕ) : Type 0 where
  pub inside : unit < length log
  pub unlawful : IsLawful params first (take (unit + 1) log) → ⊥
  pub before : (m : ℕ) → m < unit → IsLawful params first (take (m + 1) log)

-- Where the answer is that the log is lawful, its roots are such.
abbrev pub IfLawful : {S : Type 0} → Replayed S → (List (Root S) → Type 0) → Type 0
IfLawful (Lawful roots) holds = holds roots
IfLawful (Unlawful unit) holds = Unit {0}

-- Where the answer is that the log is not, its unit is such.
abbrev pub IfUnlawful : {S : Type 0} → Replayed S → (ℕ → Type 0) → Type 0
IfUnlawful (Lawful roots) holds = Unit {0}
IfUnlawful (Unlawful unit) holds = holds unit
