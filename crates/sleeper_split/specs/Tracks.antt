-- What a count says of the history so far, and of its marks.
use Rattle.std.specs.Prelude.{◌≡◌, ℕ, ◌+◌, ◌-◌, ◌<◌, ◌≤◌, ◌⊎◌, List, length, drop, count_by, Option, None, Some}
use Rattle.duty_core.specs.declared.activity.Activity.{Activity}
use Rattle.duty_core.specs.declared.limits.TheConstants.{COUNT_LIMIT}
use Rattle.duty_core.specs.Activity.{drives, works}
use Rattle.duty_core.specs.RestRun.{IsLongRun}
use Rattle.duty_core.specs.Stretch.{IsBerth}
use Rattle.duty_core.specs.DeclaredRest.{IsSplitRest, IsDeclared, IsLastDeclared}
use Rattle.duty_core.specs.RestRun.{EndsIn}
use Rattle.sleeper_split.specs.declared.rule.SplitRule.{SplitRule}
use Rattle.sleeper_split.specs.declared.count.Used.{Used}
use Rattle.sleeper_split.specs.declared.count.WaitingRest.{WaitingRest}
use Rattle.sleeper_split.specs.declared.count.SplitCount.{SplitCount}

-- n is the length of the longest stretch of Berth from `from` to `to`
pub record IsLongest (p : List Activity) (from to n : ℕ) : Type 0 where
  pub at : ℕ
  pub after : from ≤ at
  pub before : at + n ≤ to
  pub berth : IsBerth p at (at + n)
  pub most : (c l : ℕ) → from ≤ c → c + l ≤ to → IsBerth p c (c + l) → l ≤ n

-- p ends with n units of Berth, and no more
pub record IsStretch (p : List Activity) (n : ℕ) : Type 0 where
  pub there : n ≤ length p
  pub berth : IsBerth p (length p - n) (length p)
  pub most : (c : ℕ) → c ≤ length p → IsBerth p c (length p) → length p ≤ c + n

-- the driving and duty of p from place `from` on, and the time, without so many units that are omitted
pub record IsUsedSince (p : List Activity) (from omitted : ℕ) (u : Used) : Type 0 where
  pub drove : count_by drives (drop from p) ≡ u.driving
  pub worked : count_by works (drop from p) ≡ u.duty
  pub passed : u.elapsed + from + omitted ≡ length p

-- the last declared rest is a split rest, which waits: counts run from the one before it
pub record HasWaiting (rule : SplitRule) (p : List Activity) (Marked : ℕ → Type 0) (from to : ℕ) (used : Used) (waiting : Option WaitingRest) : Type 0 where
  pub rest : WaitingRest
  pub waits : waiting ≡ Some rest
  pub split : IsSplitRest rule.full p Marked from to
  pub long : rest.long + from ≡ to
  pub berth : IsLongest p from to rest.berth
  pub first : ℕ
  pub start : ℕ
  pub earlier : IsLastDeclared rule.full p Marked from first start
  pub since : IsUsedSince p start rest.long used

-- the last declared rest is a full rest: counts run from its end, and none waits
pub record HasFull (rule : SplitRule) (p : List Activity) (from to : ℕ) (used last : Used) (waiting : Option WaitingRest) : Type 0 where
  pub long : IsLongRun rule.full p from to
  pub same : used ≡ last
  pub none : waiting ≡ None

-- some declared rest has ended
pub record HasLast (rule : SplitRule) (p : List Activity) (Marked : ℕ → Type 0) (used later : Used) (waiting : Option WaitingRest) : Type 0 where
  pub from : ℕ
  pub to : ℕ
  pub last : IsLastDeclared rule.full p Marked (length p) from to
  pub since : IsUsedSince p to 0 later
  pub kind : HasFull rule p from to used later waiting ⊎ HasWaiting rule p Marked from to used waiting

-- none has ended, and the run in progress is long
pub record IsFresh (rule : SplitRule) (p : List Activity) (Marked : ℕ → Type 0) (run : ℕ) (s : SplitCount) : Type 0 where
  pub none : (a b : ℕ) → IsDeclared rule.full p Marked a b → ⊥
  pub long : rule.full ≤ run
  pub counted : rule.full ≤ s.run.long
  pub free : s.waiting ≡ None

-- the run in progress is counted, and so is what came after the last declared rest
pub record IsCounted (rule : SplitRule) (p : List Activity) (Marked : ℕ → Type 0) (run : ℕ) (s : SplitCount) : Type 0 where
  pub counted : s.run.long ≡ run
  pub has_last : HasLast rule p Marked s.base s.last s.waiting

-- s is the count of the history p, after its padding, where `Marked` tells at which places the runs that were declared as split rests begin. The history is short enough for each count.
pub record Tracks (rule : SplitRule) (p : List Activity) (Marked : ℕ → Type 0) (s : SplitCount) : Type 0 where
  pub short : length p < COUNT_LIMIT
  pub run : ℕ
  pub ends : EndsIn p run
  -- no mark so far names the run in progress
  pub earlier : (a : ℕ) → Marked a → a + run < length p
  pub inside : s.run.stretch ≤ run
  pub stretch : IsStretch p s.run.stretch
  pub longest : IsLongest p (length p - run) (length p) s.run.longest
  pub state : IsFresh rule p Marked run s ⊎ IsCounted rule p Marked run s
