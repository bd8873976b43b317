-- What is counted over stretches of a padded history p.
use Rattle.std.specs.Prelude.{ℕ, ◌+◌, ◌<◌, ◌≤◌, Bool, cond, List, count_by, zero, suc}
use Rattle.duty_core.specs.declared.activity.Activity.{Activity}
use Rattle.duty_core.specs.Activity.{works, drives}
use Rattle.duty_core.specs.History.{between}
use Rattle.duty_core.specs.RestRun.{IsLongRun}

-- the driving from place `from` up to place `to`, without `to`
abbrev pub driving : List Activity → ℕ → ℕ → ℕ
driving p from to = count_by drives (between p from to)

-- the duty from place `from` up to place `to`, without `to`
abbrev pub duty : List Activity → ℕ → ℕ → ℕ
duty p from to = count_by works (between p from to)

-- how many of the places below n pass the test
abbrev pub places : (ℕ → Bool) → ℕ → ℕ
places test zero = 0
places test (suc n) = places test n + cond (test n) 1 0

-- The last rest run of at least so many units that has ended at place i or before ended at place `to`.
pub record IsLastEnd (least : ℕ) (p : List Activity) (i to : ℕ) : Type 0 where
  pub from : ℕ
  pub rest : IsLongRun least p from to
  pub before : to ≤ i
  pub last : (a b : ℕ) → IsLongRun least p a b → b ≤ i → b ≤ to

-- Place k lies in the last so many days, the day of place i counted, and no rest run of at least `restart` that ended at place i or before ended after k.
pub record CountsInDays (day : ℕ → ℕ) (days restart : ℕ) (p : List Activity) (i k : ℕ) : Type 0 where
  pub before : k ≤ i
  pub inside : day i < day k + days
  pub after : (a b : ℕ) → IsLongRun restart p a b → b ≤ i → b ≤ k

-- At place i the duty of so many days since the last restart is counted from place `from`: the first one that counts.
pub record IsDaysBase (day : ℕ → ℕ) (days restart : ℕ) (p : List Activity) (i from : ℕ) : Type 0 where
  pub counts : CountsInDays day days restart p i from
  pub first : (k : ℕ) → CountsInDays day days restart p i k → from ≤ k
