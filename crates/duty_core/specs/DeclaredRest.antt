-- The declared rests of a padded history p: rest runs of full length, and shorter ones that a mark names. `Marked` tells of a place whether a mark names the rest run that begins there.
use Rattle.std.specs.Prelude.{◌≡◌, ℕ, ◌+◌, ◌<◌, ◌≤◌, ◌⊎◌, Bool, true, List}
use Rattle.duty_core.specs.declared.activity.Activity.{Activity}
use Rattle.duty_core.specs.RestRun.{IsRun, IsLongRun}

-- a split rest: a run that is shorter than full, with a mark
pub record IsSplitRest (full : ℕ) (p : List Activity) (Marked : ℕ → Type 0) (from to : ℕ) : Type 0 where
  pub run : IsRun p from to
  pub short : to < from + full
  pub marked : Marked from

-- a declared rest, which has ended at place `to`: a full rest, or a split rest
abbrev pub IsDeclared : ℕ → List Activity → (ℕ → Type 0) → ℕ → ℕ → Type 0
IsDeclared full p Marked from to = IsLongRun full p from to ⊎ IsSplitRest full p Marked from to

-- the last declared rest that has ended at place i or before
pub record IsLastDeclared (full : ℕ) (p : List Activity) (Marked : ℕ → Type 0) (i from to : ℕ) : Type 0 where
  pub declared : IsDeclared full p Marked from to
  pub before : to ≤ i
  pub last : (a b : ℕ) → IsDeclared full p Marked a b → b ≤ i → b ≤ to

-- The declared rest from c to d is the next one after the one from a to b, which is the last that has ended where it begins.
pub record IsNextDeclared (full : ℕ) (p : List Activity) (Marked : ℕ → Type 0) (a b c d : ℕ) : Type 0 where
  pub next : IsDeclared full p Marked c d
  pub last : IsLastDeclared full p Marked c a b

-- Where the next declared rest after a split rest ends at place d, the two are a pair. Before that nothing is asked.
abbrev pub ArePairedAt : ℕ → (ℕ → ℕ → ℕ → ℕ → Type 0) → List Activity → (ℕ → Type 0) → ℕ → Type 0
ArePairedAt full Pair p Marked d =
    (a b c : ℕ) → IsSplitRest full p Marked a b → IsNextDeclared full p Marked a b c d → Pair a b c d

-- a run that may be split, which begins at place `from`: at least so long, shorter than full, in a truck with a berth
pub record IsSplittable (least full : ℕ) (berth : Bool) (p : List Activity) (from : ℕ) : Type 0 where
  pub to : ℕ
  pub run : IsRun p from to
  pub long : from + least ≤ to
  pub short : to < from + full
  pub berthed : berth ≡ true

-- the split rest that waits for its pair at place i: the last declared rest, where that is split
pub record IsWaiting (full : ℕ) (p : List Activity) (Marked : ℕ → Type 0) (i from to : ℕ) : Type 0 where
  pub last : IsLastDeclared full p Marked i from to
  pub split : IsSplitRest full p Marked from to
