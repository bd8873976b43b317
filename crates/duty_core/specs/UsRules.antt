-- The rules of the United States, after 49 CFR 395.3 and 395.1(g)(1), as facts of a padded history p and a place i of it. A unit is a minute.
use Rattle.std.specs.Prelude.{◌≡◌, ℕ, ◌+◌, ◌-◌, ◌≤◌, ◌⊎◌, ℤ, List, Contains, nat_eq, if◌then◌else◌}
use Rattle.duty_core.specs.declared.activity.Activity.{Activity}
use Rattle.duty_core.specs.declared.activity.Activity.TheVariants.{Drive}
use Rattle.duty_core.specs.declared.mark.Mark.{Mark}
use Rattle.duty_core.specs.declared.mark.Mark.TheVariants.{SplitRest, DeferDay}
use Rattle.duty_core.specs.declared.params.Params.{Params}
use Rattle.duty_core.specs.declared.limits.TheConstants.{US_FULL_REST, US_WINDOW_LIMIT, US_DRIVING_LIMIT, US_BREAK, US_UNBROKEN_LIMIT, US_SHORT_WEEK, US_SHORT_WEEK_LIMIT, US_LONG_WEEK_LIMIT, US_RESTART, US_SPLIT_LEAST, US_PAIR_LEAST, US_PAIR_BERTH}
use Rattle.duty_core.specs.Params.{has_berth}
use Rattle.duty_core.specs.History.{unit_at}
use Rattle.duty_core.specs.Stretch.{IsStill, HoldsBerth}
use Rattle.duty_core.specs.Counting.{driving, duty, IsDaysBase}
use Rattle.duty_core.specs.Marks.{IsMinuteOf, IsSplitAt}
use Rattle.duty_core.specs.DeclaredRest.{ArePairedAt, IsSplittable}
use Rattle.duty_core.specs.Base.{IsBase, elapsed}

-- US-WINDOW14: at a unit of driving, that unit counted, elapsed time since the base is at most the limit.
abbrev pub MeetsUsWindow14 : List Activity → (ℕ → Type 0) → ℕ → Type 0
MeetsUsWindow14 p Marked i = unit_at p i ≡ Drive → (base omitted : ℕ) → IsBase US_FULL_REST p Marked i base omitted → elapsed base omitted (i + 1) ≤ US_WINDOW_LIMIT

-- US-DRIVE11: at a unit of driving, that unit counted, driving since the base is at most the limit.
abbrev pub MeetsUsDrive11 : List Activity → (ℕ → Type 0) → ℕ → Type 0
MeetsUsDrive11 p Marked i = unit_at p i ≡ Drive → (base omitted : ℕ) → IsBase US_FULL_REST p Marked i base omitted → driving p base (i + 1) ≤ US_DRIVING_LIMIT

-- a break ends at place `to`: the 30 minutes before it hold no driving
pub record IsBreak (p : List Activity) (to : ℕ) : Type 0 where
  pub there : US_BREAK ≤ to
  pub still : IsStill p (to - US_BREAK) to

-- the last break that has ended at place i or before
pub record IsLastBreak (p : List Activity) (i to : ℕ) : Type 0 where
  pub ends : IsBreak p to
  pub before : to ≤ i
  pub last : (b : ℕ) → IsBreak p b → b ≤ i → b ≤ to

-- US-BREAK8: at a unit of driving, that unit counted, driving since the last break is at most the limit.
abbrev pub MeetsUsBreak8 : List Activity → ℕ → Type 0
MeetsUsBreak8 p i = unit_at p i ≡ Drive → (to : ℕ) → IsLastBreak p i to → driving p to (i + 1) ≤ US_UNBROKEN_LIMIT

-- the greatest duty in so many days
abbrev pub us_week_limit : ℕ → ℕ
us_week_limit days = if nat_eq days US_SHORT_WEEK then US_SHORT_WEEK_LIMIT else US_LONG_WEEK_LIMIT

-- US-WEEK: at a unit of driving, that unit counted, duty in this day and the 6 or 7 days before it, since the last restart, is at most the limit.
abbrev pub MeetsUsWeek : ℕ → (ℕ → ℕ) → List Activity → ℕ → Type 0
MeetsUsWeek days day p i = unit_at p i ≡ Drive → (from : ℕ) → IsDaysBase day days US_RESTART p i from → duty p from (i + 1) ≤ us_week_limit days

-- the rests from a to b and from c to d are a pair: ten hours together, and seven consecutive hours of Berth in one of the two
pub record IsUsPair (p : List Activity) (a b c d : ℕ) : Type 0 where
  pub sum : US_PAIR_LEAST ≤ (b - a) + (d - c)
  pub berth : HoldsBerth US_PAIR_BERTH p a b ⊎ HoldsBerth US_PAIR_BERTH p c d

-- what a mark of the minute `at` names
pub record IsUsSplit (params : Params) (first : ℕ) (p : List Activity) (at : ℕ) : Type 0 where
  pub from : ℕ
  pub minute : IsMinuteOf params first at from
  pub run : IsSplittable US_SPLIT_LEAST US_FULL_REST (has_berth params) p from

-- US-PAIR: each mark names a run that may be split, and each split rest and the next declared rest are a pair, once that has ended.
pub record MeetsUsPair (params : Params) (first : ℕ) (p : List Activity) (marks : List Mark) : Type 0 where
  pub splits : (at : ℕ) → Contains marks (SplitRest at) → IsUsSplit params first p at
  pub none_deferred : (day : ℤ) → Contains marks (DeferDay day) → ⊥
  pub pairs : (d : ℕ) → ArePairedAt US_FULL_REST (IsUsPair p) p (IsSplitAt params first marks) d
