-- The Canadian rules of a shift, after SOR/2005-313, sections 13 and 18, as facts of a padded history p and a place i of it. A unit is a minute.
use Rattle.std.specs.Prelude.{◌≡◌, ℕ, ◌+◌, ◌-◌, ◌≤◌, List, Contains, Some}
use Rattle.duty_core.specs.declared.activity.Activity.{Activity}
use Rattle.duty_core.specs.declared.activity.Activity.TheVariants.{Drive}
use Rattle.duty_core.specs.declared.mark.Mark.{Mark}
use Rattle.duty_core.specs.declared.mark.Mark.TheVariants.{SplitRest}
use Rattle.duty_core.specs.declared.params.Params.{Params}
use Rattle.duty_core.specs.declared.params.RestWay.TheVariants.{Split}
use Rattle.duty_core.specs.declared.limits.TheConstants.{CA_FULL_REST, CA_SHIFT_DRIVING_LIMIT, CA_SHIFT_DUTY_LIMIT, CA_ELAPSED_LIMIT, CA_SPLIT_LEAST, CA_PAIR_LEAST}
use Rattle.duty_core.specs.Params.{terms_of, has_berth}
use Rattle.duty_core.specs.History.{unit_at}
use Rattle.duty_core.specs.Stretch.{IsBerth}
use Rattle.duty_core.specs.Counting.{driving, duty}
use Rattle.duty_core.specs.Marks.{IsMinuteOf, IsSplitAt}
use Rattle.duty_core.specs.DeclaredRest.{ArePairedAt, IsSplittable}
use Rattle.duty_core.specs.Base.{IsBase, elapsed}

-- CA-SHIFT13: at a unit of driving, that unit counted, driving since the base is at most the limit.
abbrev pub MeetsCaShift13 : List Activity → (ℕ → Type 0) → ℕ → Type 0
MeetsCaShift13 p Marked i = unit_at p i ≡ Drive → (base omitted : ℕ) → IsBase CA_FULL_REST p Marked i base omitted → driving p base (i + 1) ≤ CA_SHIFT_DRIVING_LIMIT

-- CA-SHIFT14: at a unit of driving, that unit counted, duty since the base is at most the limit.
abbrev pub MeetsCaShift14 : List Activity → (ℕ → Type 0) → ℕ → Type 0
MeetsCaShift14 p Marked i = unit_at p i ≡ Drive → (base omitted : ℕ) → IsBase CA_FULL_REST p Marked i base omitted → duty p base (i + 1) ≤ CA_SHIFT_DUTY_LIMIT

-- CA-ELAPSED16: at a unit of driving, that unit counted, elapsed time since the base is at most the limit.
abbrev pub MeetsCaElapsed16 : List Activity → (ℕ → Type 0) → ℕ → Type 0
MeetsCaElapsed16 p Marked i = unit_at p i ≡ Drive → (base omitted : ℕ) → IsBase CA_FULL_REST p Marked i base omitted → elapsed base omitted (i + 1) ≤ CA_ELAPSED_LIMIT

-- the tour rests by the way `split`
abbrev pub IsSplitWay : Params → Type 0
IsSplitWay params = (terms_of params).way ≡ Some Split

-- the rests from a to b and from c to d are a pair: ten hours together, and the second one is all Berth
pub record IsCaPair (p : List Activity) (a b c d : ℕ) : Type 0 where
  pub sum : CA_PAIR_LEAST ≤ (b - a) + (d - c)
  pub berth : IsBerth p c d

-- what a mark of the minute `at` names: a run that may be split and is all Berth, under the way `split`
pub record IsCaSplit (params : Params) (first : ℕ) (p : List Activity) (at : ℕ) : Type 0 where
  pub from : ℕ
  pub minute : IsMinuteOf params first at from
  pub run : IsSplittable CA_SPLIT_LEAST CA_FULL_REST (has_berth params) p from
  pub berth : IsBerth p from run.to
  pub split_way : IsSplitWay params

-- CA-PAIR: each such mark names a run that may be split, and each split rest and the next declared rest are a pair, once that has ended.
pub record MeetsCaPair (params : Params) (first : ℕ) (p : List Activity) (marks : List Mark) : Type 0 where
  pub splits : (at : ℕ) → Contains marks (SplitRest at) → IsCaSplit params first p at
  pub pairs : (d : ℕ) → ArePairedAt CA_FULL_REST (IsCaPair p) p (IsSplitAt params first marks) d
