-- The daily rest in Canada and its deferral, after SOR/2005-313, sections 14 and 16, as facts of a padded history p. `Deferred` tells of the number of a day whether a mark defers that day.
use Rattle.std.specs.Prelude.{◌≡◌, ℕ, ◌+◌, ◌-◌, ◌<◌, ◌≤◌, ◌⊎◌, ℤ, List, Contains, Some}
use Rattle.duty_core.specs.declared.activity.Activity.{Activity}
use Rattle.duty_core.specs.declared.mark.Mark.{Mark}
use Rattle.duty_core.specs.declared.mark.Mark.TheVariants.{DeferDay}
use Rattle.duty_core.specs.declared.params.Params.{Params}
use Rattle.duty_core.specs.declared.params.RestWay.TheVariants.{Defer}
use Rattle.duty_core.specs.declared.limits.TheConstants.{CA_FULL_REST, CA_LOST_LIMIT, CA_DEFERRED_LOST_LIMIT, CA_BOTH_LOST_LIMIT}
use Rattle.duty_core.specs.Params.{terms_of}
use Rattle.duty_core.specs.Stretch.{IsRest}
use Rattle.duty_core.specs.Day.{IsNumberOfDay}
use Rattle.duty_core.specs.Marks.{IsDeferred}
use Rattle.duty_core.specs.LostMinutes.{lost}

-- Day j is one of the two days of a deferral: a deferred day, or the day after one.
abbrev pub IsInDeferral : (ℕ → Type 0) → ℕ → Type 0
IsInDeferral Deferred j = Deferred j ⊎ ((i : ℕ) × (i + 1 ≡ j) × Deferred i)

-- CA-OFF10: day j is in a deferral, or its lost minutes are at most the limit.
abbrev pub MeetsCaOff10 : (ℕ → ℕ) → List Activity → (ℕ → Type 0) → ℕ → Type 0
MeetsCaOff10 day p Deferred j = IsInDeferral Deferred j ⊎ (lost day p j ≤ CA_LOST_LIMIT)

-- Some rest run with a minute in day j has at least n minutes, counted whole. It is enough that a stretch of rest does, since a run holds it.
pub record HasRestIn (day : ℕ → ℕ) (p : List Activity) (n j : ℕ) : Type 0 where
  pub from : ℕ
  pub to : ℕ
  pub at : ℕ
  pub rest : IsRest p from to
  pub long : from + n ≤ to
  pub after : from ≤ at
  pub before : at < to
  pub of_day : day at ≡ j

-- Rest of day j may be deferred to day j + 1, where a full rest and what was deferred are taken in one.
pub record IsDeferral (day : ℕ → ℕ) (p : List Activity) (j : ℕ) : Type 0 where
  pub least : CA_LOST_LIMIT < lost day p j
  pub most : lost day p j ≤ CA_DEFERRED_LOST_LIMIT
  pub both : lost day p j + lost day p (j + 1) ≤ CA_BOTH_LOST_LIMIT
  pub rest : HasRestIn day p (CA_FULL_REST + (lost day p j - CA_LOST_LIMIT)) (j + 1)

-- the tour rests by the way `defer`
abbrev pub IsDeferWay : Params → Type 0
IsDeferWay params = (terms_of params).way ≡ Some Defer

-- what a mark of this day may stand for: a deferral under the way `defer`, and the next day has no mark
pub record IsCaDeferral (params : Params) (day : ℕ → ℕ) (p : List Activity) (marks : List Mark) (date : ℤ) : Type 0 where
  pub number : ℕ
  pub numbered : IsNumberOfDay date number
  pub defers : IsDeferral day p number
  pub alone : IsDeferred marks (number + 1) → ⊥
  pub defer_way : IsDeferWay params

-- CA-DEFER: each such mark stands for a deferral.
abbrev pub MeetsCaDefer : Params → (ℕ → ℕ) → List Activity → List Mark → Type 0
MeetsCaDefer params day p marks = (date : ℤ) → Contains marks (DeferDay date) → IsCaDeferral params day p marks date
